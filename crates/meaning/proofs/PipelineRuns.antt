-- The pipeline of an alternative: its current value is on exactly where a run of the alternative ends under the guard.
-- Example: that of [a, b after 2] is on at t where a held at t - 2 and b holds at t.
-- Assumes refusals 7 and 12 of the alternative, and that the pipeline's stores drive its registers. In the proofs B, F and E are
-- 7 of a term, 7 of a hop and 12, D that the stores drive, P that R has no empty run, and M that e marks the ends of R.
use mathlib.Core.Bool.{Bool}
use mathlib.Core.Path.{◌≡◌, refl, subst}
use mathlib.Core.Logic.{◌↔◌}
use mathlib.Core.List.{List, [], ◌∷◌}
use Prim.Native.Nat.{ℕ, zero, suc, ◌+◌, ◌≤◌, ◌<◌}
use native.Mathlib.Omega.{arith}
use native.Mathlib.Decide.{dec_le}
use lib.ListN.{length}
use lib.Dec.{T}
use Rattle.meaning.specs.Match.{Runs, Join}
use Rattle.meaning.specs.Expression.{Expr, one·, Synth, chained}
use Rattle.meaning.specs.Alternative.{Guard, unguarded, guard}
use Rattle.meaning.specs.Machines.{bb}
use Rattle.meaning.specs.Pipeline.{guard_and, delays, hop_over, apply_term, seed, later, laters, synth_seq_pipeline}
use Rattle.meaning.specs.declared.SeqTerm.{SeqTerm}
use Rattle.meaning.specs.declared.SeqTerm.TheVariants.{Bool as BoolTerm, Goto, Nonconsec, ConsecAtLeast, Empty}
use Rattle.meaning.specs.declared.SeqHop.{SeqHop}
use Rattle.meaning.specs.declared.SeqHop.TheVariants.{Fixed, AtLeast}
use Rattle.meaning.specs.declared.SeqStep.{SeqStep}
use Rattle.meaning.proofs.Values.{Drives}
use Rattle.meaning.proofs.Acceptable.{IsBool, IsEmpty, NotEmpty, FixedFrom1, EmptiesFit, Rule7, Rule12}
use Rattle.meaning.proofs.On.{On, drives_first, drives_rest}
use Rattle.meaning.proofs.RunLaws.{NoEmptyRun}
use Rattle.meaning.proofs.Joining.{Reaches, JoinOver, join_over_no_empty, join_over_by_its_ticks}
use Rattle.meaning.proofs.MachineRuns.{StartedBy, goto_fsm_ends_goto_runs, nonconsec_fsm_ends_nonconsec_runs, consec_run_fsm_ends_long_runs}
use Rattle.meaning.proofs.HopRuns.{FixedIfGuarded, GuardOn, GuardAfter, guard_and_is_both, delays_are_late, HopFrom, a_hop_reaches}
use Rattle.meaning.proofs.AlternativeRuns.{TermRuns, FollowedBy, AlternativeRuns, term_no_empty, bool_length, term_forward}

-- 7, of a term: under a guard it is a Bool.
abbrev pub BoolIfGuarded : Guard → SeqTerm → Type 0
BoolIfGuarded unguarded x = Unit {0}
BoolIfGuarded (guard c) x = IsBool x

-- 7, step by step.
rule_7_of_a_step : (g : Guard) (s : SeqStep) (ss : List SeqStep) → Rule7 g (s ∷ ss)
    → BoolIfGuarded g s.term × FixedIfGuarded g s.hop × Rule7 g ss
rule_7_of_a_step unguarded s ss F = (tt, tt, tt)
rule_7_of_a_step (guard c) s ss F = F

module _ (σ Reg : ℕ → ℕ → Bool) where
  -- The guard holds at each tick from i to t.
  abbrev pub GuardOver : Guard → ℕ → ℕ → Type 0
  GuardOver g i t = (m : ℕ) → i ≤ m → m ≤ t → GuardOn σ Reg g m

  -- A run ends with tick t, and the guard holds at each of its ticks.
  abbrev pub EndsUnder : Guard → Runs → ℕ → Type 0
  EndsUnder g R t = (i : ℕ) × R i (suc t) × GuardOver g i t

  -- The expression is on exactly where a run ends at each tick of which the guard holds.
  abbrev pub MarksEnds : Guard → Expr → Runs → Type 0
  MarksEnds g e R = (t : ℕ) → On σ Reg e t ↔ EndsUnder g R t

  -- A term on its activation is on where a run of the term ends that began with the activation.
  pub a_term_ends_its_runs : (x : SeqTerm) → NotEmpty x → (n : ℕ) (act : Expr)
      → Drives σ Reg n (apply_term x n act).stores → (t : ℕ)
      → On σ Reg (apply_term x n act).cur t ↔ StartedBy σ Reg act (TermRuns σ x) t
  a_term_ends_its_runs (BoolTerm a) p n act D t = (
    λ (x, y). (t, x, (refl, y)),
    λ (s, x, (e, y)). (subst (On σ Reg act) (omega arith) x, subst (λ z. T (σ z a)) (omega arith) y),
  )
  a_term_ends_its_runs (Goto b k) p n act D t = goto_fsm_ends_goto_runs σ Reg b k n act D t
  a_term_ends_its_runs (Nonconsec b k) p n act D t = nonconsec_fsm_ends_nonconsec_runs σ Reg b k n act D t
  a_term_ends_its_runs (ConsecAtLeast b k) p n act D t = consec_run_fsm_ends_long_runs σ Reg b k n act D t
  a_term_ends_its_runs Empty p n act D t = absurd p

  -- Under a guard a term has one tick, so that no tick is left after its first.
  guard_after_a_term : (g : Guard) (x : SeqTerm) → BoolIfGuarded g x → (s t : ℕ) → TermRuns σ x s (suc t) → GuardAfter σ Reg g s t
  guard_after_a_term unguarded x B s t r m p q = tt
  guard_after_a_term (guard c) x B s t r m p q = absurd (omega (arith, bool_length σ x B s (suc t) r))

  -- The hop and then a term that is no Empty.
  a_later_term_marks : (g : Guard) (x : SeqTerm) (h : SeqHop) → NotEmpty x → BoolIfGuarded g x → FixedIfGuarded g h
      → (n : ℕ) (e : Expr) → Drives σ Reg n (chained n (hop_over g h n e) (apply_term x)).stores → (R : Runs) → NoEmptyRun R → MarksEnds g e R
      → MarksEnds g (chained n (hop_over g h n e) (apply_term x)).cur (JoinOver h R (TermRuns σ x))
  a_later_term_marks g x h N B F n e D R P M t = (outward, inward)
    where
      o : Synth
      o = hop_over g h n e

      n' : ℕ
      n' = n + length o.stores

      p : Synth
      p = apply_term x n' o.cur

      hop : (s : ℕ) → On σ Reg o.cur s ↔ HopFrom σ Reg g h e s
      hop = a_hop_reaches σ Reg g h F n e (drives_first σ Reg o.stores p.stores n D)

      term : On σ Reg p.cur t ↔ StartedBy σ Reg o.cur (TermRuns σ x) t
      term = a_term_ends_its_runs x N n' o.cur (drives_rest σ Reg o.stores p.stores n D) t

      ticks : (i : ℕ) → JoinOver h R (TermRuns σ x) i (suc t) ↔ ((u s : ℕ) × R i (suc u) × Reaches h u s × TermRuns σ x s (suc t))
      ticks i = join_over_by_its_ticks h R (TermRuns σ x) P (term_no_empty σ x N) i (suc t)

      outward : On σ Reg p.cur t → EndsUnder g (JoinOver h R (TermRuns σ x)) t
      outward v =
          let (s, act, X) = term.0 v in
          let (u, y, H, G) = (hop s).0 act in
          let (i, r, K) = (M u).0 y in (
            i,
            (ticks i).1 (u, s, r, H, X),
            λ m w w'. elim (dec_le m u) [
              | yes z ↦ K m w z
              | no z ↦ elim (dec_le m s) [ yes z' ↦ G m (omega arith) z' | no z' ↦ guard_after_a_term g x B s t X m (omega arith) w' ]
            ],
          )

      inward : EndsUnder g (JoinOver h R (TermRuns σ x)) t → On σ Reg p.cur t
      inward (i, j, K) =
          let (u, s, r, (d, a, e), X) = (ticks i).0 j in
          let l : i < suc u = P i (suc u) r in
          let l' : s < suc t = term_no_empty σ x N s (suc t) X in
          let y = (M u).1 (i, r, λ m w w'. K m w (omega arith)) in
          term.1 (s, (hop s).1 (u, y, (d, a, e), λ m w w'. K m (omega arith) (omega arith)), X)

  -- Empty after a fixed hop of d + 1: d delays, and a run that ends d ticks later.
  an_empty_marks : (d n : ℕ) (e : Expr) → Drives σ Reg n (delays unguarded d n e).stores
      → (R : Runs) → NoEmptyRun R → MarksEnds unguarded e R
      → MarksEnds unguarded (delays unguarded d n e).cur (JoinOver (Fixed (suc d)) R (TermRuns σ Empty))
  an_empty_marks d n e D R P M t = (outward, λ (i, (c, q, j), K). inward i (subst (λ z. Join z R (TermRuns σ Empty) i (suc t)) q j))
    where
      late : On σ Reg (delays unguarded d n e).cur t ↔ ((u : ℕ) × On σ Reg e u × (t ≡ u + d) × GuardAfter σ Reg unguarded u t)
      late = delays_are_late σ Reg unguarded d n e D t

      outward : On σ Reg (delays unguarded d n e).cur t → EndsUnder unguarded (JoinOver (Fixed (suc d)) R (TermRuns σ Empty)) t
      outward v =
          let (u, y, w, G) = late.0 v in
          let (i, r, K) = (M u).0 y in
          (i, (suc d, refl, (suc u, r, omega arith)), λ m p q. tt)

      inward : (i : ℕ) → Join (suc d) R (TermRuns σ Empty) i (suc t) → On σ Reg (delays unguarded d n e).cur t
      inward i (zero, r, q) = absurd (omega (arith, P i zero r))
      inward i (suc u, r, q) = late.1 (u, (M u).1 (i, r, λ m p q. tt), omega arith, λ m p q. tt)

  -- A later step of either kind.
  a_later_step_marks : (g : Guard) (x : SeqTerm) (h : SeqHop) → BoolIfGuarded g x → FixedIfGuarded g h → (IsEmpty x → FixedFrom1 h)
      → (n : ℕ) (e : Expr) → Drives σ Reg n (later g x h n e).stores → (R : Runs) → NoEmptyRun R → MarksEnds g e R
      → MarksEnds g (later g x h n e).cur (JoinOver h R (TermRuns σ x))
  a_later_step_marks g (BoolTerm a) h B F E n e D R P M = a_later_term_marks g (BoolTerm a) h tt B F n e D R P M
  a_later_step_marks g (Goto b k) h B F E n e D R P M = a_later_term_marks g (Goto b k) h tt B F n e D R P M
  a_later_step_marks g (Nonconsec b k) h B F E n e D R P M = a_later_term_marks g (Nonconsec b k) h tt B F n e D R P M
  a_later_step_marks g (ConsecAtLeast b k) h B F E n e D R P M = a_later_term_marks g (ConsecAtLeast b k) h tt B F n e D R P M
  a_later_step_marks (guard c) Empty h B F E n e D R P M = absurd B
  a_later_step_marks unguarded Empty (Fixed (suc d)) B F E n e D R P M = an_empty_marks d n e D R P M
  a_later_step_marks unguarded Empty (Fixed zero) B F E n e D R P M = absurd (E tt)
  a_later_step_marks unguarded Empty (AtLeast m) B F E n e D R P M = absurd (E tt)

  -- All later steps; p is the term before them.
  later_steps_mark : (g : Guard) (p : SeqTerm) (ss : List SeqStep) → Rule7 g ss → EmptiesFit p ss → (n : ℕ) (e : Expr)
      → Drives σ Reg n (laters g ss n e).stores → (R : Runs) → NoEmptyRun R → MarksEnds g e R
      → MarksEnds g (laters g ss n e).cur (FollowedBy σ R ss)
  later_steps_mark g p [] F E n e D R P M = M
  later_steps_mark g p (s ∷ ss) F E n e D R P M =
      let X = TermRuns σ s.term in
      let o : Synth = later g s.term s.hop n e in
      let n' = n + length o.stores in
      let q : Synth = laters g ss n' o.cur in
      let (B, F₁, F₂) = rule_7_of_a_step g s ss F in
      later_steps_mark g s.term ss F₂ E.2 n' o.cur (drives_rest σ Reg o.stores q.stores n D)
      (JoinOver s.hop R X) (join_over_no_empty s.hop R X P (term_forward σ s.term))
      (a_later_step_marks g s.term s.hop B F₁ E.1 n e (drives_first σ Reg o.stores q.stores n D) R P M)

  -- A leading machine is activated at every tick.
  a_leading_machine_marks : (x : SeqTerm) → NotEmpty x → (n : ℕ) → Drives σ Reg n (apply_term x n one·).stores
      → MarksEnds unguarded (apply_term x n one·).cur (TermRuns σ x)
  a_leading_machine_marks x N n D t =
      let term = a_term_ends_its_runs x N n one· D t in
      (λ v. let (s, act, X) = term.0 v in (s, X, λ m p q. tt), λ (s, X, K). term.1 (s, tt, X))

  -- The first term, with the guard.
  the_seed_marks : (g : Guard) (x : SeqTerm) → NotEmpty x → BoolIfGuarded g x → (n : ℕ) → Drives σ Reg n (seed x n).stores
      → MarksEnds g (guard_and g (seed x n).cur) (TermRuns σ x)
  the_seed_marks g (BoolTerm a) N B n D t =
      let guarded = guard_and_is_both σ Reg g (bb a) t in (
        λ v. let (y, G) = guarded.0 v in (t, (refl, y), λ m p q. subst (GuardOn σ Reg g) (omega arith) G),
        λ (i, (e, y), K). guarded.1 (subst (λ z. T (σ z a)) (omega arith) y, K t (omega arith) (omega arith)),
      )
  the_seed_marks unguarded (Goto b k) N B n D t = a_leading_machine_marks (Goto b k) N n D t
  the_seed_marks unguarded (Nonconsec b k) N B n D t = a_leading_machine_marks (Nonconsec b k) N n D t
  the_seed_marks unguarded (ConsecAtLeast b k) N B n D t = a_leading_machine_marks (ConsecAtLeast b k) N n D t
  the_seed_marks (guard c) (Goto b k) N B n D t = absurd B
  the_seed_marks (guard c) (Nonconsec b k) N B n D t = absurd B
  the_seed_marks (guard c) (ConsecAtLeast b k) N B n D t = absurd B
  the_seed_marks g Empty N B n D t = absurd N

  -- The whole pipeline of an alternative.
  pub a_pipeline_marks_its_runs : (g : Guard) (ss : List SeqStep) → Rule7 g ss → Rule12 ss → (n : ℕ)
      → Drives σ Reg n (synth_seq_pipeline g ss n).stores
      → MarksEnds g (synth_seq_pipeline g ss n).cur (AlternativeRuns σ ss)
  a_pipeline_marks_its_runs g [] F E n D = absurd E
  a_pipeline_marks_its_runs g (s ∷ ss) F E n D =
      let X = TermRuns σ s.term in
      let o : Synth = seed s.term n in
      let n' = n + length o.stores in
      let q : Synth = laters g ss n' (guard_and g o.cur) in
      let (B, F₁, F₂) = rule_7_of_a_step g s ss F in
      later_steps_mark g s.term ss F₂ E.1 n' (guard_and g o.cur) (drives_rest σ Reg o.stores q.stores n D)
      X (term_no_empty σ s.term E.0) (the_seed_marks g s.term E.0 B n (drives_first σ Reg o.stores q.stores n D))
