-- The choice at a root that is no within: it is on exactly where a match of the tree ends.
-- Example: `c throughout (a ##1 b)` is on at t where a held at t - 1, b holds at t, and c held at both.
-- Assumes of the tree what refusals 3, 6, 7, 8 and 12 leave, with throughout only on top, and that the stores drive their
-- registers. In the proofs k is what the tree is, K what its alternatives passed, D that the stores drive.
use mathlib.Core.Bool.{Bool}
use mathlib.Core.Path.{refl, subst, subst⁻¹}
use mathlib.Core.Logic.Iff
use mathlib.Core.Logic.{◌↔◌, ◌⊎◌, inl, inr}
use mathlib.Core.List.{List, [], ◌∷◌}
use Prim.Native.Nat.{ℕ, zero, suc, ◌+◌, ◌≤◌}
use native.Mathlib.Omega.{arith}
use lib.ListN.{length}
use Rattle.meaning.specs.Tree.{Seq, throughout}
use Rattle.meaning.specs.Match.{Match}
use Rattle.meaning.specs.Expression.{Expr, a·, any}
use Rattle.meaning.specs.Alternative.{Guard, unguarded, guard, and_opt, SeqAlt, step, guard_each, expand}
use Rattle.meaning.specs.Pipeline.{synth_seq_pipeline}
use Rattle.meaning.specs.Root.{lone_or_pipeline, match_sigs, choice}
use Rattle.meaning.specs.declared.SeqTerm.{SeqTerm}
use Rattle.meaning.specs.declared.SeqTerm.TheVariants.{Bool as BoolTerm, Goto, Nonconsec, ConsecAtLeast, Empty}
use Rattle.meaning.specs.declared.SeqHop.TheVariants.{Fixed}
use Rattle.meaning.specs.declared.SeqStep.{SeqStep}
use Rattle.meaning.proofs.Values.{Drives}
use Rattle.meaning.proofs.Acceptable.{In, NotEmpty, Rule7, Rule12, Rules7And12, Regular, RegularChain}
use Rattle.meaning.proofs.Roots.{by_throughouts}
use Rattle.meaning.proofs.On.{On, drives_first, drives_rest}
use Rattle.meaning.proofs.HopRuns.{GuardOn}
use Rattle.meaning.proofs.AlternativeRuns.{rule_12_fits, TermRuns, AlternativeRuns, alternative_no_empty}
use Rattle.meaning.proofs.PipelineRuns.{GuardOver, EndsUnder, MarksEnds, a_pipeline_marks_its_runs}
use Rattle.meaning.proofs.Members.{guarded_by, in_guard_each}
use Rattle.meaning.proofs.EveryAlternative.{no_guards}
use Rattle.meaning.proofs.ExpansionRuns.{expansion_keeps_the_matches}
use Rattle.meaning.proofs.AnyOn.{AnyOn, any_of_is_on}

-- What passes 7 and 12 under one condition more passes without it.
rule_7_with_less : (g : Guard) (c : Expr) (ss : List SeqStep) → Rule7 (and_opt g (guard c)) ss → Rule7 g ss
rule_7_with_less unguarded c ss F = tt
rule_7_with_less (guard x) c ss F = F

rules_with_less : (c : ℕ) (alts : List SeqAlt) → Rules7And12 (guard_each c alts) → Rules7And12 alts
rules_with_less c alts K y m =
    let (p, q) = K (guarded_by c y) ((in_guard_each c alts (guarded_by c y)).1 (y, m, refl)) in
    (rule_7_with_less y.guard (any (a· c)) y.steps p, q)

module _ (σ Reg : ℕ → ℕ → Bool) where
  -- One condition more holds where the guard and the condition do.
  and_opt_is_both : (g : Guard) (c : Expr) (t : ℕ) → GuardOn σ Reg (and_opt g (guard c)) t ↔ (GuardOn σ Reg g t × On σ Reg c t)
  and_opt_is_both unguarded c t = (λ h. (tt, h), λ h. h.1)
  and_opt_is_both (guard x) c t = Iff.rfl

  -- The signal of one alternative: a lone Bool is bare, which changes nothing.
  an_alternative_marks_its_runs : (g : Guard) (ss : List SeqStep) → Rule7 g ss → Rule12 ss → (n : ℕ)
      → Drives σ Reg n (lone_or_pipeline g ss n).stores → MarksEnds σ Reg g (lone_or_pipeline g ss n).cur (AlternativeRuns σ ss)
  an_alternative_marks_its_runs unguarded [] F E n D = absurd E
  an_alternative_marks_its_runs unguarded (s ∷ []) F E n D = lone s.term E.0 D
    where
      pipeline : (x : SeqTerm) → NotEmpty x → Drives σ Reg n (synth_seq_pipeline unguarded (step x (Fixed zero) ∷ []) n).stores
          → MarksEnds σ Reg unguarded (synth_seq_pipeline unguarded (step x (Fixed zero) ∷ []) n).cur (TermRuns σ x)
      pipeline x N D = a_pipeline_marks_its_runs σ Reg unguarded (step x (Fixed zero) ∷ []) tt (N, tt) n D

      lone : (x : SeqTerm) → NotEmpty x → Drives σ Reg n (lone_or_pipeline unguarded (step x s.hop ∷ []) n).stores
          → MarksEnds σ Reg unguarded (lone_or_pipeline unguarded (step x s.hop ∷ []) n).cur (TermRuns σ x)
      lone (BoolTerm a) N D = pipeline (BoolTerm a) N tt
      lone (Goto b k) N D = pipeline (Goto b k) N D
      lone (Nonconsec b k) N D = pipeline (Nonconsec b k) N D
      lone (ConsecAtLeast b k) N D = pipeline (ConsecAtLeast b k) N D
      lone Empty N D = absurd N
  an_alternative_marks_its_runs unguarded (s ∷ r ∷ ss) F E n D = a_pipeline_marks_its_runs σ Reg unguarded (s ∷ r ∷ ss) F E n D
  an_alternative_marks_its_runs (guard x) ss F E n D = a_pipeline_marks_its_runs σ Reg (guard x) ss F E n D

  -- A run of one of the alternatives, under its guard.
  abbrev GuardedRun : List SeqAlt → ℕ → ℕ → Type 0
  GuardedRun alts i t = (y : SeqAlt) × In y alts × AlternativeRuns σ y.steps i (suc t) × GuardOver σ Reg y.guard i t

  -- One of the signals is on where a run of one of the alternatives ends under its guard.
  the_signals_mark_the_runs : (alts : List SeqAlt) → Rules7And12 alts → (n : ℕ)
      → Drives σ Reg n (match_sigs alts n).stores → (t : ℕ)
      → AnyOn σ Reg (match_sigs alts n).curs t ↔ ((i : ℕ) × GuardedRun alts i t)
  the_signals_mark_the_runs [] K n D t = (λ h. absurd h, λ (i, (y, m, x, G)). absurd m)
  the_signals_mark_the_runs (y ∷ ys) K n D t =
      let o = lone_or_pipeline y.guard y.steps n in
      let n' = n + length o.stores in
      let p = match_sigs ys n' in
      let (F, E) = K y (inl refl) in
      let first = an_alternative_marks_its_runs y.guard y.steps F E n (drives_first σ Reg o.stores p.stores n D) t in
      let others = the_signals_mark_the_runs ys (λ z q. K z (inr q)) n' (drives_rest σ Reg o.stores p.stores n D) t in
      (outward first others, inward first others)
    where
      Ends : SeqAlt → Type 0
      Ends y = EndsUnder σ Reg y.guard (AlternativeRuns σ y.steps) t

      outward : {P Q : Type 0} → (P ↔ Ends y) → (Q ↔ ((i : ℕ) × GuardedRun ys i t)) → P ⊎ Q → (i : ℕ) × GuardedRun (y ∷ ys) i t
      outward first others (inl h) = let (i, x, G) = first.0 h in (i, (y, inl refl, x, G))
      outward first others (inr h) = let (i, (z, q, x, G)) = others.0 h in (i, (z, inr q, x, G))

      inward : {P Q : Type 0} → (P ↔ Ends y) → (Q ↔ ((i : ℕ) × GuardedRun ys i t)) → (i : ℕ) × GuardedRun (y ∷ ys) i t → P ⊎ Q
      inward first others (i, (z, inl e, x, G)) = inl (first.1 (subst Ends e (i, x, G)))
      inward first others (i, (z, inr q, x, G)) = inr (others.1 (i, (z, q, x, G)))

  -- The alternatives of a tree that 7 and 12 let pass run, under their guards, where the tree matches.
  abbrev Keeps : Seq → Type 0
  Keeps s = Rules7And12 (expand s) → (i t : ℕ) → Match σ s i (suc t) ↔ GuardedRun (expand s) i t

  -- Without throughout no guard is to hold.
  regular_keeps_the_matches : (s : Seq) → Regular s → Keeps s
  regular_keeps_the_matches s k K i t =
      let same = expansion_keeps_the_matches σ s k (λ y m. rule_12_fits y.steps (K y m).1) i (suc t) in (
        λ h. let (y, m, x) = same.0 h in
            (y, m, x, λ n p q. subst⁻¹ (λ g. GuardOn σ Reg g n) (no_guards s k y m) tt),
        λ (y, m, x, G). same.1 (y, m, x),
      )

  -- A throughout adds its condition to the guards.
  a_throughout_keeps_the_matches : (n c : ℕ) (s : Seq) → Keeps s → Keeps (throughout n c s)
  a_throughout_keeps_the_matches n c s under K i t =
      let below = under (rules_with_less c (expand s) K) i t in (
        λ (h, A). let (y, m, x, G) = below.0 h in (
          guarded_by c y,
          (in_guard_each c (expand s) (guarded_by c y)).1 (y, m, refl),
          x,
          λ u p q. (condition y u).1 (G u p q, A u p (omega arith)),
        ),
        λ (z, m, x, G). let (y, m', e) = (in_guard_each c (expand s) z).0 m in
            let (x', G') = subst Kept e (x, G) in
            (below.1 (y, m', x', λ u p q. ((condition y u).0 (G' u p q)).0), λ u p q. ((condition y u).0 (G' u p (omega arith))).1),
      )
    where
      Kept : SeqAlt → Type 0
      Kept y = AlternativeRuns σ y.steps i (suc t) × GuardOver σ Reg y.guard i t

      condition : (y : SeqAlt) (u : ℕ)
          → GuardOn σ Reg (guarded_by c y).guard u ↔ (GuardOn σ Reg y.guard u × On σ Reg (any (a· c)) u)
      condition y u = and_opt_is_both y.guard (any (a· c)) u

  a_chain_keeps_the_matches : (s : Seq) → RegularChain s → Keeps s
  a_chain_keeps_the_matches =
      by_throughouts (λ s x. Regular x → Keeps s) (λ n c s x under k. a_throughout_keeps_the_matches n c s (under k)) regular_keeps_the_matches

  -- The choice at the root is on exactly where a match ends; a match that ends has a tick.
  pub the_choice_ends_the_matches : (s : Seq) → RegularChain s → Rules7And12 (expand s) → (n : ℕ)
      → Drives σ Reg n (choice (expand s) n).stores → (t : ℕ)
      → On σ Reg (choice (expand s) n).cur t ↔ ((i : ℕ) × (i ≤ t) × Match σ s i (suc t))
  the_choice_ends_the_matches s k K n D t =
      let signals = Iff.trans (any_of_is_on σ Reg (match_sigs (expand s) n).curs t) (the_signals_mark_the_runs (expand s) K n D t) in
      let matches = a_chain_keeps_the_matches s k K in (
        λ h. let (i, (y, m, x, G)) = signals.0 h in
            (i, omega (arith, alternative_no_empty σ y.steps (K y m).1 i (suc t) x), (matches i t).1 (y, m, x, G)),
        λ (i, l, h). signals.1 (i, (matches i t).0 h),
      )
