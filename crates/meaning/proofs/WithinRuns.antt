-- A root within: it is on exactly where a match of seq2 ends inside which a match of seq1 lies.
-- Example: `a within (b ##1 c)` is on at t where b held at t - 1, c holds at t, and a held at one of the two.
-- Assumes of both operands what refusals 3, 6, 8 and 9 leave, and that the stores drive their registers (D in the proofs).
use mathlib.Core.Bool.{Bool, true, false}
use mathlib.Core.Path.{◌≡◌, refl, subst, subst⁻¹}
use mathlib.Core.Logic.Iff
use mathlib.Core.Logic.{◌↔◌, ◌⊎◌, inl, inr}
use mathlib.Core.List.{List, [], ◌∷◌, ◌++◌}
use Prim.Native.Nat.{ℕ, zero, suc, ◌+◌, ◌-◌, ◌≤◌, ◌<◌}
use native.Mathlib.Omega.{arith}
use native.Mathlib.Decide.{ℕ_discrete}
use lib.ListN.{length}
use lib.Dec.{T, leb, leb→le, le→leb}
use Rattle.words.specs.Choice.{pick_case}
use Rattle.meaning.specs.Tree.{Seq, within}
use Rattle.meaning.specs.Match.{Match}
use Rattle.meaning.specs.Expression.{Expr, r·, or·, Synth}
use Rattle.meaning.specs.Alternative.{unguarded, SeqAlt, expand}
use Rattle.meaning.specs.Pipeline.{synth_seq_pipeline}
use Rattle.meaning.specs.Root.{Signals, signals, window_len, slide, fitting_pair, pairs, all_pairs, synth_within}
use Rattle.meaning.specs.declared.SeqStep.{SeqStep}
use Rattle.meaning.proofs.Values.{Drives}
use Rattle.meaning.proofs.Acceptable.{In, Rule9, Rules9, Regular}
use Rattle.meaning.proofs.On.{On, a_delay_register_is_one_tick_late, drives_first, drives_rest}
use Rattle.meaning.proofs.RunLaws.{SameRuns}
use Rattle.meaning.proofs.AlternativeRuns.{rule_12_fits, AlternativeRuns, alternative_no_empty}
use Rattle.meaning.proofs.PipelineRuns.{EndsUnder, MarksEnds, a_pipeline_marks_its_runs}
use Rattle.meaning.proofs.ExpansionRuns.{RunsOfAny, expansion_keeps_the_matches}
use Rattle.meaning.proofs.Windows.{rule_9_gives_12, alternative_length}
use Rattle.meaning.proofs.AnyOn.{AnyOn, any_on_append, one_of_is_on}

module _ (σ Reg : ℕ → ℕ → Bool) where
  -- e was on before t, but not more than d ticks before.
  abbrev Recently : Expr → ℕ → ℕ → Type 0
  Recently e d t = (u : ℕ) × (u < t) × (t ≤ u + d) × On σ Reg e u

  -- d sliding registers keep e on for d ticks more.
  a_slide_is_on_for_d_ticks_more : (d n : ℕ) (acc e : Expr) → Drives σ Reg n (slide n d acc e).stores → (t : ℕ)
      → On σ Reg (slide n d acc e).cur t ↔ (On σ Reg acc t ⊎ Recently e d t)
  a_slide_is_on_for_d_ticks_more zero n acc e D t =
      (λ h. inl h, λ h. elim h [ inl p ↦ p | inr q ↦ let (u, l, l', x) = q in absurd (omega arith) ])
  a_slide_is_on_for_d_ticks_more (suc d) n acc e D t =
      let more = a_slide_is_on_for_d_ticks_more d (suc n) (or· acc (r· n)) (r· n) D.1 t in
      (λ h. outward (more.0 h), λ h. more.1 (inward h))
    where
      register : (v : ℕ) → T (Reg v n) ↔ ((u : ℕ) × (v ≡ suc u) × On σ Reg e u)
      register v = a_delay_register_is_one_tick_late σ Reg n e D.0 v

      outward : (On σ Reg acc t ⊎ T (Reg t n)) ⊎ Recently (r· n) d t → On σ Reg acc t ⊎ Recently e (suc d) t
      outward (inl (inl p)) = inl p
      outward (inl (inr p)) = let (u, q, x) = (register t).0 p in inr (u, omega arith, omega arith, x)
      outward (inr (v, l, l', p)) = let (u, q, x) = (register v).0 p in inr (u, omega arith, omega arith, x)

      inward : On σ Reg acc t ⊎ Recently e (suc d) t → (On σ Reg acc t ⊎ T (Reg t n)) ⊎ Recently (r· n) d t
      inward (inl p) = inl (inl p)
      inward (inr (u, l, l', x)) =
          elim (ℕ_discrete t (suc u)) [
            | yes w ↦ inl (inr ((register t).1 (u, w, x)))
            | no w ↦ inr (suc u, omega arith, omega arith, (register (suc u)).1 (u, refl, x))
          ]

  -- A run of seq1 ended at t, or not more than d ticks before.
  abbrev EndedLately : List SeqStep → ℕ → ℕ → Type 0
  EndedLately s₁ d t = (u : ℕ) × (i : ℕ) × (u ≤ t) × (t ≤ u + d) × AlternativeRuns σ s₁ i (suc u)

  -- One pair is on where seq2's signal is and a run of seq1 ended lately enough.
  a_pair_is_on : (l : ℕ) (match_2 : Expr) (s₁ : List SeqStep) → Rule9 s₁ → (n : ℕ)
      → Drives σ Reg n (fitting_pair l match_2 s₁ n).stores → (t : ℕ)
      → On σ Reg (fitting_pair l match_2 s₁ n).cur t ↔ (On σ Reg match_2 t × EndedLately s₁ (l - window_len s₁) t)
  a_pair_is_on l match_2 s₁ F n D t = (λ (h, v). (h, outward (slid.0 v)), λ (h, v). (h, slid.1 (inward v)))
    where
      d : ℕ
      d = l - window_len s₁

      o : Synth
      o = synth_seq_pipeline unguarded s₁ n

      n' : ℕ
      n' = n + length o.stores

      p : Synth
      p = slide n' d o.cur o.cur

      marks : MarksEnds σ Reg unguarded o.cur (AlternativeRuns σ s₁)
      marks = a_pipeline_marks_its_runs σ Reg unguarded s₁ tt (rule_9_gives_12 s₁ F) n (drives_first σ Reg o.stores p.stores n D)

      slid : On σ Reg p.cur t ↔ (On σ Reg o.cur t ⊎ Recently o.cur d t)
      slid = a_slide_is_on_for_d_ticks_more d n' o.cur o.cur (drives_rest σ Reg o.stores p.stores n D) t

      outward : On σ Reg o.cur t ⊎ Recently o.cur d t → EndedLately s₁ d t
      outward (inl h) = let (i, x, G) = (marks t).0 h in (t, i, omega arith, omega arith, x)
      outward (inr (u, w, w', h)) = let (i, x, G) = (marks u).0 h in (u, i, omega arith, w', x)

      inward : EndedLately s₁ d t → On σ Reg o.cur t ⊎ Recently o.cur d t
      inward (u, i, w, w', x) =
          let h = (marks u).1 (i, x, λ m p q. tt) in
          elim (ℕ_discrete u t) [ yes z ↦ inl (subst (On σ Reg o.cur) z h) | no z ↦ inr (u, omega arith, w', h) ]

  -- An alternative of seq1 whose window fits into l, and one of whose runs ended within the last ticks of a run of l ticks.
  abbrev FitsIn : ℕ → List SeqAlt → ℕ → Type 0
  FitsIn l s₁ t = (y : SeqAlt) × In y s₁ × (window_len y.steps ≤ l) × EndedLately y.steps (l - window_len y.steps) t

  -- One of an alternative's pairs is on where its signal is and a run of seq1 fits; what does not fit has no pair.
  one_of_the_pairs_is_on : (l : ℕ) (match_2 : Expr) (s₁ : List SeqAlt) → Rules9 s₁ → (n : ℕ)
      → Drives σ Reg n (pairs l match_2 s₁ n).stores → (t : ℕ)
      → AnyOn σ Reg (pairs l match_2 s₁ n).curs t ↔ (On σ Reg match_2 t × FitsIn l s₁ t)
  one_of_the_pairs_is_on l match_2 [] K n D t = (λ h. absurd h, λ (h, (y, m, w, x)). absurd m)
  one_of_the_pairs_is_on l match_2 (y ∷ ys) K n D t =
      let others : Others = λ m E. one_of_the_pairs_is_on l match_2 ys (λ z q. K z (inr q)) m E t in
      pick_case Means (leb (window_len y.steps) l) (taken others) (skipped others) D
    where
      o : Synth
      o = fitting_pair l match_2 y.steps n

      n' : ℕ
      n' = n + length o.stores

      rest : Signals
      rest = pairs l match_2 ys n'

      Goal : List SeqAlt → Type 0
      Goal alts = On σ Reg match_2 t × FitsIn l alts t

      Others : Type 0
      Others = (m : ℕ) → Drives σ Reg m (pairs l match_2 ys m).stores → AnyOn σ Reg (pairs l match_2 ys m).curs t ↔ Goal ys

      Means : Signals → Type 0
      Means p = Drives σ Reg n p.stores → AnyOn σ Reg p.curs t ↔ Goal (y ∷ ys)

      taken : Others → leb (window_len y.steps) l ≡ true → Means (signals (o.stores ++ rest.stores) (o.cur ∷ rest.curs))
      taken others e D = (outward, inward)
        where
          first : On σ Reg o.cur t ↔ (On σ Reg match_2 t × EndedLately y.steps (l - window_len y.steps) t)
          first = a_pair_is_on l match_2 y.steps (K y (inl refl)) n (drives_first σ Reg o.stores rest.stores n D) t

          next : AnyOn σ Reg rest.curs t ↔ Goal ys
          next = others n' (drives_rest σ Reg o.stores rest.stores n D)

          outward : On σ Reg o.cur t ⊎ AnyOn σ Reg rest.curs t → Goal (y ∷ ys)
          outward (inl h) = let (a, x) = first.0 h in (a, (y, inl refl, leb→le (window_len y.steps) l (subst⁻¹ T e tt), x))
          outward (inr h) = let (a, (z, m, w, x)) = next.0 h in (a, (z, inr m, w, x))

          inward : Goal (y ∷ ys) → On σ Reg o.cur t ⊎ AnyOn σ Reg rest.curs t
          inward (a, (z, inl q, w, x)) = inl (first.1 (a, subst (λ (z : SeqAlt). EndedLately z.steps (l - window_len z.steps) t) q x))
          inward (a, (z, inr m, w, x)) = inr (next.1 (a, (z, m, w, x)))

      skipped : Others → leb (window_len y.steps) l ≡ false → Means (pairs l match_2 ys n)
      skipped others e D = (λ h. let (a, (z, m, w, x)) = (others n D).0 h in (a, (z, inr m, w, x)), λ h. (others n D).1 (inward h))
        where
          inward : Goal (y ∷ ys) → Goal ys
          inward (a, (z, inl q, w, x)) =
              absurd (subst T e (le→leb (window_len y.steps) l (subst (λ (z : SeqAlt). window_len z.steps ≤ l) q w)))
          inward (a, (z, inr m, w, x)) = (a, (z, m, w, x))

  -- A run of an alternative of seq2 ends with tick t, and an alternative of seq1 fits into it.
  abbrev PairEnds : List SeqAlt → List SeqAlt → ℕ → Type 0
  PairEnds s₁ s₂ t = (y : SeqAlt) × (i : ℕ) × In y s₂ × AlternativeRuns σ y.steps i (suc t) × FitsIn (window_len y.steps) s₁ t

  -- One of all pairs is on where a run of seq2 ends that an alternative of seq1 fits into.
  one_of_all_pairs_is_on : (s₁ s₂ : List SeqAlt) → Rules9 s₁ → Rules9 s₂ → (n : ℕ)
      → Drives σ Reg n (all_pairs s₁ s₂ n).stores → (t : ℕ)
      → AnyOn σ Reg (all_pairs s₁ s₂ n).curs t ↔ PairEnds s₁ s₂ t
  one_of_all_pairs_is_on s₁ [] K₁ K₂ n D t = (λ h. absurd h, λ (y, i, m, x, f). absurd m)
  one_of_all_pairs_is_on s₁ (y ∷ ys) K₁ K₂ n D t =
      let o = synth_seq_pipeline unguarded y.steps n in
      let n₁ = n + length o.stores in
      let p = pairs (window_len y.steps) o.cur s₁ n₁ in
      let n₂ = n₁ + length p.stores in
      let q = all_pairs s₁ ys n₂ in
      let D₁ = drives_first σ Reg o.stores (p.stores ++ q.stores) n D in
      let D₂ = drives_rest σ Reg o.stores (p.stores ++ q.stores) n D in
      let marks = a_pipeline_marks_its_runs σ Reg unguarded y.steps tt (rule_9_gives_12 y.steps (K₂ y (inl refl))) n D₁ t in
      let here = one_of_the_pairs_is_on (window_len y.steps) o.cur s₁ K₁ n₁ (drives_first σ Reg p.stores q.stores n₁ D₂) t in
      let others = one_of_all_pairs_is_on s₁ ys K₁ (λ z m. K₂ z (inr m)) n₂ (drives_rest σ Reg p.stores q.stores n₁ D₂) t in
      Iff.trans (any_on_append σ Reg p.curs q.curs t) (outward marks here others, inward marks here others)
    where
      Fitting : SeqAlt → Type 0
      Fitting y = FitsIn (window_len y.steps) s₁ t

      outward : {O P Q : Type 0} → (O ↔ EndsUnder σ Reg unguarded (AlternativeRuns σ y.steps) t) → (P ↔ (O × Fitting y)) → (Q ↔ PairEnds s₁ ys t)
          → P ⊎ Q → PairEnds s₁ (y ∷ ys) t
      outward marks here others (inl h) = let (a, f) = here.0 h in let (i, x, G) = marks.0 a in (y, i, inl refl, x, f)
      outward marks here others (inr h) = let (z, i, m, x, f) = others.0 h in (z, i, inr m, x, f)

      inward : {O P Q : Type 0} → (O ↔ EndsUnder σ Reg unguarded (AlternativeRuns σ y.steps) t) → (P ↔ (O × Fitting y)) → (Q ↔ PairEnds s₁ ys t)
          → PairEnds s₁ (y ∷ ys) t → P ⊎ Q
      inward marks here others (z, i, inl e, x, f) =
          inl (here.1 (marks.1 (i, subst (λ (z : SeqAlt). AlternativeRuns σ z.steps i (suc t)) e x, λ m p q. tt), subst Fitting e f))
      inward marks here others (z, i, inr m, x, f) = inr (others.1 (z, i, m, x, f))

  -- The pairs that end are the matches: a run of seq1 that fits lies inside if it ended late enough.
  pairs_are_the_matches : (n : ℕ) (x y : Seq) → Regular x → Regular y → Rules9 (expand x) → Rules9 (expand y) → (t : ℕ)
      → PairEnds (expand x) (expand y) t ↔ ((i : ℕ) × (i ≤ t) × Match σ (within n x y) i (suc t))
  pairs_are_the_matches n x y kx ky Kx Ky t = (outward, inward)
    where
      seq1 : SameRuns (Match σ x) (RunsOfAny σ (expand x))
      seq1 = expansion_keeps_the_matches σ x kx (λ z m. rule_12_fits z.steps (rule_9_gives_12 z.steps (Kx z m)))

      seq2 : SameRuns (Match σ y) (RunsOfAny σ (expand y))
      seq2 = expansion_keeps_the_matches σ y ky (λ z m. rule_12_fits z.steps (rule_9_gives_12 z.steps (Ky z m)))

      outward : PairEnds (expand x) (expand y) t → (i : ℕ) × (i ≤ t) × Match σ (within n x y) i (suc t)
      outward (y₂, i, m₂, r₂, (y₁, m₁, w, (u, i', l, l', r₁))) =
          let e₂ : suc t ≡ i + window_len y₂.steps = alternative_length σ y₂.steps (Ky y₂ m₂) i (suc t) r₂ in
          let e₁ : suc u ≡ i' + window_len y₁.steps = alternative_length σ y₁.steps (Kx y₁ m₁) i' (suc u) r₁ in
          let p : i < suc t = alternative_no_empty σ y₂.steps (rule_9_gives_12 y₂.steps (Ky y₂ m₂)) i (suc t) r₂ in
          (i, omega arith, (i', suc u, (seq2 i (suc t)).1 (y₂, m₂, r₂), omega arith, omega arith, (seq1 i' (suc u)).1 (y₁, m₁, r₁)))

      inside : (i i' j' : ℕ) → i ≤ i' → j' ≤ suc t → RunsOfAny σ (expand x) i' j' → RunsOfAny σ (expand y) i (suc t)
          → PairEnds (expand x) (expand y) t
      inside i i' zero l l' (y₁, m₁, r₁) (y₂, m₂, r₂) =
          absurd (omega (arith, alternative_no_empty σ y₁.steps (rule_9_gives_12 y₁.steps (Kx y₁ m₁)) i' zero r₁))
      inside i i' (suc u) l l' (y₁, m₁, r₁) (y₂, m₂, r₂) =
          let e₂ : suc t ≡ i + window_len y₂.steps = alternative_length σ y₂.steps (Ky y₂ m₂) i (suc t) r₂ in
          let e₁ : suc u ≡ i' + window_len y₁.steps = alternative_length σ y₁.steps (Kx y₁ m₁) i' (suc u) r₁ in
          (y₂, i, m₂, r₂, (y₁, m₁, omega arith, (u, i', omega arith, omega arith, r₁)))

      inward : (i : ℕ) × (i ≤ t) × Match σ (within n x y) i (suc t) → PairEnds (expand x) (expand y) t
      inward (i, q, (i', j', h₂, l, l', h₁)) = inside i i' j' l l' ((seq1 i' j').0 h₁) ((seq2 i (suc t)).0 h₂)

  -- `synth_within` is on exactly where a match of the within ends.
  pub a_within_ends_the_matches : (k : ℕ) (x y : Seq) → Regular x → Regular y → Rules9 (expand x) → Rules9 (expand y) → (n : ℕ)
      → Drives σ Reg n (synth_within (expand x) (expand y) n).stores → (t : ℕ)
      → On σ Reg (synth_within (expand x) (expand y) n).cur t ↔ ((i : ℕ) × (i ≤ t) × Match σ (within k x y) i (suc t))
  a_within_ends_the_matches k x y kx ky Kx Ky n D t =
      Iff.trans (one_of_is_on σ Reg (all_pairs (expand x) (expand y) n).curs t)
      (Iff.trans (one_of_all_pairs_is_on (expand x) (expand y) Kx Ky n D t) (pairs_are_the_matches k x y kx ky Kx Ky t))
