-- Refusal 12's test and the sum of registers, as the code meets them. They assume nothing.
use mathlib.Core.Path.{◌≡◌, refl, sym, ap, ◌∙◌}
use mathlib.Core.Bool.{Bool, true, false, not}
use mathlib.Core.List.{List, ◌∷◌}
use Prim.Native.Nat.{ℕ, suc, ◌+◌, ◌*◌, ◌-◌, ◌<◌, ◌≤◌}
use native.Mathlib.Omega.{arith}
use native.Mathlib.Numerals.{add-one}
use borrow.Author.Tests.{not-true, not-false}
use Rattle.words.specs.Choice.{pick, pick_true, pick_false}
use Rattle.meaning.specs.Refusals.{is_empty, fixed_from_1, empties_fit, steps_fit}
use Rattle.meaning.specs.declared.SeqStep.{SeqStep}
use Rattle.term.specs.declared.Kept.{Kept}
use Rattle.term.specs.Keeping.{step_of, steps_from, steps_of, Whole}
use Rattle.current.specs.Text.{registers_at, registers_before, most_registers}
use Rattle.current.proofs.Walk.{registers_more}
use Rattle.pipeline.specs.Fit.{hop_fits}

-- One hop after the other.
choose : (before after fixed rest others : Bool) → (after ≡ false → others ≡ rest)
    → pick (pick before true after) (pick fixed rest false) others ≡ pick (pick before fixed (pick after fixed true)) rest false
unfolding pick
choose true after fixed rest others e = refl
choose false true fixed rest others e = refl
choose false false fixed rest others e = e refl

fit_step : (before : Bool) (s : SeqStep) (ss : List SeqStep)
    → empties_fit before (s ∷ ss) ≡ pick (hop_fits before (is_empty s.term) s.hop) (empties_fit (is_empty s.term) ss) false
unfolding hop_fits
fit_step before s ss =
    choose before (is_empty s.term) (fixed_from_1 s.hop) (empties_fit (is_empty s.term) ss) (empties_fit false ss) (λ e. ap (λ (b : Bool). empties_fit b ss) (sym e))

-- The loop of `empties_fit`: the hops before the k-th fit, so the answer is that of the others.
pub record Fitting (W : List ℕ) (a : Kept) (before : Bool) (k : ℕ) : Type 0 where
  pub rest : empties_fit false (steps_from W a 1 (a.steps - 1)) ≡ empties_fit before (steps_from W a k (a.steps - k))

module _ {W : List ℕ} {a : Kept} {before : Bool} {k : ℕ} (F : Fitting W a before k) where
  module _ (h : k < a.steps) {s : SeqStep} {after b : Bool} (w : s ≡ step_of W a k) (e : after ≡ is_empty s.term) (f : b ≡ hop_fits before after s.hop) where
    fit_here : empties_fit before (steps_from W a k (a.steps - k)) ≡ pick b (empties_fit after (steps_from W a (k + 1) (a.steps - (k + 1)))) false
    unfolding steps_from
    fit_here =
        let n : a.steps - k ≡ suc (a.steps - (k + 1)) = omega (arith, h) in
        rw (n, add-one k, ← w) (fit_step before s (steps_from W a (suc k) (a.steps - (suc k))) ∙ rw (← e, ← f) refl)

    pub fitting_on : not b ≡ false → Fitting W a after (k + 1)
    fitting_on q = record { rest = F.rest ∙ fit_here ∙ pick_true _ _ (not-false b q) }

    pub fitting_fails : not b ≡ true → false ≡ empties_fit false (steps_from W a 1 (a.steps - 1))
    fitting_fails q = sym (F.rest ∙ fit_here ∙ pick_false _ _ (not-true b q))

  pub fitting_ends : a.steps ≤ k → true ≡ empties_fit false (steps_from W a 1 (a.steps - 1))
  unfolding steps_from
  fitting_ends h = let e : a.steps - k ≡ 0 = omega (arith, h) in sym (F.rest ∙ rw e refl)

-- `steps_fit`: the first term, then the others.
module _ {W : List ℕ} {a : Kept} {s : SeqStep} {b : Bool} (whole : Whole W a) (w : s ≡ step_of W a 0) (e : b ≡ is_empty s.term) where
  fit_first : steps_fit (steps_of W a) ≡ pick b false (empties_fit false (steps_from W a 1 (a.steps - 1)))
  unfolding steps_from
  fit_first = let n : a.steps ≡ suc (a.steps - 1) = omega (arith, whole.some) in ap (λ (m : ℕ). steps_fit (steps_from W a 0 m)) n ∙ rw (e, w) refl

  pub lead_misplaced : b ≡ true → not b ≡ steps_fit (steps_of W a)
  lead_misplaced q = rw q (sym (fit_first ∙ pick_true _ _ q))

  pub lead_fits : {r : Bool} → b ≡ false → r ≡ empties_fit false (steps_from W a 1 (a.steps - 1)) → r ≡ steps_fit (steps_of W a)
  lead_fits q f = f ∙ sym (fit_first ∙ pick_false _ _ q)

-- The loop of `registers`: those of k steps are added.
pub record Summing (W : List ℕ) (a : Kept) (sum k : ℕ) : Type 0 where
  pub holds : sum ≡ registers_before W a k
  pub small : sum ≤ k * 8589934591

pub summing_begins : (W : List ℕ) (a : Kept) → Summing W a 0 0
unfolding registers_before
summing_begins W a = record { holds = refl; small = omega arith }

module _ {W : List ℕ} {a : Kept} {sum k : ℕ} (S : Summing W a sum k) where
  pub summing_on : {q : ℕ} → q ≡ registers_at W a k → q ≤ 8589934591 → Summing W a (sum + q) (k + 1)
  summing_on e l = record { holds = omega (arith, S.holds, registers_more W a k, e); small = omega (arith, S.small, l) }

  module _ {count : ℕ} (l : k ≤ count) where
    pub summing_ends : count ≤ k → sum ≡ registers_before W a count
    summing_ends h = let e : k ≡ count = omega arith in S.holds ∙ ap (registers_before W a) e

    pub summing_small : Whole W a → count ≤ a.steps → sum ≤ most_registers
    summing_small whole h = omega (arith, S.small, whole.many)

pub ruleset summing = (summing_begins, summing_on, summing_ends, summing_small)
