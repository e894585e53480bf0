-- The windows of seq1's alternatives, measured one after the other.
use mathlib.Core.Path.{◌≡◌, ◌∙◌}
use mathlib.Core.List.{List}
use Prim.Native.Nat.{ℕ, ◌+◌, ◌<◌, ◌≤◌}
use native.Mathlib.Decide.{ℕ_discrete}
use native.Mathlib.Omega.{arith}
use lib.ListN.{length, get_or, set}
use lib.Seq.{get_or-set_same, get_or-set_other}
use Rattle.meaning.specs.Root.{window_len}
use Rattle.term.specs.declared.Kept.{Kept}
use Rattle.term.specs.Keeping.{steps_of}
use Rattle.outline.specs.Outline.{count_in}
use Rattle.expand.specs.ByNumber.{alternatives_of, nth}
use Rattle.alternative.specs.Keeping.{chosen, Keepable, Keeps}
use Rattle.alternative.proofs.Keeping.{few_to_keep, all_counted}
use Rattle.alternative.proofs.Laws.{kept_window}
use Rattle.within.specs.Rows.{Windows}

-- The windows before the j-th stand in the slice.
pub record Measured (t windows : List ℕ) (n j : ℕ) : Type 0 where
  pub each : (k : ℕ) → k < j → get_or windows k 0 ≡ window_len (nth (alternatives_of t n) k).steps

pub none_measured : (t windows : List ℕ) (n : ℕ) → Measured t windows n 0
none_measured t windows n = record { each = λ k h. absurd (omega arith) }

module _ {t o : List ℕ} {n work : ℕ} (K : Keepable t o n 0 work) {count : ℕ} (c : count ≡ count_in o n) where
  pub alternative_there : {j : ℕ} → j < count → j < length (alternatives_of t n)
  alternative_there h = omega (arith, all_counted K c)

  pub window_room : {j size : ℕ} → j < count → 256 ≤ size → j < size
  window_room h enough = omega (arith, all_counted K c, few_to_keep K)

  pub measuring_ends : {j : ℕ} {windows : List ℕ} → Measured t windows n j → count ≤ j → 256 ≤ length windows → Windows t windows n
  measuring_ends S h enough = record { long = omega (arith, few_to_keep K); each = λ k below. S.each k (omega (arith, all_counted K c)) }

pub measuring_on : {t windows : List ℕ} {n j r l : ℕ} {work work₁ : List ℕ} {a : Kept} → Measured t windows n j → j < length windows
    → Keeps (chosen t n j) r work work₁ 0 a → l ≡ window_len (steps_of work₁ a) → Measured t (set windows j l) n (j + 1)
measuring_on {windows = windows} {j = j} {l = l} S h kept e = record {
  each = λ k below. elim (ℕ_discrete k j) [
    | yes same ↦ rw same (get_or-set_same windows j l 0 h ∙ e ∙ kept_window kept.holds)
    | no other ↦ get_or-set_other windows j k l 0 other ∙ S.each k (omega arith)
  ];
}
