-- Capped counts are small, however they are joined. Assumes nothing.
use mathlib.Core.Path.{◌≡◌, refl}
use mathlib.Core.Bool.{Bool}
use Prim.Native.Nat.{ℕ, zero, suc, ◌+◌, ◌*◌, ◌≤◌}
use native.Mathlib.Omega.{arith}
use lib.Dec.{ltb}
use borrow.Author.Tests.{ltb-false, le-ltb}
use Rattle.words.specs.Choice.{pick, pick_case}
use Rattle.meaning.specs.declared.Counts.{Counts}
use Rattle.count.specs.Capped.{nothing, neutral, capped, Small, product, sum, copied, summed}

-- Whatever the numbers were.
capped_is_small : (a e : ℕ) (plain guarded : Bool) → Small (capped a e plain guarded)
unfolding capped
capped_is_small a e plain guarded =
    pick_case Small (ltb 256 a) (λ _. record { few = omega arith; short = omega arith })
    (λ many. let few = ltb-false 256 a many in
    pick_case Small (ltb 65536 e) (λ _. record { few = omega arith; short = omega arith })
    (λ large. let short = ltb-false 65536 e large in record { few = omega arith; short = omega arith }))

module _ (l r : Counts) {c : Counts} where
  pub product_is_small : c ≡ product l r → Small c
  unfolding product
  product_is_small e = rw e (capped_is_small _ _ _ _)

  pub sum_is_small : c ≡ sum l r → Small c
  unfolding sum
  sum_is_small e = rw e (capped_is_small _ _ _ _)

-- What is within the bounds of 10 and 11 is not changed by the neutral counts.
pub neutral_product : (s : Counts) → s.alternatives ≤ 256 → s.entries ≤ 65536 → product neutral s ≡ s
unfolding product capped pick
neutral_product s few fits =
    let a : 1 * s.alternatives ≡ s.alternatives = omega arith in
    let e : 0 * s.alternatives + 1 * s.entries ≡ s.entries = omega arith in
    rw (a, e, le-ltb _ _ few, le-ltb _ _ fits) refl

-- Copies of small counts are small, however many are made, and so are their sums, however many are summed up.
copied_small : (base copies : Counts) (k : ℕ) → Small copies → Small (copied base copies k)
unfolding copied
copied_small base copies zero s = s
copied_small base copies (suc k) s = copied_small base (product copies base) k (product_is_small copies base refl)

summed_small : (base total copies : Counts) (count : ℕ) → Small total → Small (summed base total copies count)
unfolding summed
summed_small base total copies zero s = s
summed_small base total copies (suc count) s = summed_small base (sum total copies) (product copies base) count (sum_is_small total copies refl)

-- The copies that the code makes, and their sum.
pub copied_is_small : (base : Counts) (k : ℕ) → Small base → Small (copied base base k)
copied_is_small base k s = copied_small base base k s

pub summed_is_small : (base first : Counts) (count : ℕ) → Small (summed base nothing first count)
summed_is_small base first count = summed_small base nothing first count (record { few = omega arith; short = omega arith })
