-- The decimal digits of a number are those of this number: read as a reader would, they give it back.
use mathlib.Core.Path.{◌≡◌, refl, ◌∙◌}
use mathlib.Core.List.{List, [], ◌∷◌, ◌++◌}
use Prim.Native.Nat.{ℕ, zero, suc, ◌+◌, ◌-◌, ◌*◌, ◌<◌, ◌/◌, ◌%◌, ◌^◌}
use native.Mathlib.Nat.{pow-suc}
use native.Mathlib.Omega.{arith}
use lib.Dec.{ltb}
use borrow.Author.Tests.{ltb-true}
use Rattle.words.specs.Choice.{pick_case}
use Rattle.text.specs.Text.{digits, decimal}

-- The number that the digits say, behind digits that say n.
unfoldable pub said_from : ℕ → List ℕ → ℕ
said_from n [] = n
said_from n (d ∷ ds) = said_from (n * 10 + (d - 48)) ds

said_from_append : (n : ℕ) (front back : List ℕ) → said_from n (front ++ back) ≡ said_from (said_from n front) back
unfolding said_from
said_from_append n [] back = refl
said_from_append n (d ∷ ds) back = said_from_append (n * 10 + (d - 48)) ds back

digits_say : (most n : ℕ) → n < 10 ^ most → said_from 0 (digits most n) ≡ n
unfolding digits said_from
digits_say zero n h = omega arith
digits_say (suc most) n h =
    pick_case (λ (ds : List ℕ). said_from 0 ds ≡ n) (ltb n 10) (λ e. omega (arith, ltb-true n 10 e))
    λ e.
    let front = digits_say most (n / 10) (omega (arith, pow-suc 10 most)) in
    said_from_append 0 (digits most (n / 10)) ((48 + n % 10) ∷ []) ∙ rw front (omega arith)

-- Every number of 64 bits is said.
pub decimal_says : (n : ℕ) → n < 2 ^ 64 → said_from 0 (decimal n) ≡ n
decimal_says n h = digits_say 20 n (omega arith)
