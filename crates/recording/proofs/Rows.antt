-- The rows and the room, as the code meets them: a test of each node below count, and of each byte.
use mathlib.Core.Path.{◌≡◌, refl, sym}
use mathlib.Core.Bool.{Bool, true, false}
use mathlib.Core.List.{List, [], ◌∷◌}
use Prim.Native.Nat.{ℕ, zero, suc, ◌<◌}
use native.Mathlib.Omega.{arith}
use native.Mathlib.Decide.{ℕ_discrete}
use lib.Dec.{leb}
use Rattle.std.specs.Bool.{MatchBool}
use Rattle.std.specs.List.{list_all, range_with_len, AllWithin, HoldsAt}
use Rattle.std.proofs.lemmas.List.FromFn.{length-range_with_len, get_or-range_with_len}
use Rattle.std.proofs.lemmas.Bool.Decides.{nat_tests}
use lib.ListN.{length}
use native.Mathlib.Nat.{zero-add}
use Rattle.words.specs.Choice.{pick, pick_false}
use Rattle.words.proofs.Taken.{no_test}
use Rattle.meaning.specs.Tick.{all_bits}
use Rattle.recording.specs.Refusals.{in_the_row, all_in_the_row}

-- All bytes are bits where each is at most 1.
pub bits_are_all : (bytes : List ℕ) → list_all (λ x. leb x 1) bytes ≡ all_bits bytes
unfolding all_bits pick
bits_are_all [] = refl
bits_are_all (x ∷ bytes) = grind (arith, nat_tests, bits_are_all bytes)

-- One node outside the row is enough.
one_outside : (t : List ℕ) (width n count : ℕ) → in_the_row t width n ≡ false → n < count → all_in_the_row t width count ≡ false
unfolding all_in_the_row
one_outside t width n zero e h = absurd (omega arith)
one_outside t width n (suc count) e h =
    elim (ℕ_discrete n count) [
      | yes here ↦ pick_false _ _ (rw (← here) e)
      | no below ↦ rw (one_outside t width n count e (omega arith)) (no_test (in_the_row t width count))
    ]

-- Where each node is in the row, all are.
each_inside : (t : List ℕ) (width count : ℕ) → ((n : ℕ) → n < count → in_the_row t width n ≡ true) → all_in_the_row t width count ≡ true
unfolding all_in_the_row pick
each_inside t width zero each = refl
each_inside t width (suc count) each = rw (each count (omega arith)) (each_inside t width count (λ n h. each n (omega arith)))

-- The test of each node in turn, up to the first outside the row, says whether all are in it.
pub all_inside : (t : List ℕ) (width count : ℕ) (b : Bool)
    → MatchBool b
    (AllWithin (λ n. in_the_row t width n ≡ true) (range_with_len 0 count) 0 (length (range_with_len 0 count)))
    ((k : ℕ) × (k < length (range_with_len 0 count)) × HoldsAt (λ n. in_the_row t width n ≡ false) (range_with_len 0 count) k)
    → b ≡ all_in_the_row t width count
all_inside t width count true each =
    sym (each_inside t width count (λ n h. rw (get_or-range_with_len 0 count n 0 h, zero-add) at (each n 0 (omega arith) (omega (arith, length-range_with_len 0 count)))))
all_inside t width count false (k, l, out) =
    let h : k < count = omega (arith, length-range_with_len 0 count) in
    sym (one_outside t width k count (rw (get_or-range_with_len 0 count k 0 h, zero-add) at (out 0)) h)
