-- What stands behind the i-th text of so many, by the tests of the code: it is the only one, the first of several, or a later one.
use mathlib.Core.Path.{◌≡◌, ◌∙◌}
use mathlib.Core.List.{List, [], ◌∷◌}
use Prim.Native.Nat.{ℕ, ◌+◌, ◌≤◌, ◌<◌}
use native.Mathlib.Omega.{arith}
use lib.ListN.{length}
use borrow.Author.Tests.{eq-eqb, ne_eqb}
use Rattle.words.specs.Choice.{pick_true, pick_false}
use Rattle.words.specs.Written.{Wrote}
use Rattle.words.proofs.Laws.{nothing_written}
use Rattle.meaning.specs.Listing.{word}
use Rattle.choice.specs.ChoiceWords.{closing}

module _ (count i : ℕ) where
  alone : count ≡ 1 → closing count i ≡ []
  unfolding closing
  alone e = pick_true _ _ (eq-eqb count 1 e)

  leading : (count ≡ 1 → ⊥) → i ≡ 0 → closing count i ≡ word 5 0 ∷ []
  unfolding closing
  leading several e = pick_false _ _ (ne_eqb count 1 several) ∙ pick_true _ _ (eq-eqb i 0 e)

  following : (count ≡ 1 → ⊥) → (i ≡ 0 → ⊥) → closing count i ≡ word 5 0 ∷ word 8 0 ∷ []
  unfolding closing
  following several later = pick_false _ _ (ne_eqb count 1 several) ∙ pick_false _ _ (ne_eqb i 0 later)

  -- There is room for a closing of one word, and for one of two.
  pub leading_fits : (o : List ℕ) (at : ℕ) → (count ≡ 1 → ⊥) → i ≡ 0 → at + length (closing count i) ≤ length o → at < length o
  leading_fits o at several e room = omega (arith, rw (leading several e) at room)

  pub following_fits : (o : List ℕ) (at : ℕ) → (count ≡ 1 → ⊥) → (i ≡ 0 → ⊥) → at + length (closing count i) ≤ length o → at + 2 ≤ length o
  following_fits o at several later room = rw (following several later) at room

  pub alone_closed : count ≡ 1 → (o : List ℕ) (at : ℕ) → Wrote o o at at (closing count i)
  alone_closed e o at = rw (alone e) (nothing_written o at)

  pub leading_closed : {o o₁ : List ℕ} {at p : ℕ} → (count ≡ 1 → ⊥) → i ≡ 0 → Wrote o o₁ at p (word 5 0 ∷ []) → Wrote o o₁ at p (closing count i)
  leading_closed several e w = rw (leading several e) w

  pub following_closed : {o o₁ : List ℕ} {at p : ℕ} → (count ≡ 1 → ⊥) → (i ≡ 0 → ⊥) → Wrote o o₁ at p (word 5 0 ∷ word 8 0 ∷ []) → Wrote o o₁ at p (closing count i)
  following_closed several later w = rw (following several later) w
