-- The loop over the further delays of a pair, in rest form: what remains to be written after k of them.
use mathlib.Core.Path.{◌≡◌, refl}
use mathlib.Core.List.{List, [], ◌∷◌}
use Prim.Native.Nat.{ℕ, zero, suc, ◌+◌, ◌*◌, ◌-◌, ◌<◌, ◌≤◌}
use native.Mathlib.Numerals.{add-one}
use native.Mathlib.Omega.{arith}
use lib.ListN.{length}
use Rattle.words.specs.Written.{Wrote}
use Rattle.words.proofs.Laws.{Going, begin, go, done}
use Rattle.step_text.specs.Text.{register_word, or_word}
use Rattle.pair.specs.Pairs.{delay_texts}

-- What d registers take: two words each.
pub length-ored : (r d : ℕ) → length (delay_texts r d) ≡ 2 * d
unfolding delay_texts
length-ored r zero = refl
length-ored r (suc d) = omega (arith, length-ored (suc r) d)

-- The k-th register, and what is left of those before r + d.
module _ (r d : ℕ) {o : List ℕ} {at : ℕ} {o' : List ℕ} {p k : ℕ} (g : Going o at (delay_texts r d) o' p (delay_texts k (r + d - k))) where
  module _ (h : k < r + d) where
    one_more : delay_texts k (r + d - k) ≡ register_word k ∷ or_word ∷ delay_texts (k + 1) (r + d - (k + 1))
    unfolding delay_texts
    one_more =
        let e : r + d - k ≡ suc (r + d - (k + 1)) = omega arith in
        rw (e, add-one k) refl

    pub oring_room : at + 2 * d ≤ length o → p + 2 ≤ length o'
    oring_room room = omega (arith, room, g.place, g.long, length-ored r d, length-ored k (r + d - k))

    pub oring_on : {p₁ : ℕ} {o₁ : List ℕ} → Wrote o' o₁ p p₁ (register_word k ∷ or_word ∷ []) → Going o at (delay_texts r d) o₁ p₁ (delay_texts (k + 1) (r + d - (k + 1)))
    oring_on w = go (register_word k ∷ or_word ∷ []) _ (rw one_more at g) w

  pub oring_ends : r + d ≤ k → Wrote o o' at p (delay_texts r d)
  unfolding delay_texts
  oring_ends h = let e : r + d - k ≡ 0 = omega arith in done (rw e at g)

pub oring_begins : (r d : ℕ) (o : List ℕ) (at : ℕ) → Going o at (delay_texts r d) o at (delay_texts r (r + d - r))
oring_begins r d o at = let e : r + d - r ≡ d = omega arith in rw e (begin o at _)
