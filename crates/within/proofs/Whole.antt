-- The whole listing as `write` puts it: the assignments, the match, and the match's own word.
use mathlib.Core.Path.{◌≡◌, sym, ap, ◌∙◌}
use mathlib.Core.List.{List, [], ◌∷◌, ◌++◌}
use Prim.Native.Nat.{ℕ, ◌+◌, ◌<◌, ◌≤◌}
use native.Mathlib.Omega.{arith}
use lib.ListN.{length, length-append}
use Rattle.words.specs.Written.{Wrote}
use Rattle.words.proofs.Laws.{still_long, begin, go, last, same_words}
use Rattle.meaning.specs.Listing.{word}
use Rattle.expand.specs.ByNumber.{alternatives_of}
use Rattle.within.specs.AllPairs.{all_stores, within_match, within_words}
use Rattle.within.specs.Rows.{Numberable}
use Rattle.within.proofs.PairByPair.{the_listing_of_a_within}

module _ {t outline : List ℕ} {one two first work : ℕ} (N : Numberable t outline one two first work) where
  abbrev stores : List ℕ
  stores = all_stores (alternatives_of t one) (alternatives_of t two) first

  abbrev match : List ℕ
  match = within_match (alternatives_of t one) (alternatives_of t two) first

  abbrev all_words : List ℕ
  all_words = within_words (alternatives_of t one) (alternatives_of t two) first

  the_listing : all_words ≡ stores ++ (match ++ (word 14 0 ∷ []))
  the_listing = the_listing_of_a_within (alternatives_of t one) (alternatives_of t two) N.paired.pairs.one N.paired.pairs.two first

  words_long : length all_words ≡ length stores + (length match + 1)
  words_long = ap length the_listing ∙ length-append stores _ ∙ ap (λ (k : ℕ). length stores + k) (length-append match _)

  module _ (o : List ℕ) (room : length all_words ≤ length o) where
    pub stores_have_room : 0 + length stores ≤ length o
    stores_have_room = omega (arith, words_long)

    module _ {o₁ : List ℕ} {a : ℕ} (w : Wrote o o₁ 0 a stores) where
      pub match_has_room : a + length match ≤ length o₁
      match_has_room = omega (arith, words_long, w.ends, still_long w)

      pub end_has_room : {o₂ : List ℕ} {b : ℕ} → Wrote o₁ o₂ a b match → b < length o₂
      end_has_room u = omega (arith, words_long, w.ends, still_long w, u.ends, still_long u)

  pub listing_written : {o o₁ o₂ o₃ : List ℕ} {a b end : ℕ} → Wrote o o₁ 0 a stores → Wrote o₁ o₂ a b match → Wrote o₂ o₃ b end (word 14 0 ∷ [])
      → Wrote o o₃ 0 end all_words
  listing_written w u v = same_words (sym the_listing) (last (go match _ (go stores _ (begin _ _ _) w) u) v)
