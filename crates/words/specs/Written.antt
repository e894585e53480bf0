-- What a lent slice holds once words were put into it. Every function that writes promises the same record, `Wrote`.
-- Example: `written (7 ∷ 7 ∷ 7 ∷ []) 1 (5 ∷ [])` is `7 ∷ 5 ∷ 7 ∷ []`.
use Rattle.std.specs.Prelude.{◌≡◌, List, ℕ, ◌+◌, length}
use Rattle.std.proofs.lemmas.List.Edits.{sets}

-- The list with the words stored one by one from the place on; the rest is as it was.
unfoldable pub written : {A : Type 0} → List A → ℕ → List A → List A
written list place words = sets list place words

-- After is before with the words from the place on, and next is the place behind them.
pub record Wrote {A : Type 0} (before after : List A) (place next : ℕ) (words : List A) : Type 0 where
  pub holds : after ≡ written before place words
  pub ends : next ≡ place + length words
