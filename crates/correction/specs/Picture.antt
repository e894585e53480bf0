-- The picture as it is to leave, said of rows and columns alone: no tick, no delay, no kept row.
-- Example: with the one entry (1, 2), row 1, column 2 is the mean of row 1, column 1 and row 0, column 2, and every other pixel is
-- as the sensor gave it.
use Rattle.std.specs.Prelude.{◌≡◌, Bool, List, ℕ, zero, suc, ◌+◌, ◌/◌, length}
use Rattle.words.specs.Choice.{pick}
use Rattle.correction.specs.Map.{names}
use Rattle.correction.specs.Rows.{row_of, column_of, Stepped}
use Rattle.correction.specs.declared.Leaving.{Leaving}
use Rattle.correction.specs.declared.Leaving.TheVariants.{Kept, Replaced}
use Rattle.correction.specs.declared.Output.{Output}

-- A pixel that is not named is as it came in. One that is named is the mean of its neighbour in the row and of the pixel above,
-- both corrected; at the frame's edge the one of the two that is there; in the first corner 0.
unfoldable pub corrected : (ℕ → ℕ → Bool) → (ℕ → ℕ → ℕ) → ℕ → ℕ → ℕ
corrected named picture zero zero = pick (named zero zero) 0 (picture zero zero)
corrected named picture zero (suc column) = pick (named zero (suc column)) (corrected named picture zero column) (picture zero (suc column))
corrected named picture (suc row) zero = pick (named (suc row) zero) (corrected named picture row zero) (picture (suc row) zero)
corrected named picture (suc row) (suc column) =
    pick (named (suc row) (suc column))
    ((corrected named picture (suc row) column + corrected named picture row (suc column)) / 2)
    (picture (suc row) (suc column))

-- What is to leave of the pixel of a row and a column, by the map.
unfoldable pub to_leave : List ℕ → (ℕ → ℕ → ℕ) → ℕ → ℕ → Leaving
to_leave map picture row column = pick (names map row column) (Replaced (corrected (names map) picture row column)) (Kept (picture row column))

-- The picture came in for so many ticks, from any two rows on.
pub data Ran (map : List ℕ) (picture : ℕ → ℕ → ℕ) : ℕ → List ℕ → Type 0 where
  begun : {rows : List ℕ} → length rows ≡ 1504 → Ran map picture 0 rows
  ticked : {tick : ℕ} {before after : List ℕ} {given : Output} → Ran map picture tick before
      → Stepped map before after tick (picture (row_of tick) (column_of tick)) given → Ran map picture (tick + 1) after
