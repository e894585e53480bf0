-- The bad pixel map: one word a pixel, its row times 65,536 plus its column, in the order in which the pixels come in.
-- Example: `names (65538 ∷ []) 1 2` is true and `names (65538 ∷ []) 2 1` is false.
use Rattle.std.specs.Prelude.{◌≡◌, Option, Some, None, is_some, Bool, true, false, List, [], ◌∷◌, ℕ, ◌+◌, ◌*◌, ◌/◌, ◌%◌, ◌≤◌, ◌<◌, eqb, ltb, leb, length, drop}
use Rattle.words.specs.Choice.{pick}

-- The word of a pixel.
abbrev pub entry_of : ℕ → ℕ → ℕ
entry_of row column = row * 65536 + column

-- The tick at which the pixel of a word comes in: 752 a row, one a column.
abbrev pub tick_of : ℕ → ℕ
tick_of entry = entry / 65536 * 752 + entry % 65536

-- The map names the pixel: some entry is its word.
unfoldable pub names : List ℕ → ℕ → ℕ → Bool
names [] row column = false
names (entry ∷ map) row column = pick (eqb entry (entry_of row column)) true (names map row column)

-- Every entry has a column of the frame, the first comes in at the tick `from` or later, and each later than the one before.
unfoldable pub ordered : ℕ → List ℕ → Bool
ordered from [] = true
ordered from (entry ∷ map) = pick (leb 752 (entry % 65536)) false (pick (ltb (tick_of entry) from) false (ordered (tick_of entry + 1) map))

-- So many entries are reached by the tick: those that are not come in then or later, in order, and those that are name no
-- pixel that comes in then or later.
pub record Reached (map : List ℕ) (reached tick : ℕ) : Type 0 where
  pub inside : reached ≤ length map
  pub ahead : ordered tick (drop reached map) ≡ true
  pub behind : (row column : ℕ) → column < 752 → tick ≤ row * 752 + column → names map row column ≡ names (drop reached map) row column

-- What is reached after a lookup: as much as it found, where the map names the pixel, and else as before.
abbrev pub reached_after : ℕ → Option ℕ → ℕ
reached_after before (Some after) = after
reached_after before None = before

-- A lookup says whether the map names the row and column, and what is reached after that pixel.
pub record LookedUp (map : List ℕ) (reached row column : ℕ) (found : Option ℕ) : Type 0 where
  pub says : is_some found ≡ names map row column
  pub after : Reached map (reached_after reached found) (row * 752 + column + 1)
