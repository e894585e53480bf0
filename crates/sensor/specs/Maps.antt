-- The maps that are tried: made from the sensor's defects, in the order in which the pixels come in.
-- Example: the defects of row 0 come first, from the left; transposed, those of column 0.
use Rattle.std.specs.Prelude.{Bool, false, List, [], ◌∷◌, ◌++◌, ℕ, zero, suc, ◌+◌, ◌-◌, eqb, length, take}
use Rattle.words.specs.Choice.{pick}
use Rattle.correction.specs.Map.{entry_of}
use Rattle.sensor.specs.Sensor.{defective_at}
use Rattle.sensor.specs.declared.Loaded.{Loaded}
use Rattle.sensor.specs.declared.Loaded.TheVariants.{AsMade, Transposed, OneLost}

-- A map that was loaded so has an entry for the row and the column.
unfoldable pub has_entry : Loaded → ℕ → ℕ → Bool
has_entry AsMade row column = defective_at row column
has_entry Transposed row column = defective_at column row
has_entry OneLost row column = pick (eqb row 62) (pick (eqb column 121) false (defective_at row column)) (defective_at row column)

-- The entry of a pixel, if the map has one.
unfoldable pub entry_for : Loaded → ℕ → ℕ → List ℕ
entry_for loaded row column = pick (has_entry loaded row column) (entry_of row column ∷ []) []

-- The entries of a row, of so many columns from this one on.
unfoldable pub row_entries : Loaded → ℕ → ℕ → ℕ → List ℕ
row_entries loaded row zero column = []
row_entries loaded row (suc columns) column = entry_for loaded row column ++ row_entries loaded row columns (column + 1)

-- The entries of so many rows from this one on.
unfoldable pub entries_from : Loaded → ℕ → ℕ → List ℕ
entries_from loaded zero row = []
entries_from loaded (suc rows) row = row_entries loaded row 752 0 ++ entries_from loaded rows (row + 1)

-- The whole map. Transposed, its rows go as far as the sensor's columns.
abbrev pub entries_of : Loaded → List ℕ
entries_of loaded = entries_from loaded 752 0

-- As many of the entries as there is room for behind the place.
abbrev pub as_fit : List ℕ → ℕ → List ℕ → List ℕ
as_fit map place entries = take (length map - place) entries
