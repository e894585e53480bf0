-- Tables of runs as the code has them, and their rows.
-- Example: row 1 of a table of side 3 has an end at 2 where the table has the run [1, 2).
use Rattle.std.specs.Prelude.{◌≡◌, ◌↔◌, List, ℕ, ◌≤◌, length}
use Rattle.meaning.specs.Match.{Runs}
use Rattle.runs.specs.Ends.{In, Kept}
use Rattle.runs.specs.declared.table.Table.{Table}

-- The runs of a table.
abbrev pub RunsOf : Table → Runs
RunsOf table = Kept table.bytes.now table.place table.side

-- A row of so many bytes has the ends of the runs that begin at the tick. Its bytes in front of the tick say nothing.
pub record RowOf (R : Runs) (side tick : ℕ) (row : List ℕ) : Type 0 where
  pub long : length row ≡ side
  pub runs : (j : ℕ) → tick ≤ j → In row j ↔ R tick j
