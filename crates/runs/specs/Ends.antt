-- Runs of ticks kept as bytes (SPECIFICATION, "What a match is"). A table has a row for each tick at which a run can begin, and in it a byte for
-- each at which it can end: over n ticks n + 1 of both, its side. A byte of 1 is a run. One row by itself is a set of ends.
-- Example: over two ticks the table of the atom a that holds at tick 1 alone is 0 0 0, 0 0 1, 0 0 0: the run [1, 2).
use Rattle.std.specs.Prelude.{◌≡◌, ◌⊎◌, List, ℕ, ◌+◌, ◌*◌, ◌≤◌, ◌<◌, length, get_or}
use Rattle.meaning.specs.Match.{Runs}

-- The byte is 1 now if P holds, and else as it was.
abbrev pub Marked : ℕ → ℕ → Type 0 → Type 0
Marked before after P = (P × (after ≡ 1)) ⊎ ((P → ⊥) × (after ≡ before))

-- A row that gained the ends of which P holds, and is else as it was.
pub record Gains (before after : List ℕ) (P : ℕ → Type 0) : Type 0 where
  pub long : length after ≡ length before
  pub marked : (j : ℕ) → j < length before → Marked (get_or before j 0) (get_or after j 0) (P j)

-- The row has the end j.
abbrev pub In : List ℕ → ℕ → Type 0
In row j = get_or row j 0 ≡ 1

-- The runs of the table that begins at the place, of this side. Where the end is below the start the table is not looked at.
abbrev pub Kept : List ℕ → ℕ → ℕ → Runs
Kept tables place side i j = (i ≤ j) × (j < side) × (get_or tables (place + i * side + j) 0 ≡ 1)

-- The whole table stands in the slice.
abbrev pub Stands : List ℕ → ℕ → ℕ → Type 0
Stands tables place side = place + side * side ≤ length tables

-- The ends of runs of so many ticks at least that begin in the row, from `first` on.
abbrev pub Reached : Runs → List ℕ → ℕ → ℕ → ℕ → Type 0
Reached R from first least j = (k : ℕ) × (first ≤ k) × In from k × (k + least ≤ j) × R k j
