-- A repetition of a table's runs (SPECIFICATION, "What a match is": "joined by ##1").
-- Example: twice the runs [0, 1) and [1, 2) is [0, 2).
use Rattle.std.specs.Prelude.{◌≡◌, ◌⊎◌, ◌↔◌, List, ℕ, suc, ◌≤◌, ◌<◌, get_or}
use Rattle.meaning.specs.Match.{Runs, Times}
use Rattle.runs.specs.Ends.{In}

-- The runs of a repetition by min to max, from the runs of its operand.
abbrev pub Repeated : Runs → ℕ → ℕ → Runs
Repeated R min max i j = (c : ℕ) × (min ≤ c) × (c ≤ max) × Times c R i j

-- Two rows that are the same below the side.
abbrev pub Alike : List ℕ → List ℕ → ℕ → Type 0
Alike x y side = (j : ℕ) → j < side → get_or x j 0 ≡ get_or y j 0

-- A row whose ends below the side are those of which P holds.
pub record Carries (row : List ℕ) (side : ℕ) (P : ℕ → Type 0) : Type 0 where
  pub ends : (j : ℕ) → j < side → In row j ↔ P j

-- The last count to which copies are made one by one: the lowest one, where the highest is not below the side, and else the highest.
abbrev pub Last : ℕ → ℕ → ℕ → ℕ → Type 0
Last count low max side = ((side ≤ max) × (count ≡ low)) ⊎ ((max < side) × (count ≡ max))

-- The ends that one run or more in a row reach from those of a row, from `first` on.
abbrev pub Onward : Runs → List ℕ → ℕ → ℕ → Type 0
Onward R from first j = (k : ℕ) × (c : ℕ) × (first ≤ k) × In from k × Times (suc c) R k j
