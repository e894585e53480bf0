-- What joins the runs of two tables: a delay, and a within (SPECIFICATION, "What a match is").
-- Example: `##[1:2]` after the run [0, 1) may begin its right operand at the ticks 1 and 2.
use Rattle.std.specs.Prelude.{◌≡◌, ℕ, suc, ◌+◌, ◌≤◌, ◌<◌}
use Rattle.meaning.specs.Match.{Runs, Join, Inside}

-- "With d of at least 1 there are d - 1 free ticks between the two runs": where the right run may begin, after a run of the left from i on.
abbrev pub Ahead : Runs → ℕ → ℕ → ℕ → ℕ → Type 0
Ahead left min max i s = (k : ℕ) × (d : ℕ) × (min ≤ suc d) × (suc d ≤ max) × left i k × (s ≡ k + d)

-- The runs of a delay by min to max, without those of ##0.
abbrev pub Later : Runs → Runs → ℕ → ℕ → Runs
Later left right min max i j = (d : ℕ) × (min ≤ suc d) × (suc d ≤ max) × Join (suc d) left right i j

-- The runs of ##0.
abbrev pub Overlapped : Runs → Runs → Runs
Overlapped left right i j = Join 0 left right i j

-- The runs of a delay by min to max, from the runs of its operands.
abbrev pub Delayed : Runs → Runs → ℕ → ℕ → Runs
Delayed left right min max i j = (d : ℕ) × (min ≤ d) × (d ≤ max) × Join d left right i j

-- The runs of a within, from the runs of its operands.
abbrev pub Within : Runs → Runs → Runs
Within one two i j = Inside one two i j

-- The lowest number below `high` of which P holds, or else `high`.
pub record Lowest (P : ℕ → Type 0) (high r : ℕ) : Type 0 where
  pub inside : r ≤ high
  pub holds : r < high → P r
  pub none_below : (j : ℕ) → j < r → P j → ⊥

-- The ends of the runs that begin at i or later.
abbrev pub EndsFrom : Runs → ℕ → ℕ → Type 0
EndsFrom R i j = (k : ℕ) × (i ≤ k) × R k j
