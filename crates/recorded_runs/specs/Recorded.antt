-- Recorded ticks (SPECIFICATION, "The matcher": "rows of bytes"), and the runs that are read off them.
-- Example: the bytes 1 0, 0 1 of width 2 are two ticks: atom 0 holds at tick 0, and atom 1 at tick 1.
use Rattle.std.specs.Prelude.{Bool, true, false, List, ℕ, ◌*◌, ◌-◌, ◌≤◌, ◌<◌, length, take, drop}
use Rattle.meaning.specs.Demand3.{trace}
use Rattle.meaning.specs.Match.{Runs, GotoRuns, NonconsecRuns, Always}
use Rattle.recorded_runs.specs.declared.Rows.{Rows}

-- The atoms' bytes at tick t: rows are "a row for each tick and in it a byte for each atom".
abbrev pub atoms_at : List ℕ → ℕ → ℕ → List ℕ
atoms_at rows width t = take width (drop (t * width) rows)

-- Which atoms hold at which tick.
abbrev pub recorded : List ℕ → ℕ → ℕ → ℕ → Bool
recorded rows width = trace (atoms_at rows width)

-- The same of rows as the code has them.
abbrev pub trace_of : Rows → ℕ → ℕ → Bool
trace_of rows = recorded rows.bytes.now rows.width

-- There are atoms for each tick of a run whose ends stand in a row of this side.
pub record Covers (rows : List ℕ) (width side : ℕ) : Type 0 where
  pub begins : 0 < side
  pub reaches : (side - 1) * width ≤ length rows

-- b[=n] where it may go on, else b[->n].
abbrev pub Counted : Bool → (ℕ → ℕ → Bool) → ℕ → ℕ → Runs
Counted true σ b n = NonconsecRuns σ b n
Counted false σ b n = GotoRuns σ b n

-- The last end, below the side, of the runs from i on at every tick of which the atom holds.
pub record Last (σ : ℕ → ℕ → Bool) (c i side last : ℕ) : Type 0 where
  pub inside : last < side
  pub always : Always σ c i last
  pub longest : (j : ℕ) → last < j → j < side → Always σ c i j → ⊥

-- "a run of s at every tick of which c is 1", of the runs of s.
abbrev pub Throughout : Runs → (ℕ → ℕ → Bool) → ℕ → Runs
Throughout R σ c i j = (_ : R i j) × Always σ c i j
