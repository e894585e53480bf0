-- What stands between a filled table and the answer: which ticks its runs end at, and the answer while work is not cleared.
-- Example: of the table with the runs [0, 1) and [1, 1) a run ends at tick 0, and none at tick 1: an empty one has no last tick.
use Rattle.std.specs.Prelude.{Result, ◌≡◌, List, ℕ, suc, ◌≤◌, ◌<◌, length, get_or, drop}
use Rattle.recording.specs.Refusals.{judged}
use Rattle.meaning.specs.declared.refusal.Refusal.{Refusal}
use Rattle.meaning.specs.Match.{Runs}
use Rattle.matches.specs.Answers.{Says, Holds}

-- Some run has its last tick here.
abbrev pub EndsAt : Runs → ℕ → Type 0
EndsAt R tick = (i : ℕ) × (i ≤ tick) × R i (suc tick)

-- A byte for each tick says whether a run ends there; later bytes are as they were.
pub record EndsPut (R : Runs) (ticks : ℕ) (before after : List ℕ) : Type 0 where
  pub long : length after ≡ length before
  pub says : (t : ℕ) → t < ticks → Says (get_or after t 0) (EndsAt R t)
  pub later : drop ticks after ≡ drop ticks before

-- The answer and what is lent afterwards, while work still holds the tables.
pub record Uncleared (tree rows : List ℕ) (width : ℕ) (answers answers' work work' : List ℕ) (answer : Result ℕ Refusal) : Type 0 where
  pub answer_is : answer ≡ judged tree rows width (length answers) (length work)
  pub holds : Holds answer tree rows width answers answers'
  pub long : length work' ≡ length work
