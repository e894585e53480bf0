-- What the matcher answers (SPECIFICATION, "The matcher"), by the definition of a match alone: `Match`, which demand 3 speaks of too.
-- Example: `a ##1 b` over the rows 1 0, 0 1 is answered 0 1: a match ends at tick 1.
use Rattle.std.specs.Prelude.{Result, Ok, Err, ◌≡◌, ◌⊎◌, List, ℕ, suc, ◌≤◌, ◌<◌, length, get_or, drop, replicate}
use Rattle.meaning.specs.Tree.{root}
use Rattle.meaning.specs.Match.{Match}
use Rattle.meaning.specs.Demand3.{trace}
use Rattle.recorded_runs.specs.Recorded.{atoms_at}
use Rattle.recording.specs.Refusals.{judged}
use Rattle.meaning.specs.declared.refusal.Refusal.{Refusal}

-- Some match of the tree, as the standard defines it, began at tick 0 or later and ends at tick n. It has a tick: "a match that has at least one tick".
abbrev pub AMatchEnds : List ℕ → (ℕ → List ℕ) → ℕ → Type 0
AMatchEnds tree atoms n = (i : ℕ) × (i ≤ n) × Match (trace atoms) (root tree) i (suc n)

-- The byte is 1 where P holds, and 0 where it does not.
abbrev pub Says : ℕ → Type 0 → Type 0
Says byte P = ((byte ≡ 1) × P) ⊎ ((byte ≡ 0) × (P → ⊥))

-- "Bytes of the answers behind the ticks stay as they were".
pub record Answered (tree rows : List ℕ) (width ticks : ℕ) (before after : List ℕ) : Type 0 where
  pub long : length after ≡ length before
  pub says : (t : ℕ) → t < ticks → Says (get_or after t 0) (AMatchEnds tree (atoms_at rows width) t)
  pub later : drop ticks after ≡ drop ticks before

-- What the answers hold; "What was lent for output is then unchanged" on a refusal.
abbrev pub Holds : Result ℕ Refusal → List ℕ → List ℕ → ℕ → List ℕ → List ℕ → Type 0
Holds (Ok ticks) tree rows width before after = Answered tree rows width ticks before after
Holds (Err refusal) tree rows width before after = after ≡ before

-- The answer, and what is lent afterwards: "work is all zero after every call".
pub record Matches (tree rows : List ℕ) (width : ℕ) (answers answers' work work' : List ℕ) (answer : Result ℕ Refusal) : Type 0 where
  pub answer_is : answer ≡ judged tree rows width (length answers) (length work)
  pub holds : Holds answer tree rows width answers answers'
  pub cleared : work' ≡ replicate (length work) 0
