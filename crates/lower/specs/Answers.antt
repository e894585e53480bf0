-- What lowering answers and leaves: one outcome for each table, work and output (SPECIFICATION, "Refusals").
-- Example: for the words of `a ##1 b`, 32 words of work and 8 of output the answer is `listed 1 8 2`, the output holds the eight
-- words, and work is all zero.
use Rattle.std.specs.Prelude.{◌≡◌, Result, List, ℕ, length, replicate}
use Rattle.meaning.specs.Tree.{root}
use Rattle.meaning.specs.Refusals.{misplaced}
use Rattle.meaning.specs.Lower.{after_walk, lower, output_after}
use Rattle.meaning.specs.declared.Listing.{Listing}
use Rattle.meaning.specs.declared.refusal.Refusal.{Refusal}

-- The answer, the output and work after a call, from what they were before it.
pub record Lowers (tree : List ℕ) (first : ℕ) (work out : List ℕ) (answer : Result Listing Refusal) (work_after out_after : List ℕ) : Type 0 where
  pub answers : answer ≡ lower tree (length work) (length out) first
  pub holds : out_after ≡ output_after answer tree first out
  pub cleared : work_after ≡ replicate (length work) 0

-- The answer and the output, before work is cleared.
pub record Answers (tree : List ℕ) (first work : ℕ) (out : List ℕ) (answer : Result Listing Refusal) (out_after : List ℕ) : Type 0 where
  pub answers : answer ≡ lower tree work (length out) first
  pub holds : out_after ≡ output_after answer tree first out

-- The answer and the output, of a tree that passed the table's checks and the walk.
pub record Finishes (tree : List ℕ) (first : ℕ) (out : List ℕ) (answer : Result Listing Refusal) (out_after : List ℕ) : Type 0 where
  pub answers : answer ≡ after_walk (misplaced (root tree)) tree first (length out)
  pub holds : out_after ≡ output_after answer tree first out
