-- The uses of all nodes at once, in one pass over the table: a list with a number for each node, which stops at 2.
-- Example: of `a ##1 b`, nodes 0, 1 and 2, it begins 1 ∷ 1 ∷ 0. 2 stands for every number above 1: refusal 2 asks for 1.
use Rattle.std.specs.Prelude.{Bool, true, ◌≡◌, List, ℕ, zero, suc, ◌+◌, ◌*◌, ◌≤◌, ◌<◌, leb, length, get_or, set}
use Rattle.words.specs.Choice.{pick}
use Rattle.meaning.specs.Tree.{node_at}
use Rattle.meaning.specs.Refusals.{uses_p, uses_q}
use Rattle.meaning.specs.declared.Node.{Node}

-- One use more of node k, if it is an operand.
unfoldable pub use_if : List ℕ → Bool → ℕ → List ℕ
use_if used operand k = pick operand (pick (leb 2 (get_or used k 0)) used (set used k (get_or used k 0 + 1))) used

-- The uses that the node v makes.
unfoldable pub use_operands : List ℕ → Node → List ℕ
use_operands used v = use_if (use_if used (uses_p v) v.p) (uses_q v) v.q

-- The uses that the nodes below count make.
unfoldable pub used_by : List ℕ → ℕ → List ℕ → List ℕ
used_by t zero used = used
used_by t (suc count) used = use_operands (used_by t count used) (node_at t count)

-- The operands of v have a place in a list of this size.
pub record OperandsWithin (size : ℕ) (v : Node) : Type 0 where
  pub left : uses_p v ≡ true → v.p < size
  pub right : uses_q v ≡ true → v.q < size

-- The operands of each of count nodes have a place in a list of this size.
pub record AllOperandsWithin (size : ℕ) (t : List ℕ) (count : ℕ) : Type 0 where
  pub inside : count * 5 ≤ length t
  pub few : count ≤ 4096
  pub each : (n : ℕ) → n < count → OperandsWithin size (node_at t n)
