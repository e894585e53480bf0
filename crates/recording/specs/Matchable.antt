-- What is known of a tree and a recording once nothing of them is refused: what filling the tables asks for.
-- Example: of `a ##1 b` and six rows of width 2 with 147 bytes of work; with rows of width 1 it does not hold, since b stands in none.
use Rattle.std.specs.Prelude.{true, ◌≡◌, ◌⊎◌, List, ℕ, ◌+◌, ◌*◌, ◌/◌, ◌≤◌, ◌<◌, length}
use Rattle.meaning.specs.Tree.{node_at, nodes}
use Rattle.meaning.specs.Kinds.{columns}
use Rattle.meaning.specs.Tick.{all_bits}
use Rattle.meaning.specs.Refusals.{table}
use Rattle.meaning.specs.Answers.{formed}
use Rattle.meaning.specs.Lowerable.{FormedTable}
use Rattle.meaning.specs.declared.Part.TheVariants.{Atom}

-- A tree and rows that can be matched, with so many bytes of answers and of work.
pub record Matchable (tree rows : List ℕ) (width ticks answers work : ℕ) : Type 0 where
  pub checked : table tree ≡ formed
  pub formed : FormedTable tree
  pub few : nodes tree ≤ 64
  pub over_atoms : (n : ℕ) → n < nodes tree → ((node_at tree n).kind ≡ 4) ⊎ ((node_at tree n).kind ≡ 5) → (node_at tree (node_at tree n).p).kind ≡ 1
  pub atoms : (n : ℕ) → n < nodes tree → (columns (node_at tree n).kind).p ≡ Atom → (node_at tree n).p < width
  pub wide : 0 < width
  pub counted : ticks ≡ length rows / width
  pub even : ticks * width ≡ length rows
  pub short : ticks ≤ 256
  pub bits : all_bits rows ≡ true
  pub answered : ticks ≤ answers
  pub enough : nodes tree * ((ticks + 1) * (ticks + 1)) ≤ work
