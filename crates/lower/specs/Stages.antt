-- What is known between the stages of lowering: what one stage promises and the next asks for.
-- Example: once `a ##1 b` is placed, it is known to have 1 register and 8 words, and only 14 can still be answered.
use Rattle.std.specs.Prelude.{◌≡◌, Result, List, ℕ, ◌+◌, ◌-◌, ◌/◌, ◌≤◌, eqb, length}
use Rattle.words.specs.Choice.{pick}
use Rattle.meaning.specs.Tree.{node_at, root}
use Rattle.meaning.specs.Refusals.{walk_root, room_of, nowhere, misplaced}
use Rattle.meaning.specs.Answers.{counted}
use Rattle.meaning.specs.Lower.{synth_of}
use Rattle.meaning.specs.Lowerable.{FormedTable}
use Rattle.meaning.specs.declared.Node.{Node}
use Rattle.meaning.specs.declared.Counts.{Counts}
use Rattle.meaning.specs.declared.refusal.Refusal.{Refusal}
use Rattle.outline.specs.Outline.{KnownRoot}
use Rattle.choice.specs.ChoiceWords.{survey_by}
use Rattle.lower.specs.declared.Root.{Root}
use Rattle.lower.specs.declared.Root.TheVariants.{Within, Other}

-- What the last node is, with its number: kind 7 is a within, of two operands.
unfoldable pub root_by : ℕ → Node → Root
root_by n v = pick (eqb v.kind 7) (Within v.p v.q) (Other n)

unfoldable pub root_of : List ℕ → Root
root_of t = root_by (length t / 5 - 1) (node_at t (length t / 5 - 1))

-- How many registers the tree has: as many from any number on.
unfoldable pub register_count : List ℕ → ℕ
register_count t = length (synth_of t 0).stores

-- What the first pass answers: 12 of the lowest alternative, or the registers.
unfoldable pub survey_root : List ℕ → Result ℕ Refusal
survey_root t = survey_by (misplaced (root t)) (register_count t)

-- A table that passed its checks and that the walk counted, with so much work; o is the outline that the walk noted.
pub record Outlines (t o : List ℕ) (work : ℕ) : Type 0 where
  pub formed : FormedTable t
  pub counts : Counts
  pub walks : counted counts ≡ walk_root (room_of work) (root t)
  pub known : KnownRoot t o

-- The same with its root.
pub record Rooted (t o : List ℕ) (root : Root) (work : ℕ) : Type 0 where
  pub outlines : Outlines t o work
  pub told : root ≡ root_of t

-- A tree past 12 and 13, with its registers.
pub record Placed (t : List ℕ) (first registers : ℕ) : Type 0 where
  pub placed : misplaced (root t) ≡ nowhere
  pub counted : registers ≡ register_count t
  pub few : first + registers ≤ 65536
