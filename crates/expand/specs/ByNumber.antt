-- Alternatives by number: how the number of an alternative says which of its operands' alternatives it is made of, and the
-- words that the steps of one alternative are kept as.
-- Example: `a[*1:2] ##[3:4] b` has four. Number 3 is the second hop, 4, between the second left and the only right: a a b.
use Rattle.std.specs.Prelude.{Bool, false, ◌≡◌, List, ℕ, zero, suc, ◌+◌, ◌*◌, ◌-◌, ◌<◌, ◌≤◌, ◌/◌, ◌%◌, eqb, leb, ltb, length, get_or}
use Rattle.words.specs.Choice.{pick}
use Rattle.term.specs.Steps.{steps_words}
use Rattle.meaning.specs.declared.Node.{Node}
use Rattle.meaning.specs.declared.SeqTerm.{SeqTerm}
use Rattle.meaning.specs.declared.SeqTerm.TheVariants.{Bool as BoolTerm, Goto, Nonconsec, ConsecAtLeast, Empty}
use Rattle.meaning.specs.declared.SeqHop.{SeqHop}
use Rattle.meaning.specs.declared.SeqHop.TheVariants.{Fixed, AtLeast}
use Rattle.meaning.specs.Tree.{node_at, tree_at, unlimited}
use Rattle.meaning.specs.Alternative.{SeqAlt, single, rehop, copies, expand}
use Rattle.outline.specs.Outline.{is_repeated, count_in, Expandable, Known}
use Rattle.expand.specs.declared.Parts.{Parts}
use Rattle.expand.specs.declared.Block.{Block}

-- The alternatives of node n of the table.
unfoldable pub alternatives_of : List ℕ → ℕ → List SeqAlt
alternatives_of t n = expand (tree_at t n)

-- SPECIFICATION, "Alternatives": "for k from the larger of m and 1 up to n"; here k + 1 copies.
unfoldable pub copies_of : List SeqAlt → ℕ → List SeqAlt
copies_of base k = copies base k

-- The i-th alternative, counted from 0. There is none past the end; what stands there is never asked for.
unfoldable pub nth : List SeqAlt → ℕ → SeqAlt
nth alts i = get_or alts i (single Empty)

-- The words of the i-th alternative's steps, of which the first is reached by h: "the delay's hop takes the place of that of the right's first term".
unfoldable pub alternative_words : SeqHop → List SeqAlt → ℕ → List ℕ
alternative_words h alts i = steps_words (rehop h (nth alts i).steps)

-- The k-th hop of a delay: "one fixed hop for every number from min to max, or, where max is $, the single hop".
unfoldable pub hop_at : ℕ → ℕ → ℕ → SeqHop
hop_at min max k = pick (eqb max unlimited) (AtLeast min) (Fixed (min + k))

-- "The hop varies slowest, then the left's alternative, then the right's": alternative i of a delay whose left has a alternatives and whose right has b.
unfoldable pub parts_of : ℕ → ℕ → ℕ → ℕ → ℕ → Parts
parts_of min max i a b = record { hop = hop_at min max (i / b / a); left = i / b % a; right = i % b }

-- How many alternatives k + 1 copies have, of an operand that has a.
unfoldable pub copies_count : ℕ → ℕ → ℕ
copies_count a zero = a
copies_count a (suc k) = copies_count a k * a

-- Where number i stands among the alternatives of k + 1 copies, k + 2 and so on, of which the last block is the one that
-- comes `more` blocks later.
unfoldable pub block_of : ℕ → ℕ → ℕ → ℕ → Block
block_of a k zero i = record { later = k; index = i }
block_of a k (suc more) i =
    let next = block_of a (suc k) more (i - copies_count a k) in pick (ltb i (copies_count a k)) (record { later = k; index = i }) next

-- "if m is 0, Empty comes first"
unfoldable pub empties : ℕ → ℕ
empties min = pick (eqb min 0) 1 0

-- Alternative i of the node is made of copies of its operand: "[*0] (n is 0) is Empty alone, and its operand is not visited".
unfoldable pub is_copies : Node → ℕ → Bool
is_copies v i = pick (is_repeated v) (leb (empties v.min) i) false

-- The one term of an alternative that is made of no operand's: "a single Bool term", "a single term with its count", "if m is 0, Empty comes first; then one
-- run of at least the larger of m and 1". The operand of the last three is an atom.
unfoldable pub single_term : List ℕ → Node → ℕ → SeqTerm
single_term t v i =
    pick (eqb v.kind 1)
    (BoolTerm v.p)
    (pick (eqb v.kind 4)
    (Goto (node_at t v.p).p v.min)
    (pick (eqb v.kind 5)
    (Nonconsec (node_at t v.p).p v.min)
    (pick (ltb i (empties v.min)) Empty (ConsecAtLeast (node_at t v.p).p (v.min - 1 + 1)))))

-- "the earlier a copy, the slower it varies": which alternative of an operand that has a stands, in alternative i of several copies, in the
-- copy that so many later ones follow.
unfoldable pub copy_number : ℕ → ℕ → ℕ → ℕ
copy_number a i zero = i % a
copy_number a i (suc later) = copy_number a (i / a) later

-- The operand of a node of another kind than 1 can be read.
pub record OperandInside (t : List ℕ) (v : Node) : Type 0 where
  pub inside : (v.kind ≡ 1 → ⊥) → v.p * 5 + 5 ≤ length t
  pub few : (v.kind ≡ 1 → ⊥) → v.p < 4096

-- What alternative i of the delay v is made of.
unfoldable pub delay_parts : List ℕ → Node → ℕ → Parts
delay_parts o v i = parts_of v.min v.max i (count_in o v.p) (count_in o v.q)

-- Where alternative i of the repetition v stands, past its Empty.
unfoldable pub copies_block : List ℕ → Node → ℕ → Block
copies_block o v i = block_of (count_in o v.p) (v.min - 1) (v.max - (v.min - 1) - 1) (i - empties v.min)

-- The counts of a delay's operands are in the outline, and take i apart without an overflow.
pub record DelayCounted (o : List ℕ) (v : Node) (i : ℕ) : Type 0 where
  pub left_inside : v.p < length o
  pub right_inside : v.q < length o
  pub left_some : 0 < count_in o v.p
  pub right_some : 0 < count_in o v.q
  pub hop_small : v.min + i / count_in o v.q / count_in o v.p < 4294967296

-- The count of a repetition's operand is in the outline, and finds the block of i, past the Empty.
pub record CopiesCounted (o : List ℕ) (v : Node) (i : ℕ) : Type 0 where
  pub inside : v.p < length o
  pub some : 0 < count_in o v.p
  pub few : count_in o v.p ≤ 256
  pub order : v.min ≤ v.max
  pub live : 0 < v.max
  pub few_copies : v.max ≤ 256
  pub first_few : copies_count (count_in o v.p) (v.min - 1) ≤ 256
  pub past_empty : empties v.min ≤ i
  pub few_numbers : i ≤ 256

-- A node that the checks and the walk let pass, and the number of one of its alternatives.
pub record Numbered (t : List ℕ) (n i : ℕ) : Type 0 where
  pub node : Expandable t n
  pub index : i < length (alternatives_of t n)

-- A node that the checks and the walk let pass, and the number of one of the alternatives of k + 1 copies of it.
pub record NumberedCopies (t : List ℕ) (n k i : ℕ) : Type 0 where
  pub node : Expandable t n
  pub few : k ≤ 256
  pub few_numbers : length (copies_of (alternatives_of t n) k) ≤ 256
  pub index : i < length (copies_of (alternatives_of t n) k)

-- What writing an alternative asks for: its number, and an outline that has the words of its node.
pub record OutlinedNumber (t o : List ℕ) (n i : ℕ) : Type 0 where
  pub numbered : Numbered t n i
  pub known : Known t o n

-- What writing an alternative of copies asks for: its number, and an outline that has the words of the node that is copied.
pub record OutlinedCopies (t o : List ℕ) (n k i : ℕ) : Type 0 where
  pub numbered : NumberedCopies t n k i
  pub known : Known t o n
