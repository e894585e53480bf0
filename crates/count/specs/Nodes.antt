-- What the walk answers at a node, from the counts of its operands: the specification's order at each node, in arithmetic alone.
-- Example: `limit 65536 2 (counts_of 257 0 true false)` is Err (TooManyAlternatives 2).
use Rattle.std.specs.Prelude.{Result, Ok, Err, Bool, true, false, not, ◌≡◌, List, ℕ, ◌+◌, ◌*◌, ◌-◌, ◌≤◌, ◌<◌, eqb, ltb, length}
use Rattle.words.specs.Choice.{pick}
use Rattle.meaning.specs.declared.refusal.Refusal.{Refusal}
use Rattle.meaning.specs.declared.refusal.Refusal.TheVariants.{CountTooHigh, NotOverAnAtom, ThroughoutNotPlain, WithinBelowRoot, WithinNotPlain, TooManyAlternatives, TooManyEntries}
use Rattle.meaning.specs.Tree.{finite, node_at, nodes, below, unlimited}
use Rattle.meaning.specs.Lowerable.{FormedTable}
use Rattle.meaning.specs.declared.Node.{Node}
use Rattle.meaning.specs.declared.Counts.{Counts}
use Rattle.outline.specs.Outline.{is_repeated, is_once, bare_in, Known}
use Rattle.count.specs.Capped.{nothing, bool_term, other_term, capped, times, copied, summed, with_empty, not_plain, guarded_each}

-- What the walk asks of a table, a node of it, the room and the depth.
pub record Countable (t : List ℕ) (n room depth : ℕ) : Type 0 where
  pub formed : FormedTable t
  pub inside : n < nodes t
  pub rooms : room ≤ 65536
  pub deep : depth ≤ 257

-- A node that is a within, and may be walked as a root.
pub record IsWithin (t : List ℕ) (n room : ℕ) : Type 0 where
  pub formed : FormedTable t
  pub inside : n < nodes t
  pub rooms : room ≤ 65536
  pub kind : (node_at t n).kind ≡ 7

-- The outline has the words of both operands of node n and below.
pub record OperandsKnown (t o : List ℕ) (n : ℕ) : Type 0 where
  pub one : Known t o (node_at t n).p
  pub two : Known t o (node_at t n).q

-- v are the words of node n.
pub record WordsOf (t : List ℕ) (n : ℕ) (v : Node) : Type 0 where
  pub formed : FormedTable t
  pub inside : n < nodes t
  pub words : v ≡ node_at t n

-- What is asked of a node whose word is to be noted.
pub record Answerable (t o : List ℕ) (n : ℕ) : Type 0 where
  pub formed : FormedTable t
  pub inside : n < nodes t
  pub long : nodes t ≤ length o

-- What is asked of a node whose operands are not visited: v are its words.
pub record Unvisited (t : List ℕ) (n : ℕ) (v : Node) : Type 0 where
  pub formed : FormedTable t
  pub inside : n < nodes t
  pub words : v ≡ node_at t n
  pub no_delay : v.kind ≡ 2 → ⊥
  pub no_throughout : v.kind ≡ 6 → ⊥

-- 10 and 11 at node n, then what was counted.
unfoldable pub limit : ℕ → ℕ → Counts → Result Counts Refusal
limit room n c = pick (ltb 256 c.alternatives) (Err (TooManyAlternatives n)) (pick (ltb room c.entries) (Err (TooManyEntries n)) (Ok c))

-- A delay of operands that one hop joins to c: one "at least" hop for $, else each fixed hop from min to max.
unfoldable pub delay_counts : Node → Counts → Counts
delay_counts v c = pick (eqb v.max unlimited) (not_plain c) (times (v.max - v.min + 1) c)

-- A finite [*], n not 0: max(m,1) up to n copies.
unfoldable pub consec_counts : Node → Counts → Counts
consec_counts v s = with_empty v.min (summed s nothing (copied s s (below v.min)) (v.max - below v.min))

-- 5 of a finite [*], which comes after its operand, then 10 and 11.
unfoldable pub repeated : ℕ → ℕ → Node → Counts → Result Counts Refusal
repeated room n v s = pick (ltb 256 v.max) (Err (CountTooHigh n)) (limit room n (consec_counts v s))

-- 7 of a throughout, which comes after its operand, then 10 and 11.
unfoldable pub covered : ℕ → ℕ → Counts → Result Counts Refusal
covered room n s = pick s.plain (limit room n (guarded_each s)) (Err (ThroughoutNotPlain n))

-- 5 and 6 of the kinds 4, 5 and [*m:$], from the words of the operand's node: it is read for its kind only.
unfoldable pub over_node : ℕ → ℕ → Node → Node → Result Counts Refusal
over_node room n v under =
    pick (ltb 256 v.min) (Err (CountTooHigh n)) (pick (eqb under.kind 1) (limit room n (with_empty v.min other_term)) (Err (NotOverAnAtom n)))

-- SPECIFICATION, "Refusals": "The operands of [->], [=], [*0] and [*m:$] are not visited"; an atom has none, and 8 comes before those of a within.
unfoldable pub unvisited : ℕ → ℕ → Node → Node → Result Counts Refusal
unvisited room n v under =
    pick (eqb v.kind 7)
    (Err (WithinBelowRoot n))
    (pick (eqb v.kind 1)
    (limit room n bool_term)
    (pick (pick (eqb v.kind 3) (eqb v.max 0) false) (limit room n other_term) (over_node room n v under)))

-- The answer of a node that is no finite [*] other than [*0], from the counts of its visited operands, joined by one hop.
unfoldable pub unrepeated : ℕ → ℕ → Node → Node → Counts → Result Counts Refusal
unrepeated room n v under c =
    pick (eqb v.kind 2) (limit room n (delay_counts v c)) (pick (eqb v.kind 6) (covered room n c) (unvisited room n v under))

-- The answer of any node, from the counts of its visited operands, joined by one hop.
unfoldable pub answer : ℕ → ℕ → Node → Node → Counts → Result Counts Refusal
answer room n v under c = pick (is_repeated v) (repeated room n v c) (unrepeated room n v under c)

-- The node that is left of a node without the [*1] over it, from the operand's word.
unfoldable pub left_of : List ℕ → ℕ → Node → ℕ
left_of o n v = pick (is_repeated v) (pick (is_once v.min (finite v.max)) (bare_in o v.p) n) n

-- How many operands of a node are visited: both of a delay, that of a throughout or of a finite [*] other than [*0].
unfoldable pub visits : Node → ℕ
visits v = pick (eqb v.kind 2) 2 (pick (eqb v.kind 6) 1 (pick (is_repeated v) 1 0))

-- The k-th operand that is visited.
unfoldable pub operand_at : Node → ℕ → ℕ
operand_at v k = pick (eqb k 1) v.q (pick (eqb v.kind 6) v.q v.p)

-- 9 of one operand of a root within.
abbrev pub fits_within : Counts → Bool
fits_within c = pick c.plain (not c.guarded) false

-- 9, 10 and 11 of a root within: "the product of its operands' numbers", "the sum of its operands' entries".
unfoldable pub paired : ℕ → ℕ → Counts → Counts → Result Counts Refusal
paired room n x y =
    pick (pick (fits_within x) (fits_within y) false)
    (limit room n (capped (x.alternatives * y.alternatives) (x.entries + y.entries) true false))
    (Err (WithinNotPlain n))
