-- Demand 3's premise is what the user says of the table: throughout stands on top in the tree exactly where each node of kind 6,
-- the root aside, is operand q of a node of kind 6. Of every table that passes 1, 2 and 3: by 2 each node but the root is an
-- operand of one node, so that the whole table is the root's tree, what the walk does not visit included.
use mathlib.Core.Path.{◌≡◌, refl, subst, subst⁻¹}
use mathlib.Core.Bool.{true, false}
use mathlib.Core.Logic.{◌↔◌, ◌⊎◌, inl, inr}
use mathlib.Core.List.{List}
use Prim.Native.Nat.{ℕ, zero, suc, ◌+◌, ◌≤◌, ◌<◌}
use native.Mathlib.Omega.{arith}
use native.Mathlib.Decide.{ℕ_discrete, dec_le}
use lib.Dec.{eqb}
use borrow.Author.Tests.{eqb-true, eq-eqb}
use Rattle.words.specs.Choice.{pick, pick_case}
use Rattle.words.proofs.Taken.{false_is_not_true}
use Rattle.meaning.specs.Tree.{Seq, node_at, tree_at, nodes, below, root}
use Rattle.meaning.specs.Kinds.{columns}
use Rattle.meaning.specs.Refusals.{uses_p, uses_q, uses_in, uses, table}
use Rattle.meaning.specs.Lowerable.{FormedTable}
use Rattle.meaning.specs.Demand3.{Unconditional, ThroughoutOnTop, OnTopInTheTable}
use Rattle.meaning.specs.declared.Node.{Node}
use Rattle.meaning.specs.Answers.{formed as table_formed}
use Rattle.meaning.proofs.Nodes.{at_atom, at_delay, at_consec, at_goto, at_nonconsec, at_throughout, at_within}
use Rattle.meaning.proofs.Roots.{by_throughouts}
use Rattle.meaning.proofs.Formed.{p_is_lower, q_is_lower, each_node_is_formed, a_formed_table, each_node_is_used_once}
use Rattle.meaning.proofs.Ranges.{by_kind}
use Rattle.meaning.proofs.Members.{below_is_one_less}

-- Operands, counted.

-- Node k is an operand of a node with the words v.
abbrev IsOperand : ℕ → Node → Type 0
IsOperand k v = ((uses_p v ≡ true) × (v.p ≡ k)) ⊎ ((uses_q v ≡ true) × (v.q ≡ k))

-- An operand of a node is counted among the node's uses.
an_operand_is_counted : (k : ℕ) (v : Node) → IsOperand k v → 1 ≤ uses_in k v
unfolding uses_in pick
an_operand_is_counted k v (inl (u, e)) = rw (u, eq-eqb v.p k e) (omega arith)
an_operand_is_counted k v (inr (u, e)) = rw (u, eq-eqb v.q k e) (omega arith)

-- What is counted among a node's uses is an operand of the node.
what_is_counted_is_an_operand : (k : ℕ) (v : Node) → 1 ≤ uses_in k v → IsOperand k v
unfolding uses_in
what_is_counted_is_an_operand k v =
    pick_case (λ (x : ℕ). 1 ≤ x + second → IsOperand k v) (uses_p v)
    (λ u. pick_case (λ (x : ℕ). 1 ≤ x + second → IsOperand k v) (eqb v.p k) (λ e some. inl (u, eqb-true _ _ e)) (λ e. by_q))
    (λ u. by_q)
  where
    second : ℕ
    second = pick (uses_q v) (pick (eqb v.q k) 1 0) 0

    by_q : 1 ≤ 0 + second → IsOperand k v
    by_q =
        pick_case (λ (x : ℕ). 1 ≤ 0 + x → IsOperand k v) (uses_q v)
        (λ u. pick_case (λ (x : ℕ). 1 ≤ 0 + x → IsOperand k v) (eqb v.q k) (λ e some. inr (u, eqb-true _ _ e)) (λ e none. absurd (omega arith)))
        (λ u none. absurd (omega arith))

module _ (t : List ℕ) where
  -- What is used is an operand of some node.
  used_by_a_node : (k count : ℕ) → 1 ≤ uses t k count → (m : ℕ) × (m < count) × IsOperand k (node_at t m)
  unfolding uses
  used_by_a_node k zero some = absurd (omega arith)
  used_by_a_node k (suc count) some =
      elim (ℕ_discrete (uses_in k (node_at t count)) 0) [
        | yes none ↦ (let (m, l, o) = used_by_a_node k count (omega arith) in (m, omega arith, o))
        | no more ↦ (count, omega arith, what_is_counted_is_an_operand k (node_at t count) (omega arith))
      ]

  -- An operand of a node is used.
  an_operand_is_used : (k m count : ℕ) → IsOperand k (node_at t m) → m < count → 1 ≤ uses t k count
  unfolding uses
  an_operand_is_used k m zero o l = absurd (omega arith)
  an_operand_is_used k m (suc count) o l =
      elim (ℕ_discrete m count) [
        | yes here ↦ omega (arith, an_operand_is_counted k (node_at t count) (subst (λ z. IsOperand k (node_at t z)) here o))
        | no lower ↦ omega (arith, an_operand_is_used k m count o (omega arith))
      ]

  -- An operand of two nodes is used twice.
  an_operand_of_two_is_used_twice : (k m n count : ℕ) → IsOperand k (node_at t m) → IsOperand k (node_at t n) → m < n → n < count → 2 ≤ uses t k count
  unfolding uses
  an_operand_of_two_is_used_twice k m n zero o o' l l' = absurd (omega arith)
  an_operand_of_two_is_used_twice k m n (suc count) o o' l l' =
      elim (ℕ_discrete n count) [
        | yes here ↦ omega (
          arith,
          an_operand_is_counted k (node_at t count) (subst (λ z. IsOperand k (node_at t z)) here o'),
          an_operand_is_used k m count o (omega arith),
        )
        | no lower ↦ omega (arith, an_operand_of_two_is_used_twice k m n count o o' l (omega arith))
      ]

-- A node that is no throughout, from its operands.

-- A tree without a throughout has throughout only on top.
unconditional_is_on_top : (s : Seq) → Unconditional s → ThroughoutOnTop s
unconditional_is_on_top = by_throughouts (λ s x. Unconditional s → Unconditional x) (λ n c s x under u. absurd u) (λ s u. u)

module _ (t : List ℕ) (n : ℕ) where
  abbrev v : Node
  v = node_at t n

  abbrev Free : ℕ → Type 0
  Free k = Unconditional (tree_at t k)

  -- If throughout stands on top, then not in its operands; and if in none of them, then nowhere in it.
  record ByItsOperands : Type 0 where
    under : ThroughoutOnTop (tree_at t n) → (k : ℕ) → IsOperand k v → Free k
    whole : ((k : ℕ) → IsOperand k v → Free k) → Free n

  -- A node has no operand, one or two; what is asked of each is what its kind's tree says.
  no_operand : uses_p v ≡ false → uses_q v ≡ false → Free n → ByItsOperands
  no_operand p q free = record { under = λ top k o. absurd (none k o); whole = λ each. free }
    where
      none : (k : ℕ) → IsOperand k v → ⊥
      none k (inl (u, e)) = false_is_not_true (rw p at u)
      none k (inr (u, e)) = false_is_not_true (rw q at u)

  one_operand : uses_p v ≡ true → uses_q v ≡ false → (ThroughoutOnTop (tree_at t n) → Free v.p) → (Free v.p → Free n) → ByItsOperands
  one_operand p q under whole = record {
    under = λ top k o. subst Free (is k o) (under top);
    whole = λ each. whole (each v.p (inl (p, refl)));
  }
    where
      is : (k : ℕ) → IsOperand k v → v.p ≡ k
      is k (inl (u, e)) = e
      is k (inr (u, e)) = absurd (false_is_not_true (rw q at u))

  two_operands : uses_p v ≡ true → uses_q v ≡ true
      → (ThroughoutOnTop (tree_at t n) → Free v.p × Free v.q) → (Free v.p × Free v.q → Free n) → ByItsOperands
  two_operands p q under whole = record {
    under = λ top k o. elim o [ inl e ↦ subst Free e.1 (under top).0 | inr e ↦ subst Free e.1 (under top).1 ];
    whole = λ each. whole (each v.p (inl (p, refl)), each v.q (inr (q, refl)));
  }

-- A table that passed 1, 2 and 3.
module _ (t : List ℕ) (checked : table t ≡ table_formed) where
  formed : FormedTable t
  formed = a_formed_table t checked

  -- Kind by kind.
  by_its_operands : (n : ℕ) → n < nodes t → ((node_at t n).kind ≡ 6 → ⊥) → ByItsOperands t n
  unfolding columns pick
  by_its_operands n inside other =
      let w = formed.each n inside in
      by_kind (node_at t n).kind w.known
      (λ k. no_operand t n (rw k) (rw k) (subst⁻¹ Unconditional (at_atom t n k) tt))
      (λ k.
      let is = at_delay t n k (w.delay_left k) (w.delay_right k) in
      two_operands t n (rw k) (rw k) (subst ThroughoutOnTop is) (subst⁻¹ Unconditional is))
      (λ k.
      let is = at_consec t n k (w.consec_under k) in
      one_operand t n (rw k) (rw k) (subst ThroughoutOnTop is) (subst⁻¹ Unconditional is))
      (λ k.
      let is = at_goto t n k (w.goto_under k) in
      one_operand t n (rw k) (rw k) (subst ThroughoutOnTop is) (subst⁻¹ Unconditional is))
      (λ k.
      let is = at_nonconsec t n k (w.nonconsec_under k) in
      one_operand t n (rw k) (rw k) (subst ThroughoutOnTop is) (subst⁻¹ Unconditional is))
      (λ k. absurd (other k))
      (λ k.
      let is = at_within t n k (w.within_one k) (w.within_two k) in
      two_operands t n (rw k) (rw k) (subst ThroughoutOnTop is) (subst⁻¹ Unconditional is))

  -- The one operand of a throughout is q.
  the_operand_of_a_throughout : (k m : ℕ) → (node_at t m).kind ≡ 6 → IsOperand k (node_at t m) → (node_at t m).q ≡ k
  unfolding columns pick
  the_operand_of_a_throughout k m six (inl (u, e)) = absurd (false_is_not_true (rw six at u))
  the_operand_of_a_throughout k m six (inr (u, e)) = e

  q_is_an_operand : (k m : ℕ) → (node_at t m).kind ≡ 6 → (node_at t m).q ≡ k → IsOperand k (node_at t m)
  unfolding columns pick
  q_is_an_operand k m six e = inr (rw six, e)

  -- Operands have lower numbers.
  operands_are_lower : (k m : ℕ) → m < nodes t → IsOperand k (node_at t m) → k < m
  operands_are_lower k m inside (inl (u, e)) = subst (λ z. z < m) e (p_is_lower m (node_at t m) (each_node_is_formed t checked m inside) u)
  operands_are_lower k m inside (inr (u, e)) = subst (λ z. z < m) e (q_is_lower m (node_at t m) (each_node_is_formed t checked m inside) u)

  -- Each node but the root is an operand of one node.
  once : (k : ℕ) → k < below (nodes t) → uses t k (nodes t) ≡ 1
  once = each_node_is_used_once t checked

  -- From the table to the tree: the operand of another kind is no throughout, for it would be an operand of two nodes.
  module _ (said : OnTopInTheTable t) where
    no_throughout_under : (n : ℕ) → n < nodes t → ((node_at t n).kind ≡ 6 → ⊥) → (k : ℕ) → IsOperand k (node_at t n) → (node_at t k).kind ≡ 6 → ⊥
    no_throughout_under n inside other k o six =
        let lower = operands_are_lower k n inside o in
        let below_the_root : k < below (nodes t) = omega (arith, below_is_one_less (nodes t)) in
        let (m, l, six', e) = said k below_the_root six in
        let o' = q_is_an_operand k m six' e in
        let exactly = once k below_the_root in
        let apart : m ≡ n → ⊥ = λ same. other (subst (λ z. (node_at t z).kind ≡ 6) same six') in
        elim (dec_le m n) [
          | yes before ↦ omega (arith, an_operand_of_two_is_used_twice t k m n (nodes t) o' o (omega arith) inside)
          | no after ↦ omega (arith, an_operand_of_two_is_used_twice t k n m (nodes t) o o' (omega arith) l)
        ]

    -- No throughout stands under another kind, at any depth.
    unconditional_under : (count n : ℕ) → n < count → n < nodes t → ((node_at t n).kind ≡ 6 → ⊥) → Unconditional (tree_at t n)
    unconditional_under zero n low inside other = absurd (omega arith)
    unconditional_under (suc count) n low inside other =
        (by_its_operands n inside other).whole (λ k o.
        let lower = operands_are_lower k n inside o in
        unconditional_under count k (omega arith) (omega arith) (no_throughout_under n inside other k o))

    -- All throughouts stand on top.
    on_top_of_each : (count n : ℕ) → n < count → n < nodes t → ThroughoutOnTop (tree_at t n)
    on_top_of_each zero n low inside = absurd (omega arith)
    on_top_of_each (suc count) n low inside =
        elim (ℕ_discrete (node_at t n).kind 6) [
          | yes six ↦ (
              let lower = (formed.each n inside).throughout_under six in
              rw (at_throughout t n six lower) (on_top_of_each count (node_at t n).q (omega arith) (omega arith))
              )
          | no other ↦ unconditional_is_on_top (tree_at t n) (unconditional_under (suc count) n low inside other)
        ]

    to_the_tree : ThroughoutOnTop (root t)
    to_the_tree =
        let inside : below (nodes t) < nodes t = omega (arith, formed.some, below_is_one_less (nodes t)) in
        on_top_of_each (nodes t) (below (nodes t)) inside inside

  -- From the tree to the table.
  module _ (top : ThroughoutOnTop (root t)) where
    -- Each node below the root is an operand of some node.
    used_by : (n : ℕ) → n < below (nodes t) → (m : ℕ) × (m < nodes t) × IsOperand n (node_at t m)
    used_by n l = used_by_a_node t n (nodes t) (omega (arith, once n l))

    -- What holds of the root is handed down to every node.
    handed_down : (m n : ℕ) → m < nodes t → IsOperand n (node_at t m) → ThroughoutOnTop (tree_at t m) → ThroughoutOnTop (tree_at t n)
    handed_down m n inside o above =
        elim (ℕ_discrete (node_at t m).kind 6) [
          | yes six ↦ (
              let lower = (formed.each m inside).throughout_under six in
              subst (λ z. ThroughoutOnTop (tree_at t z)) (the_operand_of_a_throughout n m six o) (rw (at_throughout t m six lower) at above)
              )
          | no other ↦ unconditional_is_on_top (tree_at t n) ((by_its_operands m inside other).under above n o)
        ]

    handed_to_each : (count n : ℕ) → nodes t ≤ n + count → n < nodes t → ThroughoutOnTop (tree_at t n)
    handed_to_each zero n high inside = absurd (omega arith)
    handed_to_each (suc count) n high inside =
        elim (ℕ_discrete (below (nodes t)) n) [
          | yes last ↦ subst (λ z. ThroughoutOnTop (tree_at t z)) last top
          | no before ↦ (
              let (m, l, o) = used_by n (omega (arith, below_is_one_less (nodes t))) in
              let lower = operands_are_lower n m l o in
              handed_down m n l o (handed_to_each count m (omega arith) l)
              )
        ]

    -- A throughout below the root is the operand of a throughout: under another kind there is none.
    to_the_table : OnTopInTheTable t
    to_the_table n l six =
        let (m, inside, o) = used_by n l in
        elim (ℕ_discrete (node_at t m).kind 6) [
          | yes six' ↦ (m, inside, six', the_operand_of_a_throughout n m six' o)
          | no other ↦ (
              let free = (by_its_operands m inside other).under (handed_to_each (nodes t) m (omega arith) inside) n o in
              let lower = (formed.each n (omega (arith, below_is_one_less (nodes t)))).throughout_under six in
              absurd (rw (at_throughout t n six lower) at free)
              )
        ]

-- The premise of demand 3, of the tree and of the table's words.
pub the_premise_is_the_tables : (t : List ℕ) → table t ≡ table_formed → ThroughoutOnTop (root t) ↔ OnTopInTheTable t
the_premise_is_the_tables t e = (to_the_table t e, to_the_tree t e)
