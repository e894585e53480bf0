-- The list that counts all nodes' uses in one pass holds for each node what the specification's count of its uses comes to, up to 2: so
-- that it is 1 where the node is used once.
use mathlib.Core.Path.{◌≡◌, refl, sym, ◌∙◌}
use mathlib.Core.Bool.{Bool, true, false}
use mathlib.Core.List.{List}
use Prim.Native.Nat.{ℕ, zero, suc, ◌+◌, ◌<◌}
use native.Mathlib.Omega.{arith}
use native.Mathlib.Decide.{ℕ_discrete}
use lib.Dec.{eqb, leb}
use lib.ListN.{length, get_or, set, length-set}
use lib.Seq.{get_or-set_same, get_or-set_other}
use borrow.Author.Tests.{eq-eqb, ne_eqb}
use Rattle.words.specs.Choice.{pick, pick_case, pick_yes, pick_no}
use Rattle.meaning.specs.Tree.{node_at}
use Rattle.meaning.specs.Refusals.{uses_p, uses_q, uses_in, uses}
use Rattle.meaning.specs.declared.Node.{Node}
use Rattle.tree.specs.Uses.{use_if, use_operands, used_by, OperandsWithin, AllOperandsWithin}

-- The list keeps its length.
pub length-use_if : (used : List ℕ) (operand : Bool) (k : ℕ) → length (use_if used operand k) ≡ length used
unfolding use_if
length-use_if used operand k =
    pick_case (λ (l : List ℕ). length l ≡ length used) operand
    (λ e. pick_case (λ (l : List ℕ). length l ≡ length used) (leb 2 (get_or used k 0)) (λ e. refl) (λ e. length-set used k (get_or used k 0 + 1)))
    (λ e. refl)

-- A number, or 2 where it is above 1.
abbrev up_to_2 : ℕ → ℕ
up_to_2 zero = 0
up_to_2 (suc zero) = 1
up_to_2 (suc (suc n)) = 2

-- One use more, counted up to 2.
one_more : (u : ℕ) → pick (leb 2 (up_to_2 u)) (up_to_2 u) (up_to_2 u + 1) ≡ up_to_2 (suc u)
unfolding pick
one_more zero = refl
one_more (suc zero) = refl
one_more (suc (suc u)) = refl

-- A number counted up to 2 is 1 where the number is.
once_up_to_2 : (u : ℕ) → eqb (up_to_2 u) 1 ≡ eqb u 1
once_up_to_2 zero = refl
once_up_to_2 (suc zero) = refl
once_up_to_2 (suc (suc u)) = sym (ne_eqb (suc (suc u)) 1 (λ e. omega arith))

-- What one use does to the count of node k: one more if it is the node used, else nothing.
this_node_used : (used : List ℕ) (k u : ℕ) → k < length used → get_or used k 0 ≡ up_to_2 u
    → get_or (pick (leb 2 (get_or used k 0)) used (set used k (get_or used k 0 + 1))) k 0 ≡ up_to_2 (suc u)
this_node_used used k u within is =
    pick_case (λ (l : List ℕ). get_or l k 0 ≡ pick (leb 2 (get_or used k 0)) (get_or used k 0) (get_or used k 0 + 1)) (leb 2 (get_or used k 0))
    (λ e. pick_yes _ e refl) (λ e. pick_no _ e (get_or-set_same used k _ 0 within))
    ∙ rw is (one_more u)

other_node_used : (used : List ℕ) (j k : ℕ) → (k ≡ j → ⊥) → get_or (pick (leb 2 (get_or used j 0)) used (set used j (get_or used j 0 + 1))) k 0 ≡ get_or used k 0
other_node_used used j k other =
    pick_case (λ (l : List ℕ). get_or l k 0 ≡ get_or used k 0) (leb 2 (get_or used j 0)) (λ e. refl) (λ e. get_or-set_other used j k _ 0 other)

-- Each use adds what the specification's count adds.
use_if_counts : (used : List ℕ) (operand : Bool) (j k u : ℕ) → (operand ≡ true → j < length used) → get_or used k 0 ≡ up_to_2 u
    → get_or (use_if used operand j) k 0 ≡ up_to_2 (u + pick operand (pick (eqb j k) 1 0) 0)
unfolding use_if pick
use_if_counts used false j k u within is = let e : u + 0 ≡ u = omega arith in rw e is
use_if_counts used true j k u within is = by (ℕ_discrete j k)
  where
    by : Dec (j ≡ k) → get_or (use_if used true j) k 0 ≡ up_to_2 (u + pick (eqb j k) 1 0)
    by (yes same) = let n : u + 1 ≡ suc u = omega arith in rw (← same, eq-eqb j j refl, n) (this_node_used used j u (within refl) (rw same is))
    by (no other) = let n : u + 0 ≡ u = omega arith in rw (ne_eqb j k other, n) (other_node_used used j k (λ e. other (sym e)) ∙ is)

-- Each node adds the uses of its two operands.
use_operands_counts : (used : List ℕ) (v : Node) (k u : ℕ) → OperandsWithin (length used) v → get_or used k 0 ≡ up_to_2 u
    → get_or (use_operands used v) k 0 ≡ up_to_2 (u + uses_in k v)
unfolding use_operands uses_in
use_operands_counts used v k u within is =
    let left = use_if_counts used (uses_p v) v.p k u within.left is in
    let same = length-use_if used (uses_p v) v.p in
    let sum : u + uses_in k v ≡ u + pick (uses_p v) (pick (eqb v.p k) 1 0) 0 + pick (uses_q v) (pick (eqb v.q k) 1 0) 0 = omega arith in
    rw sum (use_if_counts (use_if used (uses_p v) v.p) (uses_q v) v.q k _ (λ e. rw same (within.right e)) left)

length-use_operands : (used : List ℕ) (v : Node) → length (use_operands used v) ≡ length used
unfolding use_operands
length-use_operands used v = length-use_if (use_if used (uses_p v) v.p) (uses_q v) v.q ∙ length-use_if used (uses_p v) v.p

pub length-used_by : (t : List ℕ) (count : ℕ) (used : List ℕ) → length (used_by t count used) ≡ length used
unfolding used_by
length-used_by t zero used = refl
length-used_by t (suc count) used = length-use_operands (used_by t count used) (node_at t count) ∙ length-used_by t count used

-- The list holds each node's uses, up to 2, where it began with none.
used_by_counts : (t : List ℕ) (used : List ℕ) (k count : ℕ) → ((n : ℕ) → n < count → OperandsWithin (length used) (node_at t n)) → get_or used k 0 ≡ 0
    → get_or (used_by t count used) k 0 ≡ up_to_2 (uses t k count)
unfolding used_by uses
used_by_counts t used k zero within none = none
used_by_counts t used k (suc count) within none =
    use_operands_counts (used_by t count used) (node_at t count) k (uses t k count) (rw (length-used_by t count used) (within count (omega arith)))
    (used_by_counts t used k count (λ n l. within n (omega arith)) none)

-- 2 can be decided from the list of uses.
pub once_counted : (t : List ℕ) (used : List ℕ) (k count : ℕ) → AllOperandsWithin (length used) t count → get_or used k 0 ≡ 0
    → eqb (get_or (used_by t count used) k 0) 1 ≡ eqb (uses t k count) 1
once_counted t used k count within none = rw (used_by_counts t used k count within.each none) (once_up_to_2 (uses t k count))
