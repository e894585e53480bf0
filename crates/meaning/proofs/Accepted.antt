-- A tree that refusals 1 to 12 let pass, with throughout only on top, is acceptable: the premises under which lowering means
-- what the standard says. From what the table, the walk and the look for misplaced Empties leave of it.
use mathlib.Core.Path.{◌≡◌}
use Prim.Native.Nat.{ℕ, zero, suc}
use Rattle.meaning.specs.Tree.{finite, unbounded, Seq, atom, delay, consec, goto, nonconsec, throughout, within}
use Rattle.meaning.specs.Alternative.{expand}
use Rattle.meaning.specs.Refusals.{nowhere, misplaced_rooted, misplaced}
use Rattle.meaning.specs.Lowerable.{Ranged, Walkable, WalkableRooted, WalkableRoot}
use Rattle.meaning.specs.Demand3.{Unconditional, ThroughoutOnTop}
use Rattle.meaning.proofs.Acceptable.{Rule7, Regular, RegularChain, AcceptableRooted, Acceptable}
use Rattle.meaning.proofs.Roots.{by_root, by_throughouts}
use Rattle.meaning.proofs.EveryAlternative.{Every}
use Rattle.meaning.proofs.Rules.{rule_7_of_throughout, rule_7_without_throughout, rules_9, none_misplaced}

-- 3, 6 and 8: the shape of the tree.

-- Without throughout: 3 was looked for in the table, 6 and 8 in the walk.
pub an_unconditional_tree_is_regular : (room : ℕ) (s : Seq) → Ranged s → Walkable room s → Unconditional s → Regular s
unfolding Ranged Walkable
an_unconditional_tree_is_regular room (atom n a) R W U = tt
an_unconditional_tree_is_regular room (delay n l r m x) R W U = (
  an_unconditional_tree_is_regular room l R.0 W.0 U.0,
  an_unconditional_tree_is_regular room r R.1 W.1 U.1,
  R.2,
)
an_unconditional_tree_is_regular room (consec n s m (finite zero)) R W U = R.1
an_unconditional_tree_is_regular room (consec n s m (finite (suc x))) R W U =
    (an_unconditional_tree_is_regular room s R.0 W.0 U, R.1)
an_unconditional_tree_is_regular room (consec n s m unbounded) R W U = W.1
an_unconditional_tree_is_regular room (goto n s k) R W U = (W.1, R.1)
an_unconditional_tree_is_regular room (nonconsec n s k) R W U = (W.1, R.1)
an_unconditional_tree_is_regular room (throughout n c s) R W U = absurd U
an_unconditional_tree_is_regular room (within n s₁ s₂) R W U = absurd W

-- Under a chain of throughouts; a within under one would have been refused by 8.
pub a_walked_chain_is_regular : (room : ℕ) (s : Seq) → Ranged s → Walkable room s → ThroughoutOnTop s → RegularChain s
unfolding Ranged Walkable
a_walked_chain_is_regular room =
    by_throughouts (λ s x. Ranged s → Walkable room s → Unconditional x → Regular x) (λ n c s x under R W. under R.1 W.0)
    (an_unconditional_tree_is_regular room)

-- 7: a throughout stands over plain alternatives, because the walk looked at what is under it; elsewhere there is no guard.
rule_7_of_a_chain : (room : ℕ) (s : Seq) → Walkable room s → RegularChain s → Every (λ y. Rule7 y.guard y.steps) (expand s)
unfolding Walkable
rule_7_of_a_chain room =
    by_throughouts (λ s x. Walkable room s → Regular x → Every (λ y. Rule7 y.guard y.steps) (expand s))
    (λ n c s x under W R. rule_7_of_throughout c s W.1 n) (λ s W R. rule_7_without_throughout s R)

-- The whole tree. Every within has plain operands, so that 12 need not be looked for there.
pub an_accepted_tree_is_acceptable : (room : ℕ) (s : Seq) → Ranged s → WalkableRoot room s → misplaced s ≡ nowhere → ThroughoutOnTop s → Acceptable s
unfolding Ranged WalkableRoot misplaced
an_accepted_tree_is_acceptable room =
    by_root (λ s v. Ranged s → WalkableRooted room v → misplaced_rooted v ≡ nowhere → ThroughoutOnTop s → AcceptableRooted v)
    (λ n x y R W e U.
    let one = an_unconditional_tree_is_regular room x R.0 W.0 U.0 in
    let two = an_unconditional_tree_is_regular room y R.1 W.1 U.1 in
    (one, two, rules_9 x one W.2.one, rules_9 y two W.2.two))
    (λ s R W e U.
    let chain = a_walked_chain_is_regular room s R W U in
    (chain, λ y m. (rule_7_of_a_chain room s W chain y m, none_misplaced 0 (expand s) e y m)))
