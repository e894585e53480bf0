-- A law of every root from two cases, a within and a tree of another kind; and a law of what stands under the throughouts on top from two
-- cases, one more throughout and none. And which trees are no within: those that the walk counts below the root, and those of a node of
-- another kind than 7.
use mathlib.Core.Path.{◌≡◌, refl}
use mathlib.Core.List.{List}
use Prim.Native.Nat.{ℕ}
use borrow.Author.Tests.{ne_eqb}
use Rattle.words.specs.Choice.{pick_case, pick_false}
use Rattle.meaning.specs.Tree.{Seq, atom, delay, consec, goto, nonconsec, throughout, within, Rooted, a_within, another, rooted, node_at, tree_at}
use Rattle.meaning.specs.Lowerable.{Walkable}
use Rattle.meaning.specs.Demand3.{under_throughouts}

-- P may speak of the tree and of what it is as a root.
pub by_root : (P : Seq → Rooted → Type 0) → ((n : ℕ) (x y : Seq) → P (within n x y) (a_within n x y)) → ((s : Seq) → P s (another s))
    → (s : Seq) → P s (rooted s)
by_root P of-within of-another (within n x y) = of-within n x y
by_root P of-within of-another (atom n a) = of-another (atom n a)
by_root P of-within of-another (delay n l r m x) = of-another (delay n l r m x)
by_root P of-within of-another (consec n s m x) = of-another (consec n s m x)
by_root P of-within of-another (goto n s k) = of-another (goto n s k)
by_root P of-within of-another (nonconsec n s k) = of-another (nonconsec n s k)
by_root P of-within of-another (throughout n c s) = of-another (throughout n c s)

-- P may speak of the tree and of what stands under its throughouts.
pub by_throughouts : (P : Seq → Seq → Type 0) → ((n c : ℕ) (s x : Seq) → P s x → P (throughout n c s) x) → ((s : Seq) → P s s)
    → (s : Seq) → P s (under_throughouts s)
by_throughouts P one_more none (throughout n c s) = one_more n c s (under_throughouts s) (by_throughouts P one_more none s)
by_throughouts P one_more none (atom n a) = none (atom n a)
by_throughouts P one_more none (delay n l r m x) = none (delay n l r m x)
by_throughouts P one_more none (consec n s m x) = none (consec n s m x)
by_throughouts P one_more none (goto n s k) = none (goto n s k)
by_throughouts P one_more none (nonconsec n s k) = none (nonconsec n s k)
by_throughouts P one_more none (within n x y) = none (within n x y)

-- 8: what the walk counts below the root is no within.
pub a_walkable_tree_is_another : (room : ℕ) (s : Seq) → Walkable room s → rooted s ≡ another s
unfolding Walkable
a_walkable_tree_is_another room = by_root (λ s v. Walkable room s → v ≡ another s) (λ n x y W. absurd W) (λ s W. refl)

-- A node's tree is a within by its kind alone.
pub a_node_of_another_kind : (t : List ℕ) (n : ℕ) → ((node_at t n).kind ≡ 7 → ⊥) → rooted (tree_at t n) ≡ another (tree_at t n)
unfolding tree_at
a_node_of_another_kind t n other =
    pick_case IsAnother _ (λ _. refl) (λ _. pick_case IsAnother _ (λ _. refl) (λ _. pick_case IsAnother _ (λ _. refl)
    (λ _. pick_case IsAnother _ (λ _. refl) (λ _. pick_case IsAnother _ (λ _. refl) (λ _. rw (pick_false _ _ (ne_eqb _ _ other)) refl)))))
  where
    IsAnother : Seq → Type 0
    IsAnother s = rooted s ≡ another s
