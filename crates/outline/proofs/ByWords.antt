-- The tree of a node of a formed table, kind by kind, from the words that the code has read.
use mathlib.Core.Path.{◌≡◌, refl, ◌∙◌}
use mathlib.Core.List.{List}
use Prim.Native.Nat.{ℕ, ◌<◌}
use Rattle.meaning.specs.declared.Node.{Node}
use Rattle.meaning.specs.Tree.{Max, finite, unbounded, atom, delay, consec, goto, nonconsec, throughout, within, node_at, unlimited, max_of, tree_at, nodes}
use Rattle.meaning.specs.Lowerable.{WellFormed, FormedTable}
use Rattle.meaning.proofs.Ranges.{finite_max, unbounded_max}
use Rattle.meaning.proofs.Nodes.{at_atom, at_delay, at_consec, at_goto, at_nonconsec, at_throughout, at_within}

module _ {t : List ℕ} {n : ℕ} {v : Node} (formed : FormedTable t) (inside : n < nodes t) (w : v ≡ node_at t n) where
  -- 1 and 3, of the words as they were read and as they stand in the table.
  pub well_formed : WellFormed n v
  well_formed = rw w (formed.each n inside)

  abbrev f : WellFormed n (node_at t n)
  f = formed.each n inside

  pub is_atom : v.kind ≡ 1 → tree_at t n ≡ atom n v.p
  is_atom k = at_atom t n (rw w at k) ∙ rw w refl

  pub is_delay : v.kind ≡ 2 → tree_at t n ≡ delay n (tree_at t v.p) (tree_at t v.q) v.min (max_of v.max)
  is_delay k = let e = rw w at k in at_delay t n e (f.delay_left e) (f.delay_right e) ∙ rw w refl

  pub is_consec : {x : Max} → v.kind ≡ 3 → max_of v.max ≡ x → tree_at t n ≡ consec n (tree_at t v.p) v.min x
  is_consec k e = let e' = rw w at k in at_consec t n e' (f.consec_under e') ∙ rw (← e, w) refl

  pub is_finite : v.kind ≡ 3 → (v.max ≡ unlimited → ⊥) → tree_at t n ≡ consec n (tree_at t v.p) v.min (finite v.max)
  is_finite k l = is_consec k (finite_max _ l)

  pub is_unbounded : v.kind ≡ 3 → v.max ≡ unlimited → tree_at t n ≡ consec n (tree_at t v.p) v.min unbounded
  is_unbounded k u = is_consec k (unbounded_max _ u)

  pub is_goto : v.kind ≡ 4 → tree_at t n ≡ goto n (tree_at t v.p) v.min
  is_goto k = let e = rw w at k in at_goto t n e (f.goto_under e) ∙ rw w refl

  pub is_nonconsec : v.kind ≡ 5 → tree_at t n ≡ nonconsec n (tree_at t v.p) v.min
  is_nonconsec k = let e = rw w at k in at_nonconsec t n e (f.nonconsec_under e) ∙ rw w refl

  pub is_throughout : v.kind ≡ 6 → tree_at t n ≡ throughout n v.p (tree_at t v.q)
  is_throughout k = let e = rw w at k in at_throughout t n e (f.throughout_under e) ∙ rw w refl

  pub is_within : v.kind ≡ 7 → tree_at t n ≡ within n (tree_at t v.p) (tree_at t v.q)
  is_within k = let e = rw w at k in at_within t n e (f.within_one e) (f.within_two e) ∙ rw w refl
