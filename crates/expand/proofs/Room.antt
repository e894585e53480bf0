-- The steps of an alternative, five words each, find room in work: the specification gives 16 words for each entry, and an alternative has no
-- more steps and guard atoms than its node has entries.
use mathlib.Core.Path.{◌≡◌}
use mathlib.Core.List.{List, [], ◌∷◌}
use Prim.Native.Nat.{ℕ, zero, suc, ◌*◌, ◌<◌, ◌≤◌}
use native.Mathlib.Omega.{arith}
use lib.ListN.{length}
use Rattle.term.proofs.Round.{length_of_steps}
use Rattle.meaning.specs.declared.SeqHop.{SeqHop}
use Rattle.meaning.specs.Tree.{tree_at}
use Rattle.meaning.specs.Alternative.{SeqAlt, rehop}
use Rattle.meaning.specs.Refusals.{entries}
use Rattle.meaning.proofs.Counting.{size, length-rehop}
use Rattle.meaning.proofs.Walks.{a_walkable_tree_is_bounded}
use Rattle.expand.specs.ByNumber.{alternatives_of, nth, alternative_words, Numbered}

pub size_within_entries : (alts : List SeqAlt) (i : ℕ) → i < length alts → size (nth alts i) ≤ entries alts
unfolding nth
size_within_entries [] i h = absurd (omega arith)
size_within_entries (y ∷ ys) zero h = omega arith
size_within_entries (y ∷ ys) (suc i) h = omega (arith, size_within_entries ys i (omega arith))

pub length_of_alternative : (h : SeqHop) (alts : List SeqAlt) (i : ℕ)
    → length (alternative_words h alts i) ≡ 5 * length (nth alts i).steps
unfolding alternative_words
length_of_alternative h alts i = omega (arith, length_of_steps (rehop h (nth alts i).steps), length-rehop h (nth alts i).steps)

module _ (t : List ℕ) (n i : ℕ) (N : Numbered t n i) where
  -- The walk counted the node's entries against this room.
  pub size_within_room : size (nth (alternatives_of t n) i) ≤ N.node.room
  unfolding alternatives_of
  size_within_room =
      omega (arith, size_within_entries (alternatives_of t n) i N.index, (a_walkable_tree_is_bounded N.node.room (tree_at t n) N.node.walkable).fits)

  -- The steps lie in the first half of 16 words an entry.
  pub steps_within_room : (h : SeqHop) → length (alternative_words h (alternatives_of t n) i) ≤ 5 * N.node.room
  steps_within_room h = omega (arith, length_of_alternative h (alternatives_of t n) i, size_within_room)
