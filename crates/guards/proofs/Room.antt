-- A guard closed by its `and` has three words for each of its atoms, so that it finds room beside the steps: the specification gives 16 words
-- for each entry, and guard atoms are entries.
use mathlib.Core.Path.{◌≡◌}
use mathlib.Core.List.{List, [], ◌∷◌, ◌++◌}
use Prim.Native.Nat.{ℕ, ◌+◌, ◌*◌, ◌≤◌}
use native.Mathlib.Omega.{arith}
use lib.ListN.{length, length-append}
use Rattle.meaning.specs.Tree.{Seq, tree_at}
use Rattle.meaning.specs.Expression.{any, a·}
use Rattle.meaning.specs.Listing.{word, expression_words}
use Rattle.meaning.specs.Alternative.{Guard, unguarded, guard, and_opt, SeqAlt, expand}
use Rattle.meaning.specs.Refusals.{guard_atoms}
use Rattle.meaning.proofs.Counting.{guard_atoms_and}
use Rattle.expand.specs.ByNumber.{alternatives_of, nth, Numbered}
use Rattle.expand.proofs.Every.{Inherited, each_expanded, each_nth}
use Rattle.expand.proofs.Room.{size_within_room}
use Rattle.term.specs.Guards.{guard_words}
use Rattle.guards.specs.GuardText.{closed_guard}

-- Two guards joined have one `and` more between them, and one closing `and` less.
length_of_two : (g h : Guard) → length (guard_words (and_opt g h)) ≡ length (guard_words g) + length (guard_words h)
length_of_two unguarded h = omega arith
length_of_two (guard x) unguarded = omega arith
length_of_two (guard x) (guard y) =
    let X = expression_words x in
    let Y = expression_words y in
    let e : List ℕ = word 7 0 ∷ [] in
    omega (arith, length-append (X ++ (Y ++ e)) e, length-append X (Y ++ e), length-append Y e, length-append X e)

-- Three words an atom.
abbrev pub Tripled : SeqAlt → Type 0
Tripled y = length (guard_words y.guard) ≡ 3 * guard_atoms y.guard

tripled : Inherited Tripled
tripled = record {
  of_single = λ x. omega arith;
  of_joined = λ h l r p q. omega (arith, length_of_two l.guard r.guard, guard_atoms_and l.guard r.guard);
  of_guarded = λ c y p.
      omega (arith, length_of_two y.guard (guard (any (a· c))), guard_atoms_and y.guard (guard (any (a· c))));
}

pub length_of_guard : (s : Seq) (i : ℕ) → length (closed_guard (expand s) i) ≡ 3 * guard_atoms (nth (expand s) i).guard
unfolding closed_guard
length_of_guard s i = each_nth tripled (expand s) i (each_expanded tripled s)

-- The guard lies in the second half of 16 words an entry.
pub guard_within_room : (t : List ℕ) (n i : ℕ) (N : Numbered t n i)
    → length (closed_guard (alternatives_of t n) i) ≤ 3 * N.node.room
unfolding alternatives_of
guard_within_room t n i N = omega (arith, length_of_guard (tree_at t n) i, size_within_room t n i N)
