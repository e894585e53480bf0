-- The example of src/lib.rt: the guard of `(c throughout (d throughout a))[*2]`, with c = 2 and d = 3, is
-- a3 any a2 any and a3 any a2 any and and, closed by one more and.
use mathlib.Core.Path.{◌≡◌, refl}
use mathlib.Core.List.{[], ◌∷◌}
use Rattle.meaning.specs.Tree.{finite, Seq, atom, consec, throughout}
use Rattle.meaning.specs.Alternative.{expand}
use Rattle.meaning.specs.Listing.{word}
use Rattle.expand.specs.ByNumber.{nth}
use Rattle.guards.specs.GuardText.{closed_guard}

abbrev twice_guarded : Seq
twice_guarded = consec 3 (throughout 2 2 (throughout 1 3 (atom 0 0))) 2 (finite 2)

pub an_and_tree : closed_guard (expand twice_guarded) 0
    ≡ word 1 3 ∷ word 5 0 ∷ word 1 2 ∷ word 5 0 ∷ word 7 0 ∷ word 1 3 ∷ word 5 0 ∷ word 1 2 ∷ word 5 0 ∷ word 7 0 ∷ word 7 0 ∷ word 7 0 ∷ []
unfolding closed_guard nth
an_and_tree = refl
