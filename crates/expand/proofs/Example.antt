-- The example of src/lib.rt: `a[*1:2] ##[3:4] b` has four alternatives, and number 3 is a, a after 1, b after 4.
use mathlib.Core.Path.{◌≡◌, refl}
use mathlib.Core.List.{[], ◌∷◌}
use lib.ListN.{length}
use Rattle.meaning.specs.declared.SeqTerm.TheVariants.{Bool as BoolTerm}
use Rattle.meaning.specs.declared.SeqHop.TheVariants.{Fixed}
use Rattle.meaning.specs.Tree.{finite, Seq, atom, delay, consec}
use Rattle.meaning.specs.Alternative.{step, rehop, expand}
use Rattle.expand.specs.ByNumber.{nth}

abbrev twice_then : Seq
twice_then = delay 3 (consec 1 (atom 0 0) 1 (finite 2)) (atom 2 1) 3 (finite 4)

pub four_alternatives : length (expand twice_then) ≡ 4
four_alternatives = refl

pub the_last_of_them : rehop (Fixed 0) (nth (expand twice_then) 3).steps
    ≡ step (BoolTerm 0) (Fixed 0) ∷ step (BoolTerm 0) (Fixed 1) ∷ step (BoolTerm 1) (Fixed 4) ∷ []
unfolding nth
the_last_of_them = refl
