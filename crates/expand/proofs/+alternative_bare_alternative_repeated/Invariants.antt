-- `alternative`, `bare_alternative` and `repeated` write the words of the numbered alternative, by the node number; copies are
-- written one after the other.
use Prim.Native.Nat.{◌+◌, ◌*◌}
use Rattle.expand.proofs.Written.{Repeating}
use Rattle.expand.proofs.+alternative_bare_alternative_repeated.Given as goal

abbrev pub decreases-repeated : goal.decreases-repeated
decreases-repeated l = l.n * 3 + 2

abbrev pub decreases-bare_alternative : goal.decreases-bare_alternative
decreases-bare_alternative l = l.n * 3

abbrev pub decreases-alternative : goal.decreases-alternative
decreases-alternative l = l.n * 3 + 1

abbrev pub invariant-repeated-loop-later : goal.invariant-repeated-loop-later
invariant-repeated-loop-later l =
    Repeating l.t l.n l.k l.i l.initial.hop l.initial.work l.at l.work l.hop l.place l.later
