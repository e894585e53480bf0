-- `current` goes back over the steps that keep their text, and forth again; where it stands is said in `Back`.
use Rattle.current.proofs.Walk.{Back}
use Rattle.current.proofs.current.Given as goal

abbrev pub invariant-loop-y : goal.invariant-loop-y
invariant-loop-y l = Back l.y.work.now l.y.kept l.initial.out l.at l.j l.r l.out l.p l.k l.register

abbrev pub decreases-loop-y : goal.decreases-loop-y
decreases-loop-y l = l.k
