-- `delays` puts one delay after the other; what is left of them is said in `Delaying`.
use Rattle.pipeline.proofs.Laws.{Delaying}
use Rattle.pipeline.proofs.delays.Given as goal

abbrev pub invariant-loop-i : goal.invariant-loop-i
invariant-loop-i l = Delaying l.guard l.initial.out l.at l.r l.d l.out l.p l.i
