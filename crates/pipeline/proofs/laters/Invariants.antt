-- `laters` puts the stores of step after step; what is left of them is said in `Storing`.
use Rattle.pipeline.proofs.Laws.{Storing}
use Rattle.pipeline.proofs.laters.Given as goal

abbrev pub invariant-loop-k : goal.invariant-loop-k
invariant-loop-k l = Storing l.y.work.now l.y.kept l.initial.out l.at l.out l.p l.k l.r
