-- `registers` adds the registers of step after step; what is left of them is said in `Summing`.
use Rattle.pipeline.proofs.Fit.{Summing}
use Rattle.pipeline.proofs.registers.Given as goal

abbrev pub invariant-loop-k : goal.invariant-loop-k
invariant-loop-k l = Summing l.y.work.now l.y.kept l.sum l.k
