-- `empties_fit` looks at hop after hop up to one that does not fit; what is left of them is said in `Fitting`.
use Rattle.pipeline.proofs.Fit.{Fitting}
use Rattle.pipeline.proofs.empties_fit.Given as goal

abbrev pub invariant-loop-k : goal.invariant-loop-k
invariant-loop-k l = Fitting l.y.work.now l.y.kept l.before l.k
