-- `empties_fit` looks at hop after hop up to one that does not fit; what is left of them is said in `Fitting`.
use Rattle.pipeline.proofs.Fit.{fitting_on, fitting_fails, fitting_ends}
use Rattle.pipeline.proofs.empties_fit.Goals as goal

pub returns-then-not-hop_fits : goal.returns-then-not-hop_fits
returns-then-not-hop_fits c = search fitting_fails

pub loop-k-preserved : goal.loop-k-preserved
loop-k-preserved c = search fitting_on

pub returns : goal.returns
returns c = search fitting_ends
