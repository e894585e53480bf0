-- The loop looks at the rows one after another, each below the lowest end so far.
use native.Mathlib.Omega.{arith}
use Rattle.joined_runs.proofs.Lowering.{lowering_on, lowering_ends}
use Rattle.joined_runs.proofs.earliest.Goals as goal

pub loop-k-preserved : goal.loop-k-preserved
loop-k-preserved c = search lowering_on

pub returns-then-end-k : goal.returns-then-end-k
returns-then-end-k c = search lowering_ends

pub returns-after-loop-k : goal.returns-after-loop-k
returns-after-loop-k c = lowering_ends c.loop-k.invariant (omega (arith, c.loop-k.invariant.lowest.inside))
