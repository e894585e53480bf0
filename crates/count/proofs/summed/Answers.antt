-- The loop has summed up i lists of copies.
use Rattle.count.proofs.Leaves.{summing_begins, summing_on, summing_ends}
use Rattle.count.proofs.summed.Goals as goal

pub loop-i-init : goal.loop-i-init
loop-i-init c = search summing_begins

pub loop-i-preserved : goal.loop-i-preserved
loop-i-preserved c = search summing_on

pub returns : goal.returns
returns c = search summing_ends
