-- The loop has made i copies more than the base.
use Rattle.count.proofs.Leaves.{copying_begins, copying_on, copying_ends}
use Rattle.count.proofs.copied.Goals as goal

pub loop-i-init : goal.loop-i-init
loop-i-init c = search copying_begins

pub loop-i-preserved : goal.loop-i-preserved
loop-i-preserved c = search copying_on

pub returns : goal.returns
returns c = search copying_ends
