-- `find_block` walks the blocks from the front and leaves each that ends before the number.
use Rattle.expand.proofs.Arithmetic.{finding_on}
use Rattle.expand.proofs.find_block.Goals as goal

pub loop-later-preserved : goal.loop-later-preserved
loop-later-preserved c = search finding_on
