-- A word more is counted, with the height after it.
use Rattle.listing.proofs.Laws.{deepening_on}
use Rattle.listing.proofs.deepest.Goals as goal

pub loop-w-preserved : goal.loop-w-preserved
loop-w-preserved c = search deepening_on
