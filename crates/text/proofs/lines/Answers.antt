-- The loop writes a line for each store and for the match.
use Rattle.text.proofs.ListingLines.{lining_begins, lining_on, lining_ends}
use Rattle.text.proofs.lines.Goals as goal

pub loop-end-init : goal.loop-end-init
loop-end-init c = search lining_begins

pub loop-end-preserved : goal.loop-end-preserved
loop-end-preserved c = search (lining_on, c.in-Some.ensures, c.line-next.ensures)

pub returns : goal.returns
returns c = search (lining_ends, c.in_default.ensures)
