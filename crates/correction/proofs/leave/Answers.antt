-- `leave` lets out the pixel of a tick and keeps it as it leaves.
use Rattle.correction.proofs.RowLaws.{leaves_as_it_came, leaves_replaced}
use Rattle.correction.proofs.leave.Goals as goal

pub returns-in_default : goal.returns-in_default
returns-in_default c = search (leaves_as_it_came, c.in_default.ensures)

pub returns : goal.returns
returns c = search (leaves_replaced, c.in-Some.ensures)
