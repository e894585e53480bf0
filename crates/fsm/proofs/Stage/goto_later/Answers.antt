-- `goto_later` puts what the stage goes on from, then its end.
use Rattle.fsm.proofs.Laws.{later_done}
use Rattle.fsm.proofs.Stage.goto_later.Goals as goal

pub returns : goal.returns
returns c = search later_done
