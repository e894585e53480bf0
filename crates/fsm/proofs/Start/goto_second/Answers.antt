-- `goto_second` puts the store of the second register around the activation.
use Rattle.fsm.proofs.Laws.{second_done}
use Rattle.fsm.proofs.Start.goto_second.Goals as goal

pub returns : goal.returns
returns c = search second_done
