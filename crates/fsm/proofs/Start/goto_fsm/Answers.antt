-- `goto_fsm` puts the first register's store, the second one's and then the others'; what is left of them is said in `Staging`.
use borrow.Author.Rules.{rules}
use Rattle.fsm.proofs.Laws.{later_room, staging_on, goto_done}
use Rattle.fsm.proofs.Start.goto_fsm.Goals as goal

pub goto_later-p-requires : goal.goto_later-p-requires
goto_later-p-requires c = (search rules, search later_room)

pub loop-i-preserved : goal.loop-i-preserved
loop-i-preserved c = search staging_on

pub returns : goal.returns
returns c = search goto_done
