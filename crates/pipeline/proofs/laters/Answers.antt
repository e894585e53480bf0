-- `laters` puts the stores of step after step; what is left of them is said in `Storing`.
use Rattle.pipeline.proofs.Laws.{first_high, storing_begins, storing_high, storing_ready, storing_room, storing_on, storing_ends}
use borrow.Author.Rules.{rules}
use Rattle.pipeline.proofs.laters.Goals as goal

pub register_after-r-requires : goal.register_after-r-requires
register_after-r-requires c = (search rules, search first_high)

pub loop-k-init : goal.loop-k-init
loop-k-init c = search storing_begins

pub later-p-requires : goal.later-p-requires
later-p-requires c = (search storing_ready, search rules, search storing_room)

pub register_after-r-requires-in-loop-k : goal.register_after-r-requires-in-loop-k
register_after-r-requires-in-loop-k c = (search rules, search storing_high)

pub loop-k-preserved : goal.loop-k-preserved
loop-k-preserved c = search storing_on

pub returns : goal.returns
returns c = search storing_ends
