-- `delays` puts one delay after the other; what is left of them is said in `Delaying`.
use Rattle.pipeline.proofs.Laws.{delaying_room, delaying_on, delaying_ends}
use borrow.Author.Rules.{rules}
use Rattle.pipeline.proofs.delays.Goals as goal

pub delay-p-requires : goal.delay-p-requires
delay-p-requires c = (search rules, search rules, search delaying_room)

pub loop-i-preserved : goal.loop-i-preserved
loop-i-preserved c = search delaying_on

pub returns : goal.returns
returns c = search delaying_ends
