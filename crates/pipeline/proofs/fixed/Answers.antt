-- `fixed` puts the text before, its store and the other delays.
use Rattle.pipeline.proofs.Laws.{no_delays, fixed_text_room, fixed_store_room, fixed_rest_room, fixed_done}
use borrow.Author.Rules.{rules}
use Rattle.pipeline.proofs.fixed.Goals as goal

pub returns-then-d-eq0 : goal.returns-then-d-eq0
returns-then-d-eq0 c = search no_delays

pub before-p-requires : goal.before-p-requires
before-p-requires c = (search rules, search rules, search fixed_text_room)

pub put-next-requires : goal.put-next-requires
put-next-requires c = search fixed_store_room

pub delays-requires : goal.delays-requires
delays-requires c = (search rules, search rules, search fixed_rest_room)

pub returns : goal.returns
returns c = search fixed_done
