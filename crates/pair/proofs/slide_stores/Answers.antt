-- `slide_stores` writes the text once, then one register after the other.
use borrow.Author.Rules.{rules}
use Rattle.pipeline.proofs.Laws.{no_delays, fixed_text_room, fixed_store_room}
use Rattle.pair.proofs.Pairs.{slide_rest_room, slide_done}
use Rattle.pair.proofs.slide_stores.Goals as goal

pub returns-then-d-eq0 : goal.returns-then-d-eq0
returns-then-d-eq0 c = search no_delays

pub text-a-requires : goal.text-a-requires
text-a-requires c = (search rules, search fixed_text_room)

pub put-b-requires : goal.put-b-requires
put-b-requires c = search fixed_store_room

pub delays-requires : goal.delays-requires
delays-requires c = (search rules, search rules, search slide_rest_room)

pub returns : goal.returns
returns c = search slide_done
