-- `guard_words` closes what `guard_text` wrote, if anything; where the outline has no guard, there is nothing.
use Rattle.expand.proofs.Numbers.{node_inside}
use Rattle.guards.proofs.Laws.{nothing_closed, text_room, none_to_close, close_room, guard_closed}
use borrow.Author.Rules.{rules}
use Rattle.guards.proofs.guard_words.Goals as goal

pub flag_of-requires : goal.flag_of-requires
flag_of-requires c = search node_inside

pub returns-then-flag_of-eq0 : goal.returns-then-flag_of-eq0
returns-then-flag_of-eq0 c = search nothing_closed

pub guard_text-end-requires : goal.guard_text-end-requires
guard_text-end-requires c = (search rules, search text_room)

pub returns-then-at-end : goal.returns-then-at-end
returns-then-at-end c = search none_to_close

pub put_operation-requires : goal.put_operation-requires
put_operation-requires c = (search close_room, search rules, search rules)

pub returns : goal.returns
returns c = search guard_closed
