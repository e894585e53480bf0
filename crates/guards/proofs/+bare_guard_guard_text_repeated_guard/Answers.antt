-- `guard_text`, `bare_guard` and `repeated_guard` write the words of the numbered alternative's guard, by the node number; those of
-- copies are joined one after the other.
use Rattle.expand.proofs.Numbers.{node_inside, bare_below, bare_numbered, delay_counts, left_below, right_below, left_numbered, right_numbered, guarded_below, guarded_numbered, copied, copies_counts, block_below, block_numbered, copy_below, copy_inside, copy_some, copy_few, copy_numbered}
use Rattle.guards.proofs.Laws.{unguarded_text, bare_guard_room, bare_guarded, left_room, right_room, delay_join_room, delay_guarded, condition_small, under_room, condition_room, throughout_join_room, throughout_guarded, block_room, block_guarded, single_unguarded, joining_begins, copy_room, copy_join_room, joining_on, joining_ends}
use Rattle.guards.proofs.+bare_guard_guard_text_repeated_guard.Goals as goal

pub bare_guard-delay_parts-s-requires : goal.bare_guard-delay_parts-s-requires
bare_guard-delay_parts-s-requires t c = search delay_counts

pub bare_guard-guard_text-middle-requires : goal.bare_guard-guard_text-middle-requires
bare_guard-guard_text-middle-requires t c = (search left_below, (search left_numbered, search left_room))

pub bare_guard-guard_text-end-requires : goal.bare_guard-guard_text-end-requires
bare_guard-guard_text-end-requires t c = (search right_below, (search right_numbered, search right_room))

pub bare_guard-join_guards-requires : goal.bare_guard-join_guards-requires
bare_guard-join_guards-requires t c = search delay_join_room

pub bare_guard-returns-in-2 : goal.bare_guard-returns-in-2
bare_guard-returns-in-2 t c = search delay_guarded

pub bare_guard-guard_text-middle-requires-in-6 : goal.bare_guard-guard_text-middle-requires-in-6
bare_guard-guard_text-middle-requires-in-6 t c = (search guarded_below, (search guarded_numbered, search under_room))

pub bare_guard-put_condition-end-requires : goal.bare_guard-put_condition-end-requires
bare_guard-put_condition-end-requires t c = (search condition_room, search condition_small)

pub bare_guard-join_guards-requires-in-6 : goal.bare_guard-join_guards-requires-in-6
bare_guard-join_guards-requires-in-6 t c = search throughout_join_room

pub bare_guard-returns-in-6 : goal.bare_guard-returns-in-6
bare_guard-returns-in-6 t c = search throughout_guarded

pub bare_guard-copies_block-s-requires : goal.bare_guard-copies_block-s-requires
bare_guard-copies_block-s-requires t c = search (copies_counts, copied)

pub bare_guard-repeated_guard-requires : goal.bare_guard-repeated_guard-requires
bare_guard-repeated_guard-requires t c = (search (block_below, copied), (search (block_numbered, copied), search (block_room, copied)))

pub bare_guard-returns-in_default : goal.bare_guard-returns-in_default
bare_guard-returns-in_default t c = search (block_guarded, copied)

pub bare_guard-returns-in_default-2 : goal.bare_guard-returns-in_default-2
bare_guard-returns-in_default-2 t c = search single_unguarded

pub guard_text-flag_of-requires : goal.guard_text-flag_of-requires
guard_text-flag_of-requires t c = search node_inside

pub guard_text-returns-then-flag_of-eq0 : goal.guard_text-returns-then-flag_of-eq0
guard_text-returns-then-flag_of-eq0 t c = search unguarded_text

pub guard_text-bare_of-requires : goal.guard_text-bare_of-requires
guard_text-bare_of-requires t c = search node_inside

pub guard_text-bare_guard-requires : goal.guard_text-bare_guard-requires
guard_text-bare_guard-requires t c = (search bare_below, (search bare_numbered, search bare_guard_room))

pub guard_text-returns : goal.guard_text-returns
guard_text-returns t c = search bare_guarded

pub repeated_guard-loop-later-init : goal.repeated_guard-loop-later-init
repeated_guard-loop-later-init t c = search joining_begins

pub repeated_guard-copy_number-number-requires : goal.repeated_guard-copy_number-number-requires
repeated_guard-copy_number-number-requires t c = (search copy_inside, search copy_some, search copy_few)

pub repeated_guard-guard_text-end-requires : goal.repeated_guard-guard_text-end-requires
repeated_guard-guard_text-end-requires t c = (search copy_below, (search copy_numbered, search copy_room))

pub repeated_guard-join_guards-middle-requires : goal.repeated_guard-join_guards-middle-requires
repeated_guard-join_guards-middle-requires t c = search copy_join_room

pub repeated_guard-loop-later-preserved : goal.repeated_guard-loop-later-preserved
repeated_guard-loop-later-preserved t c = search joining_on

pub repeated_guard-returns-2 : goal.repeated_guard-returns-2
repeated_guard-returns-2 t c = search joining_ends
