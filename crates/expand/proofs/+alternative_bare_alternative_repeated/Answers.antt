-- `alternative`, `bare_alternative` and `repeated` write the words of the numbered alternative, by the node number; copies are
-- written one after the other.
use Rattle.expand.proofs.Numbers.{bare_below, bare_numbered, delay_counts, left_below, right_below, left_numbered, right_numbered, guarded_below, guarded_numbered, copied, copies_counts, block_below, block_numbered, copy_below, copy_inside, copy_some, copy_few, copy_numbered}
use Rattle.expand.proofs.Written.{bare_room, bare_written, atom_room, atom_written, left_room, right_room, delay_written, guarded_room, throughout_written, block_room, block_written, single_room, single_written, repeating_begins, copy_room, repeating_on, repeating_ends}
use Rattle.expand.proofs.+alternative_bare_alternative_repeated.Goals as goal

pub alternative-bare_alternative-requires : goal.alternative-bare_alternative-requires
alternative-bare_alternative-requires t c = (search bare_below, (search bare_numbered, search bare_room))

pub alternative-returns : goal.alternative-returns
alternative-returns t c = search bare_written

pub bare_alternative-store-requires : goal.bare_alternative-store-requires
bare_alternative-store-requires t c = search atom_room

pub bare_alternative-returns-in-1 : goal.bare_alternative-returns-in-1
bare_alternative-returns-in-1 t c = search atom_written

pub bare_alternative-delay_parts-s-requires : goal.bare_alternative-delay_parts-s-requires
bare_alternative-delay_parts-s-requires t c = search delay_counts

pub bare_alternative-alternative-middle-requires : goal.bare_alternative-alternative-middle-requires
bare_alternative-alternative-middle-requires t c = (search left_below, (search left_numbered, search left_room))

pub bare_alternative-alternative-requires : goal.bare_alternative-alternative-requires
bare_alternative-alternative-requires t c = (search right_below, (search right_numbered, search right_room))

pub bare_alternative-returns-in-2 : goal.bare_alternative-returns-in-2
bare_alternative-returns-in-2 t c = search delay_written

pub bare_alternative-alternative-requires-in-6 : goal.bare_alternative-alternative-requires-in-6
bare_alternative-alternative-requires-in-6 t c = (search guarded_below, (search guarded_numbered, search guarded_room))

pub bare_alternative-returns-in-6 : goal.bare_alternative-returns-in-6
bare_alternative-returns-in-6 t c = search throughout_written

pub bare_alternative-copies_block-s-requires : goal.bare_alternative-copies_block-s-requires
bare_alternative-copies_block-s-requires t c = search (copies_counts, copied)

pub bare_alternative-repeated-requires : goal.bare_alternative-repeated-requires
bare_alternative-repeated-requires t c = (search (block_below, copied), (search (block_numbered, copied), search (block_room, copied)))

pub bare_alternative-returns-in_default : goal.bare_alternative-returns-in_default
bare_alternative-returns-in_default t c = search (block_written, copied)

pub bare_alternative-store-requires-in_default-2 : goal.bare_alternative-store-requires-in_default-2
bare_alternative-store-requires-in_default-2 t c = search single_room

pub bare_alternative-returns-in_default-2 : goal.bare_alternative-returns-in_default-2
bare_alternative-returns-in_default-2 t c = search single_written

pub repeated-loop-later-init : goal.repeated-loop-later-init
repeated-loop-later-init t c = search repeating_begins

pub repeated-copy_number-number-requires : goal.repeated-copy_number-number-requires
repeated-copy_number-number-requires t c = (search copy_inside, search copy_some, search copy_few)

pub repeated-alternative-place-requires : goal.repeated-alternative-place-requires
repeated-alternative-place-requires t c = (search copy_below, (search copy_numbered, search copy_room))

pub repeated-loop-later-preserved : goal.repeated-loop-later-preserved
repeated-loop-later-preserved t c = search repeating_on

pub repeated-returns-2 : goal.repeated-returns-2
repeated-returns-2 t c = search repeating_ends
