-- `late_latch` puts the delays, then the latch over the last two registers.
use Rattle.pipeline.proofs.Laws.{late_delays_room, late_latch_room}
use Rattle.words.proofs.Laws.{two_parts}
use borrow.Author.Rules.{rules}
use Rattle.pipeline.proofs.late_latch.Goals as goal

pub fixed-p-requires : goal.fixed-p-requires
fixed-p-requires c = (search rules, search rules, search rules, search late_delays_room)

pub copied-requires : goal.copied-requires
copied-requires c = search late_latch_room

pub returns : goal.returns
returns c = search two_parts
