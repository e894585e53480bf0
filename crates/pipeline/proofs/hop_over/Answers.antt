-- `hop_over` puts delays, a latch, or a latch behind its delays.
use Rattle.pipeline.proofs.Laws.{hop_small, hop_room, hop_done, latch_small, latch_room, latch_done, late_small, late_room, late_done}
use borrow.Author.Rules.{rules}
use Rattle.pipeline.proofs.hop_over.Goals as goal

pub fixed-requires : goal.fixed-requires
fixed-requires c = (search rules, search rules, search hop_small, rw c.guard.ensures (search hop_room))

pub returns-in-Fixed : goal.returns-in-Fixed
returns-in-Fixed c = let words = rw c.guard.ensures at c.fixed.ensures in search (hop_done, words)

pub latch-requires : goal.latch-requires
latch-requires c = (search rules, search rules, search latch_small, search latch_room)

pub returns-in-AtLeast : goal.returns-in-AtLeast
returns-in-AtLeast c = search latch_done

pub late_latch-requires : goal.late_latch-requires
late_latch-requires c = (search rules, search rules, search rules, search late_small, search late_room)

pub returns-in-AtLeast-2 : goal.returns-in-AtLeast-2
returns-in-AtLeast-2 c = search late_done
