-- A tree that was not refused has few nodes, and rows that were not refused have a width and few ticks.
use Rattle.recording.proofs.Judging.{few_nodes, some_width, few_ticks}
use Rattle.recording.proofs.judged.Goals as goal

pub good_rows-requires : goal.good_rows-requires
good_rows-requires c = few_nodes _ c.judged_tree.ensures c.in_ok-judged_tree.was

pub nonzero_div-ticks : goal.nonzero_div-ticks
nonzero_div-ticks c = search some_width

pub room_enough-requires : goal.room_enough-requires
room_enough-requires c = (few_nodes _ c.judged_tree.ensures c.in_ok-judged_tree.was, search few_ticks)
