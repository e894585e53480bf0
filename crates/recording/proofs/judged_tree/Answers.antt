-- A tree that passed 1, 2 and 3 is formed.
use Rattle.std.proofs.Common.{rules}
use Rattle.tree.proofs.Checks.{a_checked_table_is_formed}
use Rattle.recording.proofs.judged_tree.Goals as goal

pub lowest_not_over_an_atom-requires : goal.lowest_not_over_an_atom-requires
lowest_not_over_an_atom-requires c = (a_checked_table_is_formed _ c.checked.ensures c.in_ok-checked.was, search rules)
