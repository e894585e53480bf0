-- The recursion on the node number: each call fills the table of its node after those of its operands.
use Rattle.matches.proofs.FilledTables.{filled_alone, filled_after, filled_after_two}
use Rattle.matches.proofs.+fill.Goals as goal
use Rattle.matches.proofs.+fill.Goals.{in-3, in-6, in-2, in_default}

pub returns : goal.returns
returns t c = elim c.match-v.branch [
  | in-3 w ↦ filled_after w.fill.ensures (rw w.tables-is at c.fill_table.ensures)
  | in-6 w ↦ filled_after w.fill-in-6.ensures (rw w.tables-is at c.fill_table.ensures)
  | in-2 w ↦ filled_after_two w.fill-in-2.ensures w.fill-in-2-2.ensures (rw w.tables-is at c.fill_table.ensures)
  | in_default w ↦ filled_alone (rw w.tables-is at c.fill_table.ensures)
]
