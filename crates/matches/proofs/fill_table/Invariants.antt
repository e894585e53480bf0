-- The loop fills row after row.
use Rattle.matches.proofs.FilledRows.{TableFilling}
use Rattle.matches.proofs.fill_table.Given as goal

abbrev pub invariant-loop-i : goal.invariant-loop-i
invariant-loop-i l = TableFilling l.tree l.rows.bytes.now l.rows.width l.side l.initial.tables l.tables l.n l.i
