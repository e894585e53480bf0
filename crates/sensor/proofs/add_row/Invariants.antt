-- `add_row` puts the entries of a row, column by column.
use Prim.Native.Nat.{◌-◌}
use Rattle.sensor.specs.Maps.{row_entries}
use Rattle.sensor.proofs.Laws.{Filling}
use Rattle.sensor.proofs.add_row.Given as goal

abbrev pub invariant-loop-column : goal.invariant-loop-column
invariant-loop-column l = Filling l.initial.map l.place (row_entries l.loaded l.row 752 0) l.map l.next (row_entries l.loaded l.row (752 - l.column) l.column)
