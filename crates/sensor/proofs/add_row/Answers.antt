-- `add_row` puts the entries of a row, column by column.
use Rattle.sensor.proofs.Laws.{filling_begins, column_on, row_ends}
use Rattle.sensor.proofs.add_row.Goals as goal

pub loop-column-init : goal.loop-column-init
loop-column-init c = search filling_begins

pub loop-column-preserved : goal.loop-column-preserved
loop-column-preserved c = search column_on

pub returns : goal.returns
returns c = search row_ends
