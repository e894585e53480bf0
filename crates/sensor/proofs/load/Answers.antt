-- `load` puts the entries of the map, row by row.
use borrow.Author.Rules.{rules}
use Rattle.sensor.proofs.Laws.{filling_begins, row_on, map_ends}
use Rattle.sensor.proofs.load.Goals as goal

pub loop-row-init : goal.loop-row-init
loop-row-init c = search (filling_begins, rules)

pub loop-row-preserved : goal.loop-row-preserved
loop-row-preserved c = search row_on

pub returns : goal.returns
returns c = record { wrote = search map_ends; inside = search rules }
