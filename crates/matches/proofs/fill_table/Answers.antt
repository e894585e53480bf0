-- The loop fills row after row.
use borrow.Author.Rules.{rules}
use Rattle.matches.proofs.FilledRows.{table_filling_ready, table_filling_on, table_filling_ends}
use Rattle.matches.proofs.fill_table.Goals as goal

pub fill_row-requires : goal.fill_row-requires
fill_row-requires c = (search table_filling_ready, search rules)

pub loop-i-preserved : goal.loop-i-preserved
loop-i-preserved c = search table_filling_on

pub returns : goal.returns
returns c = search table_filling_ends
