-- The row of ends, put into its place in the table.
use borrow.Author.Rules.{rules}
use Rattle.matches.proofs.FilledRows.{row_filled}
use Rattle.matches.proofs.put_ends.Goals as goal

pub returns : goal.returns
returns c = search (row_filled, rules)
