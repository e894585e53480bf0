-- `row` adds the registers of the row's alternative.
use Rattle.within.proofs.RegisterSums.{row_counted}
use Rattle.within.proofs.RegisterSumPass.row.Goals as goal

pub returns : goal.returns
returns c = search row_counted
