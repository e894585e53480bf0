-- `row` counts the assignments of the row's alternative, and its text for the pairs.
use Rattle.within.proofs.SizeSums.{row_sized}
use Rattle.within.proofs.SizeSumPass.row.Goals as goal

pub returns : goal.returns
returns c = row_sized _ (c.requires.countable c.requires.takes.0) c.size-own.ensures.value
