-- `step` is the definition's: a pixel comes in, and the one of two ticks before leaves.
use Rattle.correction.proofs.RowLaws.{length-kept, nothing_leaves, the_one_before_leaves}
use Rattle.correction.proofs.step.Goals as goal

pub returns-then-tick-lt-DELAY : goal.returns-then-tick-lt-DELAY
returns-then-tick-lt-DELAY c = search nothing_leaves

pub shape_of-rows : goal.shape_of-rows
shape_of-rows c = search length-kept

pub returns : goal.returns
returns c = search the_one_before_leaves
