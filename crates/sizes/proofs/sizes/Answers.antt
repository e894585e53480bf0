-- `sizes` counts step after step: its sums fit, and a step's sizes come from those before it.
use Rattle.sizes.proofs.Laws.{guard_short, sizing_begins, sizing_text, sizing_stores, sizing_registers, sizing_on}
use Rattle.sizes.proofs.sizes.Goals as goal

pub first_size-z-requires : goal.first_size-z-requires
first_size-z-requires c = search guard_short

pub loop-k-init : goal.loop-k-init
loop-k-init c = search sizing_begins

pub step_size-z-requires : goal.step_size-z-requires
step_size-z-requires c = (search guard_short, search sizing_registers, search sizing_text, search sizing_stores)

pub loop-k-preserved : goal.loop-k-preserved
loop-k-preserved c = search sizing_on
