-- `delay` puts the register before, the guard and the store.
use Rattle.pipeline.proofs.Laws.{after_one}
use Rattle.pipeline.proofs.delay.Goals as goal

pub returns : goal.returns
returns c = search after_one
