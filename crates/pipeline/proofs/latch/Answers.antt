-- `latch` puts the latch around the text before.
use Rattle.pipeline.proofs.Laws.{after_one}
use Rattle.pipeline.proofs.latch.Goals as goal

pub returns : goal.returns
returns c = search after_one
