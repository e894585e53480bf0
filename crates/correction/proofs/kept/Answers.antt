-- `kept` reads the pixel of a tick.
use Rattle.correction.proofs.kept.Goals as goal

pub returns : goal.returns
returns c = cc
