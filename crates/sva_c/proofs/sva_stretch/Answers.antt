-- `sva_stretch` meets its contract: what `start` and `stretch` of the crate `stretch` find.
use Rattle.sva_c.proofs.Laws.{stretched_for_c}
use Rattle.sva_c.proofs.sva_stretch.Goals as goal

pub returns : goal.returns
returns c = search stretched_for_c
