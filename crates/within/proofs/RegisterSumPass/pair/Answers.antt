-- `pair` adds the registers of a pair.
use Rattle.within.proofs.RegisterSums.{pair_counted}
use Rattle.within.proofs.RegisterSumPass.pair.Goals as goal

pub returns : goal.returns
returns c = search pair_counted
