-- `close` puts nothing, `any`, or `any or`, by how many texts there are and which it is.
use Rattle.choice.proofs.Closings.{alone_closed, leading_fits, leading_closed, following_fits, following_closed}
use Rattle.choice.proofs.close.Goals as goal

pub returns-in-1-default : goal.returns-in-1-default
returns-in-1-default c = search alone_closed

pub put-requires : goal.put-requires
put-requires c = search leading_fits

pub returns-in_default-eq0 : goal.returns-in_default-eq0
returns-in_default-eq0 c = search leading_closed

pub copied-requires : goal.copied-requires
copied-requires c = search following_fits

pub returns-in_default : goal.returns-in_default
returns-in_default c = search following_closed
