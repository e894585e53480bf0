-- `closed` writes the AND, and the OR where words of the match stand before.
use Rattle.pair.proofs.Pairs.{joins_none, joining_room, joined_done}
use Rattle.pair.proofs.closed.Goals as goal

pub returns-then-before-eq0 : goal.returns-then-before-eq0
returns-then-before-eq0 c = search joins_none

pub put-requires : goal.put-requires
put-requires c = search joining_room

pub returns : goal.returns
returns c = search joined_done
