-- `put_match` writes 0 where no pair wrote a word.
use Rattle.within.proofs.TextWords.{texts_taken, match_zero_room, match_zero, match_done}
use Rattle.within.proofs.Operands.put_match.Goals as goal

pub walk-end-requires : goal.walk-end-requires
walk-end-requires c = (c.requires.numbered.0, texts_taken _ _ _ _ c.requires.numbered.1 c.requires.room)

pub put-requires : goal.put-requires
put-requires c = match_zero_room _ _ _ _ c.walk-end.ensures.goes c.requires.room c.if-end-from.true

pub returns-then-end-from : goal.returns-then-end-from
returns-then-end-from c = match_zero _ _ _ _ c.walk-end.ensures.goes c.if-end-from.true c.put.ensures

pub returns : goal.returns
returns c = match_done _ _ _ _ c.walk-end.ensures.goes c.if-end-from.false
