-- `text` puts the text after the last step, whose registers are the last before `next`.
use Rattle.alternative.proofs.LastStep.{own_fit, own_below, last_ready, text_room, text_written}
use Rattle.alternative.proofs.text.Goals as goal

pub overflow_cast-r : goal.overflow_cast-r
overflow_cast-r c = search own_fit

pub overflow_sub-r : goal.overflow_sub-r
overflow_sub-r c = search own_below

pub current-requires : goal.current-requires
current-requires c = (search last_ready, search text_room)

pub returns : goal.returns
returns c = search text_written
