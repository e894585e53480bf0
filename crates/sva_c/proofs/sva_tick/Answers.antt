-- `sva_tick` meets its contract: the answer of `tick` comes apart into a number, the match bit and a place.
use Rattle.sva_c.proofs.Laws.{ticked_for_c, not_ticked_for_c}
use Rattle.sva_c.proofs.sva_tick.Goals as goal

pub returns-in-Ok : goal.returns-in-Ok
returns-in-Ok c = search ticked_for_c

pub returns-in-Err : goal.returns-in-Err
returns-in-Err c = rw (c.number.ensures, c.place.ensures) (search not_ticked_for_c)
