-- `sva_matches` meets its contract: the answer of `matches` comes apart into a number, the ticks and a place.
use Rattle.sva_c.proofs.Laws.{matched_for_c, not_matched_for_c}
use Rattle.sva_c.proofs.sva_matches.Goals as goal

pub returns-in-Ok : goal.returns-in-Ok
returns-in-Ok c = search matched_for_c

pub returns-in-Err : goal.returns-in-Err
returns-in-Err c = rw (c.number.ensures, c.place.ensures) (search not_matched_for_c)
