-- `sva_lower` meets its contract: the answer of `lower` comes apart into a number, counts and a place.
use Rattle.sva_c.proofs.Laws.{listed_for_c, refused_for_c}
use Rattle.sva_c.proofs.sva_lower.Goals as goal

pub returns-in-Ok : goal.returns-in-Ok
returns-in-Ok c = search listed_for_c

pub returns-in-Err : goal.returns-in-Err
returns-in-Err c = rw (c.number.ensures, c.place.ensures) (search refused_for_c)
