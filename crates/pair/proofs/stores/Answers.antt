-- `stores` writes the assignments of seq1's alternative, then those of its delays.
use borrow.Author.Rules.{rules}
use Rattle.pair.proofs.Pairs.{pair_delays_fit, pair_next_fits, pair_slid, own_stores_room, slide_stores_room, pair_stores_done}
use Rattle.pair.proofs.stores.Goals as goal

pub overflow_cast-d : goal.overflow_cast-d
overflow_cast-d c = search pair_delays_fit

pub stores-a-requires : goal.stores-a-requires
stores-a-requires c = (search rules, search own_stores_room)

pub slide_stores-requires : goal.slide_stores-requires
slide_stores-requires c = (search pair_slid, search slide_stores_room)

pub overflow_add-result : goal.overflow_add-result
overflow_add-result c = search pair_next_fits

pub returns : goal.returns
returns c = search pair_stores_done
