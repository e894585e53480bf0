-- `stores` puts the first term's stores, then those of the later steps.
use Rattle.pipeline.proofs.Laws.{seed_ready, seed_fits, seed_room, laters_room, stores_done}
use borrow.Author.Rules.{rules}
use Rattle.pipeline.proofs.stores.Goals as goal

pub apply_term-p-requires : goal.apply_term-p-requires
apply_term-p-requires c = (search seed_ready, search seed_fits, search seed_room)

pub laters-requires : goal.laters-requires
laters-requires c = (search rules, search laters_room)

pub returns : goal.returns
returns c = search stores_done
