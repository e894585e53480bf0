-- `pair` puts the assignments of a pair.
use Rattle.within.proofs.KeptPairs.{held_placed, held_stores}
use Rattle.within.proofs.StoreWords.{pair_stored}
use Rattle.within.proofs.StoresPutPass.pair.Goals as goal

pub stores-requires : goal.stores-requires
stores-requires c = (held_placed c.requires.held c.requires.takes.few, rw (held_stores c.requires.held) c.requires.takes.room)

pub returns : goal.returns
returns c = pair_stored _ c.stores.ensures
