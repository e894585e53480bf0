-- `row` puts the assignments of the row's alternative.
use Rattle.alternative.proofs.Laws.{kept_stores, placed}
use Rattle.within.proofs.StoreWords.{row_stored}
use Rattle.within.proofs.StoresPutPass.row.Goals as goal

pub stores-requires : goal.stores-requires
stores-requires c = (placed c.requires.holds c.requires.takes.few, rw (kept_stores c.requires.holds) c.requires.takes.room)

pub next_register-requires : goal.next_register-requires
next_register-requires c = placed c.requires.holds c.requires.takes.few

pub returns : goal.returns
returns c = row_stored _ c.stores.ensures c.next_register.ensures
