-- `row` goes on with the register behind those of the row's alternative.
use Rattle.alternative.proofs.Laws.{placed}
use Rattle.within.proofs.TextWords.{row_begun}
use Rattle.within.proofs.TextsPutPass.row.Goals as goal

pub next_register-next-requires : goal.next_register-next-requires
next_register-next-requires c = placed c.requires.holds c.requires.takes

pub returns : goal.returns
returns c = row_begun _ c.next_register-next.ensures
