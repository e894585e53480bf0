-- `ored` writes two words a register, and goes on with those of the registers that are left.
use Rattle.pair.proofs.Delays.{oring_begins, oring_room, oring_on, oring_ends}
use Rattle.pair.proofs.ored.Goals as goal

pub loop-register-init : goal.loop-register-init
loop-register-init c = search oring_begins

pub copied-p-requires : goal.copied-p-requires
copied-p-requires c = search oring_room

pub loop-register-preserved : goal.loop-register-preserved
loop-register-preserved c = search oring_on

pub returns : goal.returns
returns c = search oring_ends
