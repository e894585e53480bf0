-- `registers` measures the windows of seq1's alternatives, then adds up all registers.
use Rattle.within.proofs.RegisterSums.{registers_taken, registers_counted}
use Rattle.within.proofs.registers.Goals as goal

pub walk-requires : goal.walk-requires
walk-requires c =
    let operands = c.measured-operands.ensures in (operands.ready, rw (operands.ones, operands.twos) (registers_taken c.requires _))

pub returns : goal.returns
returns c =
    let operands = c.measured-operands.ensures in registers_counted _ _ _ (rw (operands.ones, operands.twos) at c.walk.ensures.goes)
