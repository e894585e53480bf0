-- `ored` writes two words a register, and goes on with those of the registers that are left.
use Prim.Native.Nat.{◌+◌, ◌-◌}
use Rattle.words.proofs.Laws.{Going}
use Rattle.pair.specs.Pairs.{delay_texts}
use Rattle.pair.proofs.ored.Given as goal

abbrev pub invariant-loop-register : goal.invariant-loop-register
invariant-loop-register l =
    Going l.initial.out l.at (delay_texts l.r l.d) l.out l.p (delay_texts l.register (l.r + l.d - l.register))
