-- `measured` keeps one alternative of seq1 after the other and measures it.
use Rattle.within.proofs.Windows.{Measured}
use Rattle.within.proofs.Operands.measured.Given as goal

abbrev pub invariant-loop-j : goal.invariant-loop-j
invariant-loop-j l = Measured l.tree l.windows l.one l.j
