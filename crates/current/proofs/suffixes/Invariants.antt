-- `suffixes` puts one suffix after the other; what is left of them is said in `Forth`.
use Rattle.current.proofs.Walk.{Forth}
use Rattle.current.proofs.suffixes.Given as goal

abbrev pub invariant-loop-i : goal.invariant-loop-i
invariant-loop-i l = Forth l.y.work.now l.y.kept l.initial.out l.at l.k l.r l.j l.out l.p l.i l.register
