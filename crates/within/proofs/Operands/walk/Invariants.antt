-- `walk` goes over the rows, and over the pairs beside each; what is left is said in `AtRow` and in `AtPair`.
use Rattle.within.proofs.Walk.{AtRow, AtPair}
use Rattle.within.proofs.Operands.walk.Given as goal

abbrev pub invariant-loop-i : goal.invariant-loop-i
invariant-loop-i g l = AtRow g.P.Pass.steps l.self l.work (l.fn.start, l.fn.out) (l.pass, l.out) l.i

abbrev pub invariant-loop-j : goal.invariant-loop-j
invariant-loop-j g l = AtPair g.P.Pass.steps l.self l.row l.work (l.fn.start, l.fn.out) (l.pass, l.out) l.i l.j
