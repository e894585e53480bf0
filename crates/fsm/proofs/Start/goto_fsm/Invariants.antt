-- `goto_fsm` puts the first register's store, the second one's and then the others'; what is left of them is said in `Staging`.
use Rattle.fsm.proofs.Laws.{Staging}
use Rattle.fsm.proofs.Start.goto_fsm.Given as goal

abbrev pub invariant-loop-i : goal.invariant-loop-i
invariant-loop-i l = Staging l.fn.self.machine l.initial.out l.initial.p l.out l.p l.i
