-- `consec_run_fsm` puts the activation, then the stores of one register after the other; what is left of them is said in `Running`.
use Rattle.fsm.proofs.Laws.{Running}
use Rattle.fsm.proofs.Start.consec_run_fsm.Given as goal

abbrev pub invariant-loop-i : goal.invariant-loop-i
invariant-loop-i l = Running l.fn.self.machine l.initial.out l.initial.p l.out l.p l.i
