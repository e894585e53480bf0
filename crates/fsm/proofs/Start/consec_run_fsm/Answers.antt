-- `consec_run_fsm` puts the activation, then the stores of one register after the other; what is left of them is said in `Running`.
use Rattle.fsm.proofs.Laws.{running_on}
use Rattle.fsm.proofs.Start.consec_run_fsm.Goals as goal

pub loop-i-preserved : goal.loop-i-preserved
loop-i-preserved c = search running_on
