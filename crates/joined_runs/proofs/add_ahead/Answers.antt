-- The loop adds a stretch after each run of the left.
use Rattle.joined_runs.proofs.Leading.{leading_on, leading_past}
use Rattle.joined_runs.proofs.add_ahead.Goals as goal
use Rattle.joined_runs.proofs.add_ahead.Goals.{then-ends-k-eq1, else-ends-k-eq1}

pub loop-k-preserved : goal.loop-k-preserved
loop-k-preserved c = elim c.if-ends-k-eq1.branch [ then-ends-k-eq1 w ↦ rw w.row-is (search leading_on) | else-ends-k-eq1 w ↦ rw w.row-is (search leading_past) ]
