-- The loop adds what is reached from one point after another.
use Rattle.runs.proofs.Reaching.{reaching_on, reaching_past}
use Rattle.runs.proofs.reach.Goals as goal
use Rattle.runs.proofs.reach.Goals.{then-from-k-eq1, else-from-k-eq1}

pub loop-k-preserved : goal.loop-k-preserved
loop-k-preserved c = elim c.if-from-k-eq1.branch [ then-from-k-eq1 w ↦ rw w.to-is (search reaching_on) | else-from-k-eq1 w ↦ rw w.to-is (search reaching_past) ]
