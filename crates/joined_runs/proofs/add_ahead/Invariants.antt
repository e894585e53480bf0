-- The loop adds a stretch after each run of the left.
use Rattle.joined_runs.proofs.Leading.{Leading}
use Rattle.joined_runs.proofs.add_ahead.Given as goal

abbrev pub invariant-loop-k : goal.invariant-loop-k
invariant-loop-k l = Leading l.fn.left l.min l.max l.i l.initial.row l.row l.k
