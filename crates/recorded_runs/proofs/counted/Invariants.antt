-- The loop counts b, and sets the ends as it passes them.
use Rattle.recorded_runs.specs.Recorded.{trace_of}
use Rattle.recorded_runs.proofs.Counting.{Counting}
use Rattle.recorded_runs.proofs.counted.Given as goal

abbrev pub invariant-loop-tick : goal.invariant-loop-tick
invariant-loop-tick l = Counting l.goes_on (trace_of l.rows) l.atom l.count l.i l.initial.row l.row l.seen l.tick
