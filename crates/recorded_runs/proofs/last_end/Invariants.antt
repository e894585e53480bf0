-- The atom holds at every tick from i on that was passed.
use Rattle.meaning.specs.Match.{Always}
use Rattle.recorded_runs.specs.Recorded.{trace_of}
use Rattle.recorded_runs.proofs.last_end.Given as goal

abbrev pub invariant-loop-tick : goal.invariant-loop-tick
invariant-loop-tick l = Always (trace_of l.rows) l.atom l.i l.tick
