-- The loop adds the counts below the copies that were made. After it only the row of ends is left to add, whichever way it was left: as it
-- is, or closed.
use Rattle.repeated_runs.proofs.Repeating.{Repeating}
use Rattle.repeated_runs.proofs.repeated.Given as goal

abbrev pub invariant-loop-copies : goal.invariant-loop-copies
invariant-loop-copies l = Repeating l.table l.low l.high l.i l.initial.row l.row l.ends l.copies
