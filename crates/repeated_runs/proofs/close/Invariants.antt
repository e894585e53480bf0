-- The loop adds what is reached from one point of the row after another.
use Rattle.repeated_runs.proofs.Closing.{Closing}
use Rattle.repeated_runs.proofs.close.Given as goal

abbrev pub invariant-loop-k : goal.invariant-loop-k
invariant-loop-k l = Closing l.table l.first l.initial.row l.row l.k
