-- The loop looks at the rows one after another, each below the lowest end so far.
use Rattle.joined_runs.proofs.Lowering.{Lowering}
use Rattle.joined_runs.proofs.earliest.Given as goal

abbrev pub invariant-loop-k : goal.invariant-loop-k
invariant-loop-k l = Lowering l.table l.i l.end l.k
