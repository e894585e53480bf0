-- The loop adds what is reached from one point after another.
use Rattle.runs.specs.Tables.{RunsOf}
use Rattle.runs.proofs.Reaching.{Reaching}
use Rattle.runs.proofs.reach.Given as goal

abbrev pub invariant-loop-k : goal.invariant-loop-k
invariant-loop-k l = Reaching (RunsOf l.table) l.from l.first l.least l.initial.to l.to l.k
