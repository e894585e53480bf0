-- The bytes of the ticks below this one are put.
use Rattle.std.proofs.Common.{ℕ, ◌<◌, get_or}
use Rattle.runs.specs.Tables.{RunsOf}
use Rattle.matches.specs.Answers.{Says}
use Rattle.matches.specs.Answering.{EndsAt}
use Rattle.matches.proofs.put_answers.Given as goal

abbrev pub invariant-loop-tick : goal.invariant-loop-tick
invariant-loop-tick l = (k : ℕ) → k < l.tick → Says (get_or l.answer-items k 0) (EndsAt (RunsOf l.table) k)
