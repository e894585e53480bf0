-- No run that begins below i has its last tick here.
use Rattle.std.proofs.Common.{ℕ, suc, ◌<◌}
use Rattle.runs.specs.Tables.{RunsOf}
use Rattle.matches.proofs.ends_at.Given as goal

abbrev pub invariant-loop-i : goal.invariant-loop-i
invariant-loop-i l = (k : ℕ) → k < l.i → RunsOf l.table k (suc l.tick) → ⊥
