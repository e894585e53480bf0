-- No end of the row from `first` on stands below j.
use Rattle.std.proofs.Common.{ℕ, ◌≤◌, ◌<◌}
use Rattle.runs.specs.Ends.{In}
use Rattle.joined_runs.proofs.lowest_end.Given as goal

abbrev pub invariant-loop-j : goal.invariant-loop-j
invariant-loop-j l = (k : ℕ) → l.first ≤ k → k < l.j → In l.row k → ⊥
