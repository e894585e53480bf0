-- The ends below j were added.
use Rattle.std.proofs.Common.{◌≤◌, ◌<◌}
use Rattle.runs.specs.Ends.{Gains, In}
use Rattle.runs.proofs.add_ends.Given as goal

abbrev pub invariant-loop-j : goal.invariant-loop-j
invariant-loop-j l = Gains l.initial.to l.to (λ m. (m < l.j) × (l.first ≤ m) × In l.from m)
