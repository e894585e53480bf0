-- The nodes below n have passed.
use Rattle.std.proofs.Common.{◌≡◌, ℕ, true, ◌<◌}
use Rattle.recording.specs.Refusals.{over_an_atom}
use Rattle.recording.proofs.lowest_not_over_an_atom.Given as goal

abbrev pub invariant-loop-n : goal.invariant-loop-n
invariant-loop-n l = (k : ℕ) → k < l.n → over_an_atom l.tree k ≡ true
