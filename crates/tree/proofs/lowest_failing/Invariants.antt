-- The nodes below n have passed.
use Rattle.std.proofs.Common.{ℕ, true, ◌<◌}
use Rattle.tree.proofs.lowest_failing.Given as goal

abbrev pub invariant-loop-n : goal.invariant-loop-n
invariant-loop-n g l = (k : ℕ) → k < l.n → goal.F-post g l.passes k true
