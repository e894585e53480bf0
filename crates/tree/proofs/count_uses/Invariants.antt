-- One pass over the nodes counts their uses: the loop has those of the nodes below n.
use Rattle.std.proofs.Common.{◌≡◌}
use Rattle.tree.specs.Uses.{used_by}
use Rattle.tree.proofs.count_uses.Given as goal

abbrev pub invariant-loop-n : goal.invariant-loop-n
invariant-loop-n l = l.used ≡ used_by l.t l.n l.initial.used
