-- The loop has summed up i lists of copies.
use Rattle.count.proofs.Leaves.{Summing}
use Rattle.count.proofs.summed.Given as goal

abbrev pub invariant-loop-i : goal.invariant-loop-i
invariant-loop-i l = Summing l.base l.initial.copies l.count l.total l.copies l._i
