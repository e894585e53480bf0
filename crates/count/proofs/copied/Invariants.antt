-- The loop has made i copies more than the base.
use Rattle.count.proofs.Leaves.{Copying}
use Rattle.count.proofs.copied.Given as goal

abbrev pub invariant-loop-i : goal.invariant-loop-i
invariant-loop-i l = Copying l.base l.k l.copies l._i
