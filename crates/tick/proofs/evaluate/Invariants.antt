-- The loop keeps `Evaluating`: what remains gives the rest of the stores and the match bit.
use Rattle.tick.proofs.Evaluating.{Evaluating}
use Rattle.tick.proofs.evaluate.Given as goal

abbrev pub invariant-loop-w : goal.invariant-loop-w
invariant-loop-w l = Evaluating l.listing l.cur l.atoms l.initial.next l.next l.initial.stack l.stack l.stores l.height l.w-index
