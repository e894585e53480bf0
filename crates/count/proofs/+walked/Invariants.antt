-- The recursion on the node number: the operands that are visited one after the other, a refusal of one handed up, then the node's own answer and word.
use Rattle.count.proofs.Joining.{Joining}
use Rattle.count.proofs.+walked.Given as goal

abbrev pub decreases-walked : goal.decreases-walked
decreases-walked l = l.n

abbrev pub invariant-loop-k : goal.invariant-loop-k
invariant-loop-k l = Joining l.t l.n l.room l.depth l.initial.outline l.k l.c l.outline
