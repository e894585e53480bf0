-- The recursion on the node number: each call fills the table of its node after those of its operands.
use Rattle.matches.proofs.+fill.Given as goal

abbrev pub decreases-fill : goal.decreases-fill
decreases-fill l = l.n
