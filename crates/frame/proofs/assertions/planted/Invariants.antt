-- `planted` puts one node after the other; what is left of them is said in `Planting`.
use Rattle.frame.proofs.AssertionLaws.{Planting}
use Rattle.frame.proofs.assertions.planted.Given as goal

abbrev pub invariant-loop-kind : goal.invariant-loop-kind
invariant-loop-kind l = Planting l.nodes l.initial.tree l.tree l.words l.kind-index
