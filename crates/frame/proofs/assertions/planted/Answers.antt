-- `planted` puts one node after the other; what is left of them is said in `Planting`.
use Rattle.frame.proofs.AssertionLaws.{planting_begins, room_for_a_node, planting_on, planting_ends}
use Rattle.frame.proofs.assertions.planted.Goals as goal

pub loop-kind-init : goal.loop-kind-init
loop-kind-init c = search planting_begins

pub copied-words-requires : goal.copied-words-requires
copied-words-requires c = search room_for_a_node

pub loop-kind-preserved : goal.loop-kind-preserved
loop-kind-preserved c = search planting_on

pub returns : goal.returns
returns c = search planting_ends
