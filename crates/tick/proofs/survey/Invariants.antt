-- The pass lets through exactly the described listings: the loop keeps `Surveying`.
use Rattle.tick.proofs.Surveying.{Surveying}
use Rattle.tick.proofs.survey.Given as goal

abbrev pub invariant-loop-w : goal.invariant-loop-w
invariant-loop-w l = Surveying l.listing l.atoms l.s l.bits l.w-index
