-- The loop keeps the deepest height so far.
use Rattle.listing.proofs.Laws.{Deepening}
use Rattle.listing.proofs.deepest.Given as goal

abbrev pub invariant-loop-w : goal.invariant-loop-w
invariant-loop-w l = Deepening l.listing l.deepest l.height l.w-index
