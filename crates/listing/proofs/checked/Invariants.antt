-- The loop finds the first word that does not fit: it keeps `Passing` with the count of the whole slice.
use Rattle.listing.proofs.OnePass.{Passing}
use Rattle.listing.proofs.checked.Given as goal

abbrev pub invariant-loop-at : goal.invariant-loop-at
invariant-loop-at l = Passing l.count l.listing l.s l.at
