-- The loop writes a line for each store and for the match.
use Rattle.std.proofs.Common.{length}
use Rattle.text.proofs.ListingLines.{Lining}
use Rattle.text.proofs.lines.Given as goal

abbrev pub invariant-loop-end : goal.invariant-loop-end
invariant-loop-end l = Lining l.listing l.initial.out l.at l.out l.next l.rest

abbrev pub decreases-loop-end : goal.decreases-loop-end
decreases-loop-end l = length l.rest
