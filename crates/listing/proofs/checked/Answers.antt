-- Before the first word nothing is counted; behind a word that was noted the pass goes on.
use Rattle.listing.proofs.OnePass.{passing_begins, goes_on}
use Rattle.listing.proofs.checked.Goals as goal

pub loop-at-init : goal.loop-at-init
loop-at-init c = search passing_begins

pub loop-at-preserved : goal.loop-at-preserved
loop-at-preserved c = goes_on c.loop-at.invariant c.loop-at-test.true c.note.ensures c.ok_or.ensures.value c.in_ok-s.was
