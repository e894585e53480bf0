-- `watched` watches with the assertion's listing, which stands in front of its array.
use borrow.Author.Rules.{rules}
use Rattle.frame.proofs.FrameLaws.{listing_inside, listing_as_long, assertion_watched}
use Rattle.frame.proofs.watched.Goals as goal

pub slice_bounds-out-end : goal.slice_bounds-out-end
slice_bounds-out-end c = search (listing_inside, rules)

pub slice_bounds-watch-end : goal.slice_bounds-watch-end
slice_bounds-watch-end c = search listing_as_long

pub returns : goal.returns
returns c = search assertion_watched
