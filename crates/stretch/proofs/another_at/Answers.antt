-- The first store from the place on decides.
use Rattle.stretch.proofs.Laws.{store_inside, another_found, another_unfound}
use Rattle.stretch.proofs.another_at.Goals as goal

pub bounds-listing-place : goal.bounds-listing-place
bounds-listing-place c = search store_inside

pub returns-in-Some : goal.returns-in-Some
returns-in-Some c = search another_found

pub returns-in-None : goal.returns-in-None
returns-in-None c = search another_unfound
