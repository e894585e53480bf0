-- The first store from the place on is the last word of the assignment.
use Rattle.stretch.proofs.Laws.{assignment_stops, assignment_runs_out}
use Rattle.stretch.proofs.assignment_end.Goals as goal

pub returns-in-Some : goal.returns-in-Some
returns-in-Some c = search assignment_stops

pub returns-in-None : goal.returns-in-None
returns-in-None c = search assignment_runs_out
