-- Up to the end that `assignment_end` gives, the part is the assignment.
use Rattle.std.proofs.Common.{refl}
use Rattle.stretch.proofs.Laws.{part_is_assignment}
use Rattle.stretch.proofs.assignment_at.Goals as goal

pub returns : goal.returns
returns c = rw c.unwrap_or.ensures (part_is_assignment _ _ c.get.result _ c.assignment_end-end.ensures c.get.ensures.lookup refl)
