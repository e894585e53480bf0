-- The row of seq2 is added from the lowest end of seq1 on.
use Rattle.joined_runs.proofs.Lowering.{ends_inside}
use Rattle.joined_runs.proofs.inside.Goals as goal

pub returns : goal.returns
returns c = search ends_inside
