-- The row has no ends before the table reaches some.
use Rattle.repeated_runs.proofs.Rows.{carries_what_is_reached}
use Rattle.repeated_runs.proofs.once_more.Goals as goal

pub returns : goal.returns
returns c = search carries_what_is_reached
