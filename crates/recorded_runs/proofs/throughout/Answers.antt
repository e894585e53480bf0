-- The ends of the table's row are added to the front of the row, up to the last end of the condition.
use Rattle.recorded_runs.proofs.Fronts.{throughout_gained}
use Rattle.recorded_runs.proofs.throughout.Goals as goal

pub returns : goal.returns
returns c = search throughout_gained
