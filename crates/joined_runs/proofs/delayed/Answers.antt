-- The ends of both kinds are added, one kind after the other.
use Rattle.joined_runs.proofs.Delays.{delayed_overlapped, delayed_later}
use Rattle.joined_runs.proofs.delayed.Goals as goal

pub returns-then-min-eq0 : goal.returns-then-min-eq0
returns-then-min-eq0 c = delayed_overlapped _ _ _ _ _ c.if-min-eq0.true c.add_later.ensures c.add_overlapped.ensures

pub returns-else-min-eq0 : goal.returns-else-min-eq0
returns-else-min-eq0 c = delayed_later _ _ _ _ _ c.if-min-eq0.false c.add_later.ensures
