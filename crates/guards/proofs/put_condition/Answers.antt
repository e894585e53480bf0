-- `put_condition` puts the atom, then `any`.
use Rattle.guards.proofs.Laws.{condition_put}
use Rattle.guards.proofs.put_condition.Goals as goal

pub returns : goal.returns
returns c = search condition_put
