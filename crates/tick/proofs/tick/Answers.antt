-- 21 by the pass, the rest by `step`.
use Rattle.tick.proofs.Refusals.{faulty_undescribed, faulty_tick, whole_described, whole_wanted}
use Rattle.tick.proofs.tick.Goals as goal

pub fault-requires : goal.fault-requires
fault-requires c = search faulty_undescribed

pub returns-in_default : goal.returns-in_default
returns-in_default c = search faulty_tick

pub step-requires : goal.step-requires
step-requires c = (search whole_described, search whole_wanted)
