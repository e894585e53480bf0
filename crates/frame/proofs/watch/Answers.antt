-- `watch` says the verdict: at each tick what is left to say is the whole, and the map is reached as `step` asks.
use Rattle.frame.proofs.FrameLaws.{watching_begins, refused_there, alarm_there, watching_on, quiet_there}
use Rattle.frame.proofs.watch.Goals as goal

pub loop-tick-init : goal.loop-tick-init
loop-tick-init c = search watching_begins

pub returns-in_default : goal.returns-in_default
returns-in_default c = search refused_there

pub returns-then-bit-eq1 : goal.returns-then-bit-eq1
returns-then-bit-eq1 c = search alarm_there

pub loop-tick-preserved : goal.loop-tick-preserved
loop-tick-preserved c = search watching_on

pub returns : goal.returns
returns c = search quiet_there
