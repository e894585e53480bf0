-- `watch` says the verdict: at each tick what is left to say is the whole, and the map is reached as `step` asks.
use Rattle.frame.proofs.FrameLaws.{Watching}
use Rattle.frame.proofs.watch.Given as goal

abbrev pub invariant-loop-tick : goal.invariant-loop-tick
invariant-loop-tick l = Watching l.map l.listing l.rows l.cur l.next l.stack l.reached l.tick
