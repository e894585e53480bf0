-- `in_order` decides `ordered`: the loop's rest, from the entry that it looks at.
use Rattle.correction.proofs.MapLaws.{Checking}
use Rattle.correction.proofs.in_order.Given as goal

abbrev pub invariant-loop-entry : goal.invariant-loop-entry
invariant-loop-entry l = Checking l.map l.from l.entry-index
