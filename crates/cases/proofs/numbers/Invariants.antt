-- The loop reads a word up to the blank behind it, and puts its number.
use Prim.Native.Nat.{◌-◌}
use lib.ListN.{length}
use Rattle.cases.proofs.Laws.{Reading}
use Rattle.cases.proofs.numbers.Given as goal

abbrev pub invariant-loop-from : goal.invariant-loop-from
invariant-loop-from l = Reading l.line l.initial.out l.out l.count l.from

abbrev pub decreases-loop-from : goal.decreases-loop-from
decreases-loop-from l = length l.line - l.from
