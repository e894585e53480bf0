-- `guard_text`, `bare_guard` and `repeated_guard` write the words of the numbered alternative's guard, by the node number; those of
-- copies are joined one after the other.
use Prim.Native.Nat.{◌+◌, ◌*◌}
use Rattle.guards.proofs.Laws.{Joining}
use Rattle.guards.proofs.+bare_guard_guard_text_repeated_guard.Given as goal

abbrev pub decreases-repeated_guard : goal.decreases-repeated_guard
decreases-repeated_guard l = l.n * 3 + 2

abbrev pub decreases-guard_text : goal.decreases-guard_text
decreases-guard_text l = l.n * 3 + 1

abbrev pub decreases-bare_guard : goal.decreases-bare_guard
decreases-bare_guard l = l.n * 3

abbrev pub invariant-repeated_guard-loop-later : goal.invariant-repeated_guard-loop-later
invariant-repeated_guard-loop-later l = Joining l.t l.n l.k l.i l.initial.work l.at l.work l.middle l.later
