-- `put_match` puts the texts one by one; what is left of them is said in `Joining`.
use lib.ListN.{length}
use Rattle.choice.proofs.Passes.{Joining}
use Rattle.choice.proofs.put_match.Given as goal

abbrev pub invariant-loop-i : goal.invariant-loop-i
invariant-loop-i l = Joining l.t l.n l.first (length l.initial.work) l.initial.out l.at l.work l.out l.p l.r l.i
