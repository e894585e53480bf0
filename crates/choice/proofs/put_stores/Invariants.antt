-- `put_stores` puts the assignments alternative by alternative; what is left of them is said in `Storing`.
use lib.ListN.{length}
use Rattle.choice.proofs.Passes.{Storing}
use Rattle.choice.proofs.put_stores.Given as goal

abbrev pub invariant-loop-i : goal.invariant-loop-i
invariant-loop-i l = Storing l.t l.n l.first (length l.initial.work) l.initial.out l.work l.out l.p l.r l.i
