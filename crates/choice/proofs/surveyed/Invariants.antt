-- `surveyed` goes through the alternatives up to one that 12 refuses; what is left of them is said in `Surveying`.
use lib.ListN.{length}
use Rattle.choice.proofs.Passes.{Surveying}
use Rattle.choice.proofs.surveyed.Given as goal

abbrev pub invariant-loop-i : goal.invariant-loop-i
invariant-loop-i l = Surveying l.t l.n (length l.initial.work) l.work l.total l.i
