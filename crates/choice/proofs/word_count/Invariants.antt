-- `word_count` adds the words alternative by alternative; what is left of them is said in `Sizing`.
use lib.ListN.{length}
use Rattle.choice.proofs.Passes.{Sizing}
use Rattle.choice.proofs.word_count.Given as goal

abbrev pub invariant-loop-i : goal.invariant-loop-i
invariant-loop-i l = Sizing l.t l.n (length l.initial.work) l.work l.total l.i
