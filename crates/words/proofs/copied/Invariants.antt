-- `copied` puts one word after the other: the words so far are put.
use Rattle.std.proofs.Common.{take}
use Rattle.words.specs.Written.{Wrote}
use Rattle.words.proofs.copied.Given as goal

abbrev pub invariant-loop-word : goal.invariant-loop-word
invariant-loop-word g l = Wrote l.initial.out l.out l.place l.next (take l.word-index l.words)
