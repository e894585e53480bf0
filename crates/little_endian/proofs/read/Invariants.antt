-- The loop puts the word of each group of four bytes.
use Rattle.little_endian.proofs.Laws.{Reading}
use Rattle.little_endian.proofs.read.Given as goal

abbrev pub invariant-loop-word : goal.invariant-loop-word
invariant-loop-word l = Reading l.bytes l.words l.initial.out l.out l.count l.word-index
