-- The tokens of the words so far stand there.
use Rattle.std.proofs.Common.{take}
use Rattle.words.specs.Written.{Wrote}
use Rattle.text.specs.Text.{tokens_text}
use Rattle.text.proofs.tokens.Given as goal

abbrev pub invariant-loop-w : goal.invariant-loop-w
invariant-loop-w l = Wrote l.initial.out l.out l.at l.next (tokens_text (take l.w-index l.expression))
