-- `put` stores the word, and nothing else.
use Rattle.std.proofs.Common.{rules}
use Rattle.words.specs.Written.{written}
use Rattle.words.proofs.put.Goals as goal

pub returns : goal.returns
unfolding written
returns g c = search rules
