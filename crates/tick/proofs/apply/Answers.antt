-- Operations 1 to 4 put their value on the stack.
use Rattle.tick.proofs.AppliedWord.{apply_value}
use Rattle.tick.proofs.apply.Goals as goal

pub returns-then-o-lt-ANY : goal.returns-then-o-lt-ANY
returns-then-o-lt-ANY c = search apply_value
