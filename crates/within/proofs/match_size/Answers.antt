-- `match_size` takes the first pair's OR away, or counts the 0.
use borrow.Author.Rules.{rules}
use Rattle.words.specs.Choice.{tests}
use Rattle.within.specs.AllSizes.{match_size}
use Rattle.within.proofs.match_size.Goals as goal

pub returns-then-texts-eq0 : goal.returns-then-texts-eq0
unfolding match_size
returns-then-texts-eq0 c = record { value = search tests; small = search rules }

pub returns : goal.returns
unfolding match_size
returns c = record { value = search tests; small = search rules }
