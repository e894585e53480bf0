-- The answer's words fit the output, and the text is the tree's.
use Rattle.lowered_text.proofs.Laws.{listing_fits, tree_shown}
use Rattle.std.proofs.Common.{rules}
use Rattle.lowered_text.proofs.print.Goals as goal

pub show-requires : goal.show-requires
show-requires c = listing_fits c.lower-answer.ensures (search rules) (search rules)

pub returns-clause-shows : goal.returns-clause-shows
returns-clause-shows c = search (tree_shown, rules)
