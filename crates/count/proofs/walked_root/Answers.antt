-- A root within by its operands, any other root as a node of depth 1.
use borrow.Author.Rules.{rules}
use Rattle.count.proofs.AtRoot.{root_countable, root_within, other_root_done}
use Rattle.count.proofs.walked_root.Goals as goal

pub walked_within-requires : goal.walked_within-requires
walked_within-requires c = (search root_within, search rules)

pub walked-requires : goal.walked-requires
walked-requires c = (search root_countable, search rules)

pub returns-clause-value : goal.returns-clause-value
returns-clause-value c = search other_root_done
