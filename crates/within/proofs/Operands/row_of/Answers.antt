-- `row_of` keeps an alternative of seq2 and measures it.
use borrow.Author.Rules.{rules}
use Rattle.alternative.proofs.Laws.{kept_is_countable}
use Rattle.within.proofs.Rows.{two_keepable, row_made}
use Rattle.within.proofs.Operands.row_of.Goals as goal

pub keep-two-requires : goal.keep-two-requires
keep-two-requires c = (two_keepable c.requires.0.paired, search rules)

pub returns : goal.returns
returns c = record { rowed = search row_made; countable = kept_is_countable (two_keepable c.requires.0.paired) c.requires.1 c.keep-two.ensures; long = search rules }
