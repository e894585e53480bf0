-- The loop reads a word up to the blank behind it, and puts its number.
use borrow.Author.Rules.{rules}
use Rattle.cases.proofs.Laws.{reading_begins, reading_on, reading_ends}
use Rattle.cases.proofs.numbers.Goals as goal

pub loop-from-init : goal.loop-from-init
loop-from-init c = search reading_begins

pub loop-from-preserved : goal.loop-from-preserved
loop-from-preserved c = search reading_on

pub returns : goal.returns
returns c = record { wrote = search reading_ends; inside = search rules }
