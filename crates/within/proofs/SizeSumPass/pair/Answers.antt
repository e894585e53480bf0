-- `pair` counts the words of a pair.
use borrow.Author.Rules.{rules}
use Rattle.within.proofs.SizeSums.{own_text, own_stores, pair_countable, few_delays, pair_sized}
use Rattle.within.proofs.SizeSumPass.pair.Goals as goal

pub size-requires : goal.size-requires
size-requires c = pair_countable c.requires

pub size-more-requires : goal.size-more-requires
size-more-requires c =
    let counted = pair_countable c.requires in
    (own_text counted c.size.ensures.value, own_stores counted c.size.ensures.value, search rules, few_delays c.requires)

pub returns : goal.returns
returns c = rw c.add.ensures (pair_sized _ (pair_countable c.requires) c.size.ensures.value c.size-more.ensures.value)
