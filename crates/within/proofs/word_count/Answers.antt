-- `word_count` adds the assignments, the match and the match's own word.
use Rattle.within.proofs.SizeSums.{sizes_taken, words_counted}
use Rattle.within.proofs.word_count.Goals as goal

pub walk-requires : goal.walk-requires
walk-requires c =
    let operands = c.measured-operands.ensures in (operands.ready, rw (operands.ones, operands.twos) (sizes_taken c.requires _))

pub returns : goal.returns
returns c =
    let operands = c.measured-operands.ensures in
    words_counted c.requires _ (rw (operands.ones, operands.twos) at c.walk.ensures.goes) c.match_size.ensures.value
