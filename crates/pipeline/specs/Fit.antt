-- Refusal 12, hop by hop, as the code looks for it.
-- Example: in `a ##1 (b[*0])` the hop stands before an Empty and is fixed from 1 on, so it fits; `a ##0 (b[*0])` is refused.
use Rattle.std.specs.Prelude.{Bool, true}
use Rattle.words.specs.Choice.{pick}
use Rattle.meaning.specs.Refusals.{fixed_from_1}
use Rattle.meaning.specs.declared.SeqHop.{SeqHop}

-- 12: "the hop to it or from it is not a fixed one of at least 1", of one hop between two terms.
unfoldable pub hop_fits : Bool → Bool → SeqHop → Bool
hop_fits before after h = pick before (fixed_from_1 h) (pick after (fixed_from_1 h) true)
