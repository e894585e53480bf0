-- `pair` puts the text of a pair.
use Rattle.within.proofs.KeptPairs.{held_placed, held_text}
use Rattle.within.proofs.TextWords.{row_ended, pair_worded}
use Rattle.within.proofs.TextsPutPass.pair.Goals as goal

pub text-requires : goal.text-requires
text-requires c = (row_ended c.requires, held_placed c.requires.held c.requires.takes.mark.few, rw (held_text c.requires.held _) c.requires.takes.mark.room)

pub returns : goal.returns
returns c = pair_worded _ c.text.ensures
