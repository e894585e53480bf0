-- `slid_text` writes the alternative's text and ORs its delays to it.
use borrow.Author.Rules.{rules}
use Rattle.pair.proofs.Pairs.{slid_text_room, slid_ored_room, slid_done}
use Rattle.pair.proofs.slid_text.Goals as goal

pub text-a-requires : goal.text-a-requires
text-a-requires c = (search rules, search slid_text_room)

pub ored-requires : goal.ored-requires
ored-requires c = (search rules, search slid_ored_room)

pub returns : goal.returns
returns c = search slid_done
