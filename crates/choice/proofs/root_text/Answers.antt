-- `root_text` puts the bare atom, or the text after the last step.
use borrow.Author.Rules.{rules}
use Rattle.choice.proofs.RootTexts.{other_room, other_written, bare_fits, bare_room, bare_written}
use Rattle.choice.proofs.root_text.Goals as goal

pub text-requires : goal.text-requires
text-requires c = (search rules, search other_room)

pub returns-in-None : goal.returns-in-None
returns-in-None c = search other_written

pub overflow_add-a : goal.overflow_add-a
overflow_add-a c = search bare_fits

pub put-requires : goal.put-requires
put-requires c = search bare_room

pub returns-in-Some : goal.returns-in-Some
returns-in-Some c = search bare_written
