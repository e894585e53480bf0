-- An atom or a register takes nothing from the stack.
use borrow.Author.Rules.{rules}
use Rattle.listing.proofs.NotedWord.{name_found}
use Rattle.listing.proofs.note_name.Goals as goal

pub tallied-requires : goal.tallied-requires
tallied-requires c = (search name_found, search rules)

pub tallied-requires-2 : goal.tallied-requires-2
tallied-requires-2 c = (search name_found, search rules)
