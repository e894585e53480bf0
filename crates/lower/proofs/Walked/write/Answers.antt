-- `write` writes all pairs or the choice.
use Rattle.lower.proofs.AtRoot.{room_as, written_as, told_within, told_other, root_is_numberable, choice_listing, operands_are_numberable, within_listing}
use Rattle.lower.proofs.Walked.write.Goals as goal

pub write-requires : goal.write-requires
write-requires c = (search (operands_are_numberable, told_within), search (room_as, within_listing, told_within))

pub returns-in-Within : goal.returns-in-Within
returns-in-Within c = search (written_as, within_listing, told_within)

pub write-requires-in-Other : goal.write-requires-in-Other
write-requires-in-Other c = (search (root_is_numberable, told_other), search (room_as, choice_listing, told_other))

pub returns-in-Other : goal.returns-in-Other
returns-in-Other c = search (written_as, choice_listing, told_other)
