-- `word_count` counts the words of all pairs or of the choice.
use Rattle.lower.proofs.AtRoot.{few_from_0, counted_as, told_within, told_other, root_is_numberable, choice_listing, operands_are_numberable, within_listing}
use Rattle.lower.proofs.Walked.word_count.Goals as goal

pub word_count-requires : goal.word_count-requires
word_count-requires c = search (operands_are_numberable, few_from_0, told_within)

pub returns-in-Within : goal.returns-in-Within
returns-in-Within c = search (counted_as, within_listing, told_within)

pub word_count-requires-in-Other : goal.word_count-requires-in-Other
word_count-requires-in-Other c = search (root_is_numberable, few_from_0, told_other)

pub returns-in-Other : goal.returns-in-Other
returns-in-Other c = search (counted_as, choice_listing, told_other)
