-- `registers` surveys the choice, or counts the registers of a within.
use Rattle.lower.proofs.AtRoot.{told_within, told_other, root_is_keepable, choice_surveyed, operands_are_paired, within_surveyed}
use Rattle.lower.proofs.Walked.registers.Goals as goal

pub registers-registers-requires : goal.registers-registers-requires
registers-registers-requires c = search (operands_are_paired, told_within)

pub returns-in-Within : goal.returns-in-Within
returns-in-Within c = search (within_surveyed, told_within)

pub surveyed-requires : goal.surveyed-requires
surveyed-requires c = search (root_is_keepable, told_other)

pub returns-in-Other : goal.returns-in-Other
returns-in-Other c = search (choice_surveyed, told_other)
