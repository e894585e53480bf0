-- `listed` compares the words with the output's room, and writes them where they fit.
use borrow.Author.Rules.{rules}
use Rattle.lower.proofs.Laws.{rooted_again, finishes_too_short, words_fit, end_inside, part_is_as_long, operands_found, finishes_listed}
use Rattle.lower.proofs.Walked.listed.Goals as goal

pub returns-then-out-word_count : goal.returns-then-out-word_count
returns-then-out-word_count c = search finishes_too_short

pub write-words-requires : goal.write-words-requires
write-words-requires c = (search rooted_again, search rules, search words_fit)

pub slice_bounds-deepest-end : goal.slice_bounds-deepest-end
slice_bounds-deepest-end c = search end_inside

pub slice_bounds-deepest-end-2 : goal.slice_bounds-deepest-end-2
slice_bounds-deepest-end-2 c = search (part_is_as_long, end_inside)

pub deepest-deepest-requires : goal.deepest-deepest-requires
deepest-deepest-requires c = search operands_found

pub returns : goal.returns
returns c = search finishes_listed
