-- The words of the bytes stand in front of the tree.
use Rattle.lowered_text.specs.Page.{of_input, input_answer, input_text}
use Rattle.lowered_text.proofs.Laws.{words_read, words_fit, words_counted, no_tree}
use Rattle.std.proofs.Common.{rules, arith}
use Rattle.lowered_text.proofs.print_input.Goals as goal

pub slice_bounds-tree-end : goal.slice_bounds-tree-end
slice_bounds-tree-end c = search (words_fit, rules)

pub slice_bounds-print-end : goal.slice_bounds-print-end
slice_bounds-print-end c = search (words_counted, rules)

pub returns-clause-shows : goal.returns-clause-shows
unfolding of_input input_answer input_text
returns-clause-shows c =
    let read = words_read c.args.input.now (search rules) (search rules) c.read-count.ensures in
    grind (arith, no_tree)
