-- `listing` lowers the assertion's tree, which stands in front of its array.
use Rattle.frame.proofs.AssertionLaws.{tree_inside, tree_as_long, assertion_listed}
use borrow.Author.Rules.{rules}
use Rattle.frame.proofs.assertions.listing.Goals as goal

pub slice_bounds-tree-end : goal.slice_bounds-tree-end
slice_bounds-tree-end c = search (tree_inside, rules)

pub slice_bounds-lowered-end : goal.slice_bounds-lowered-end
slice_bounds-lowered-end c = search tree_as_long

pub returns : goal.returns
returns c = record { wrote = search assertion_listed; cleared = search rules }
