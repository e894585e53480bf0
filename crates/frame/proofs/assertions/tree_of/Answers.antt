-- `tree_of` puts the tree of the number.
use Rattle.frame.proofs.AssertionLaws.{hot_kept_fits, good_replaced_fits, wrong_in_row_fits, wrong_at_start_fits, first_tree, second_tree, third_tree, fourth_tree}
use Rattle.frame.proofs.assertions.tree_of.Goals as goal

pub planted-requires : goal.planted-requires
planted-requires c = search hot_kept_fits

pub returns-in-1 : goal.returns-in-1
returns-in-1 c = search first_tree

pub planted-requires-in-2 : goal.planted-requires-in-2
planted-requires-in-2 c = search good_replaced_fits

pub returns-in-2 : goal.returns-in-2
returns-in-2 c = search second_tree

pub planted-requires-in-3 : goal.planted-requires-in-3
planted-requires-in-3 c = search wrong_in_row_fits

pub returns-in-3 : goal.returns-in-3
returns-in-3 c = search third_tree

pub planted-requires-in_default : goal.planted-requires-in_default
planted-requires-in_default c = search wrong_at_start_fits

pub returns-in_default : goal.returns-in_default
returns-in_default c = search fourth_tree
