-- The recursion on the node number: the operands that are visited one after the other, a refusal of one handed up, then the node's own answer and word.
use borrow.Author.Rules.{rules}
use Rattle.std.proofs.lemmas.Result.{err_from_is_err_and}
use Rattle.count.proofs.Walking.{answer_is_small, too_deep}
use Rattle.count.proofs.Joining.{operand_lower, operand_countable, operand_refused, joining_on, answer_done, answer_noted}
use Rattle.count.proofs.+walked.Goals as goal

pub returns-then-depth-gt256-clause-value : goal.returns-then-depth-gt256-clause-value
returns-then-depth-gt256-clause-value t c = search too_deep

pub walked-requires : goal.walked-requires
walked-requires t c = (search operand_lower, (search operand_countable, search rules))

pub returns-in_err-s-clause-value : goal.returns-in_err-s-clause-value
returns-in_err-s-clause-value t c =
    let p = err_from_is_err_and c.from_residual.result c.from_residual.ensures.1 in
    rw (p.1, p.2)
    (operand_refused c.requires.0 c.if-depth-gt256.false c.visits-k-end.ensures c.loop-k-test.true c.operand.ensures c.loop-k.invariant c.walked.ensures.value c.in_err-s.was)

pub product-c-requires : goal.product-c-requires
product-c-requires t c = (search rules, answer_is_small c.args.room _ _ c.walked.ensures.value c.in_ok-s.was c.requires.0.rooms)

pub loop-k-preserved : goal.loop-k-preserved
loop-k-preserved t c =
    joining_on c.requires.0 c.if-depth-gt256.false c.visits-k-end.ensures c.loop-k-test.true c.operand.ensures c.loop-k.invariant c.walked.ensures.value c.in_ok-s.was
    c.in_ok-s.ensures.noted c.product-c.ensures (search rules)

pub returns-clause-value : goal.returns-clause-value
returns-clause-value t c = search answer_done

pub returns-clause-noted : goal.returns-clause-noted
returns-clause-noted t c = search (answer_noted, answer_done)
