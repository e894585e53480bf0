-- A refusal of either operand is handed up; then the pairs.
use Rattle.std.proofs.lemmas.Result.{err_from_is_err_and}
use Rattle.count.proofs.Walking.{where_counted, answer_is_small}
use Rattle.count.proofs.AtRoot.{one_refused, two_refused, within_done, operands_known}
use Rattle.count.proofs.walked_within.Goals as goal

pub returns-in_err-x-clause-value : goal.returns-in_err-x-clause-value
returns-in_err-x-clause-value c =
    let p = err_from_is_err_and c.from_residual.result c.from_residual.ensures.1 in
    rw (p.1, p.2) (one_refused c.requires.0 c.read-v.ensures c.walked.ensures.value c.in_err-x.was)

pub returns-in_err-y-clause-value : goal.returns-in_err-y-clause-value
returns-in_err-y-clause-value c =
    let p = err_from_is_err_and c.from_residual-in_err-y.result c.from_residual-in_err-y.ensures.1 in
    rw (p.1, p.2) (two_refused c.requires.0 c.read-v.ensures c.walked.ensures.value c.in_ok-x.was c.walked-2.ensures.value c.in_err-y.was)

pub paired-requires : goal.paired-requires
paired-requires c =
    (answer_is_small c.args.room 1 _ c.walked.ensures.value c.in_ok-x.was c.requires.0.rooms, answer_is_small c.args.room 1 _ c.walked-2.ensures.value c.in_ok-y.was c.requires.0.rooms)

pub returns-clause-value : goal.returns-clause-value
returns-clause-value c =
    within_done c.requires.0 c.read-v.ensures c.walked.ensures.value c.in_ok-x.was c.walked-2.ensures.value c.in_ok-y.was c.paired.ensures

pub returns-clause-known : goal.returns-clause-known
returns-clause-known c = where_counted c.paired.result (λ _ _. operands_known c.requires.0 c.read-v.ensures c.in_ok-x.ensures.noted c.in_ok-y.ensures.noted)
