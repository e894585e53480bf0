-- `answered` checks the table, and walks it with an outline that is long enough.
use borrow.Author.Rules.{rules}
use Rattle.std.proofs.lemmas.Result.{err_from_is_err_and}
use Rattle.lower.proofs.Laws.{answers_misformed, passed, long_enough}
use Rattle.lower.proofs.answered.Goals as goal

pub returns-in_err-checked : goal.returns-in_err-checked
returns-in_err-checked c =
    let p = err_from_is_err_and c.from_residual.result c.from_residual.ensures.1 in
    rw (p.1, p.2) (answers_misformed _ c.checked.ensures c.args.first _ c.args.out.now c.in_err-checked.was)

pub walked_root-requires : goal.walked_root-requires
walked_root-requires c = let h = c.in_ok-checked.was in (search passed, search rules)

pub walked_root-requires-2 : goal.walked_root-requires-2
walked_root-requires-2 c = let h = c.in_ok-checked.was in (search passed, search long_enough)
