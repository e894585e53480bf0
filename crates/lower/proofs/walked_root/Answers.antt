-- `walked_root` walks the tree, which outlines it, and hands up what refuses it.
use borrow.Author.Rules.{rules}
use Rattle.std.proofs.lemmas.Result.{err_from_is_err_and}
use Rattle.lower.proofs.Laws.{table_is_formed, answers_stopped, table_is_rooted, answers_finished}
use Rattle.lower.proofs.walked_root.Goals as goal

pub walked_root-requires : goal.walked_root-requires
walked_root-requires c = (search table_is_formed, search rules)

pub returns-in_err-walked_root : goal.returns-in_err-walked_root
returns-in_err-walked_root c =
    let p = err_from_is_err_and c.from_residual.result c.from_residual.ensures.1 in
    rw (p.1, p.2) (answers_stopped _ c.requires.0 c.walked_root.ensures.value c.args.first c.args.out.now c.in_err-walked_root.was)

pub root_of-requires : goal.root_of-requires
root_of-requires c = search table_is_formed

pub lowered-requires : goal.lowered-requires
lowered-requires c =
    table_is_rooted _ c.requires.0 c.walked_root.ensures.value c.in_ok-walked_root.was c.in_ok-walked_root.ensures.known c.root_of.ensures

pub returns : goal.returns
returns c = let h = c.in_ok-walked_root.was in search answers_finished
