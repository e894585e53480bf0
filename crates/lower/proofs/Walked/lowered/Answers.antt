-- `lowered` surveys the alternatives: 12, then 13, then the listing.
use Rattle.std.proofs.lemmas.Result.{err_from_is_err_and}
use Rattle.lower.proofs.Laws.{rooted_again, finishes_misplaced, finishes_too_many, is_placed}
use Rattle.lower.proofs.Walked.lowered.Goals as goal

pub returns-in_err-registers : goal.returns-in_err-registers
returns-in_err-registers c =
    let p = err_from_is_err_and c.from_residual.result c.from_residual.ensures.1 in
    rw (p.1, p.2) (finishes_misplaced c.requires.outlines c.args.first c.registers.ensures c.args.out.now c.in_err-registers.was)

pub returns-then-too_many : goal.returns-then-too_many
returns-then-too_many c = let h = c.in_ok-registers.was in search finishes_too_many

pub listed-requires : goal.listed-requires
listed-requires c = let h = c.in_ok-registers.was in (search rooted_again, search is_placed)
