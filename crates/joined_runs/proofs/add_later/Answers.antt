-- Where the right operand may begin is kept in a local row.
use lib.ListN.{replicate}
use Rattle.runs.proofs.Laws.{zeros_blank}
use Rattle.joined_runs.proofs.Delays.{reached_later}
use Rattle.joined_runs.proofs.add_later.Goals as goal

pub returns : goal.returns
returns c =
    let p = c.requires in
    reached_later c.args.left c.args.right _ _ _ (replicate 257 0) _ (zeros_blank 257) p.3 p.0 p.1 c.add_ahead.ensures c.reach.ensures
