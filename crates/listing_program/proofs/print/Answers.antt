-- The status of the answer, or that of a lost output.
use Rattle.listing_program.proofs.Laws.{ends_within}
use Rattle.listing_program.proofs.print.Goals as goal

pub returns : goal.returns
returns g c = ends_within _ c.status_of.ensures c.put_out.ensures
