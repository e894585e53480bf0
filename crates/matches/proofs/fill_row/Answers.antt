-- The row begins without ends: it is of zeros.
use mathlib.Core.Path.{refl}
use lib.ListN.{replicate}
use Rattle.runs.proofs.Laws.{part_blank, zeros_blank}
use Rattle.matches.proofs.FilledRows.{zeros_ready, zeros_inside}
use Rattle.matches.proofs.fill_row.Goals as goal

pub put_ends-requires : goal.put_ends-requires
put_ends-requires c = (
  zeros_ready (replicate 257 0) refl c.requires.0,
  zeros_inside (replicate 257 0) refl c.requires.0 c.requires.1,
  part_blank c.args.side (replicate 257 0) (zeros_blank 257),
)
