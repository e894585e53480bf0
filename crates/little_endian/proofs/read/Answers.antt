-- The loop puts the word of each group of four bytes.
use Rattle.little_endian.proofs.Laws.{reading_begins, reading_on, reading_ends}
use Rattle.little_endian.proofs.read.Goals as goal

pub loop-word-init : goal.loop-word-init
loop-word-init c = search reading_begins

pub loop-word-preserved : goal.loop-word-preserved
loop-word-preserved c = search (reading_on, c.put-count.ensures, c.from_le_bytes.ensures)

pub returns : goal.returns
returns c = search reading_ends
