-- `find_block` walks the blocks from the front and leaves each that ends before the number.
use Rattle.expand.proofs.Arithmetic.{Finding}
use Rattle.expand.proofs.find_block.Given as goal

abbrev pub invariant-loop-later : goal.invariant-loop-later
invariant-loop-later l = Finding l.a l.k l.more l.i l.p l.index l.later
