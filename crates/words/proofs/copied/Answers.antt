-- `copied` puts one word after the other: the words so far are put.
use Rattle.std.proofs.Common.{sym, arith, ◌≤◌, length}
use lib.Seq.{length-take-le}
use Rattle.words.proofs.Laws.{copying_begins, copying_on, copying_ends}
use Rattle.words.proofs.copied.Goals as goal

pub loop-word-init : goal.loop-word-init
loop-word-init g c = copying_begins c.args.words.now c.args.out.now c.args.place

pub put-next-requires : goal.put-next-requires
put-next-requires g c =
    let inside : c.loop-word.word-index ≤ length c.args.words.now = omega arith in
    omega (arith, c.loop-word.invariant.ends, length-take-le c.loop-word.word-index c.args.words.now inside)

pub loop-word-preserved : goal.loop-word-preserved
loop-word-preserved g c = copying_on c.args.words.now c.loop-word.invariant c.loop-word-test.true (sym c.word-item.is) c.put-next.ensures

pub returns : goal.returns
returns g c = copying_ends c.loop-word.invariant c.loop-word-test.false
