-- `driving` meets its contract: what its reader passed holds no assignment of the register.
use Rattle.std.proofs.Common.{sym}
use Rattle.stretch.proofs.Laws.{walking_ends}
use Rattle.stretch.proofs.Starting.{starting_on, starting_nearer, starting_ends}
use Rattle.stretch.proofs.driving.Goals as goal

pub loop-reader-smaller : goal.loop-reader-smaller
loop-reader-smaller c =
    let i = c.loop-reader.invariant in
    starting_nearer i.starting (sym (rw i.same at c.loop-reader-test.ensures)) (rw i.same at c.next-reader.ensures.1)

pub loop-reader-preserved : goal.loop-reader-preserved
loop-reader-preserved c =
    let i = c.loop-reader.invariant in
    record {
      same = rw c.next-reader.ensures.0 i.same;
      starting = starting_on i.starting (sym (rw i.same at c.loop-reader-test.ensures)) (rw i.same at c.next-reader.ensures.1);
    }

pub returns : goal.returns
returns c =
    let i = c.loop-reader.invariant in
    let t = sym (rw i.same at c.loop-reader-test.ensures) in
    record { same = i.same; part = walking_ends i.starting.walking t; start = starting_ends i.starting t }
