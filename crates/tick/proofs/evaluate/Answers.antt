-- The loop keeps `Evaluating`: what remains gives the rest of the stores and the match bit.
use borrow.Author.Rules.{rules}
use Rattle.tick.proofs.Evaluating.{evaluating_begins, applicable, value_there, room_for_store, store_finds, evaluating_on, evaluating_stored, evaluated_there, never_past}
use Rattle.tick.proofs.evaluate.Goals as goal
use Rattle.tick.proofs.evaluate.Goals.{then-o-lt-SEQ, else-o-lt-SEQ+else-o-eq-MATCH}

pub loop-w-init : goal.loop-w-init
loop-w-init c = search evaluating_begins

pub apply-height-requires : goal.apply-height-requires
apply-height-requires c = search applicable

pub bounds-stack-0 : goal.bounds-stack-0
bounds-stack-0 c = search value_there

pub returns-then-o-eq-MATCH : goal.returns-then-o-eq-MATCH
returns-then-o-eq-MATCH c = search evaluated_there

pub store-stores-requires : goal.store-stores-requires
store-stores-requires c = search room_for_store

pub moved-height-requires : goal.moved-height-requires
moved-height-requires c = (search store_finds, search rules)

pub loop-w-preserved : goal.loop-w-preserved
loop-w-preserved c =
    let i = c.loop-w.invariant in
    let l = c.loop-w-test.true in
    elim c.if-o-lt-SEQ.branch [
      | then-o-lt-SEQ w ↦
          rw (w.next-is, w.stack-is, w.stores-is, w.height-is) (evaluating_on c.requires i l w.if-o-lt-SEQ.true w.apply-height.ensures)
      | else-o-lt-SEQ+else-o-eq-MATCH w ↦
          let s = w.store-stores.ensures in
          rw (w.next-is, w.stack-is, w.stores-is, w.height-is)
          (evaluating_stored c.requires i l w.if-o-lt-SEQ.false w.if-o-eq-MATCH.false s.0 s.1 w.row.ensures w.moved-height.ensures)
    ]

pub returns : goal.returns
returns c = search never_past
