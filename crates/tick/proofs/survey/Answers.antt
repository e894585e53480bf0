-- The pass lets through exactly the described listings: the loop keeps `Surveying`.
use Rattle.std.proofs.Common.{◌∙◌}
use Rattle.tick.proofs.Surveying.{surveying_begins, no_word, unfit_here, surveying_atom, surveying_another, unended, register_missing, whole_there, faulty_there}
use Rattle.tick.proofs.survey.Goals as goal
use Rattle.tick.proofs.survey.Goals.{then-w-lt-REGISTER, else-w-lt-REGISTER, then-not-ended-via-then-not-ended, then-not-ended-via-else-not-ended+then-s}

pub returns-in_err-last : goal.returns-in_err-last
returns-in_err-last c = c.from_residual.ensures ∙ faulty_there _ _ (no_word c.in_err-last.ensures.cases)

pub loop-w-init : goal.loop-w-init
loop-w-init c = search surveying_begins

pub returns-in_err-s : goal.returns-in_err-s
returns-in_err-s c =
    c.from_residual-in_err-s.ensures ∙ faulty_there _ _ (unfit_here _ _ c.loop-w.invariant c.in_ok-last.ensures.cases.0 c.loop-w-test.true c.note.ensures c.in_err-s.was)

pub loop-w-preserved : goal.loop-w-preserved
loop-w-preserved c =
    let i = c.loop-w.invariant in
    let o = c.in_ok-last.ensures.cases.0 in
    let l = c.loop-w-test.true in
    elim c.if-w-lt-REGISTER.branch [
      | then-w-lt-REGISTER w ↦
          rw w.bits-is (surveying_atom _ _ i o l c.note.ensures c.in_ok-s.was w.if-w-lt-REGISTER.true w.bits_with-bits.ensures)
      | else-w-lt-REGISTER w ↦ rw w.bits-is (surveying_another _ _ i o l c.note.ensures c.in_ok-s.was w.if-w-lt-REGISTER.false)
    ]

pub returns-then-not-ended : goal.returns-then-not-ended
returns-then-not-ended c =
    let i = c.loop-w.invariant in
    let o = c.in_ok-last.ensures.cases.0 in
    faulty_there _ _
    (elim c.then-not-ended.branch [
      | then-not-ended-via-then-not-ended w ↦ unended _ _ i o c.loop-w-test.false c.loop-w.auto.w-index-end c.ended.ensures w.if-not-ended.true
      | then-not-ended-via-else-not-ended+then-s w ↦
          register_missing _ _ i o c.loop-w-test.false c.loop-w.auto.w-index-end c.ended.ensures w.if-not-ended.false w.if-s.true
    ])

pub returns : goal.returns
returns c =
    whole_there _ _ c.loop-w.invariant c.in_ok-last.ensures.cases.0 c.loop-w-test.false c.loop-w.auto.w-index-end c.ended.ensures c.if-not-ended.false c.if-s.false
