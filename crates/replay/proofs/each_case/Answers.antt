-- A line that is skipped, a name, and a case, for which the step is taken; and the end of the text.
use Rattle.std.proofs.Common.{refl, sym, rules, of_calls}
use Rattle.replay.proofs.Laws.{skipped_line, name_line, case_line, none_left}
use Rattle.replay.proofs.each_case.Goals as goal
use Rattle.replay.proofs.each_case.Goals.{then-named, else-named}

pub loop-from-preserved-then-skipped : goal.loop-from-preserved-then-skipped
loop-from-preserved-then-skipped g c =
    (c.loop-from.invariant.0, λ last f. c.loop-from.invariant.1 last (rw (skipped_line _ _ _ c.until-end.ensures.value _ (sym c.if-skipped.ensures)) f))

pub loop-from-preserved : goal.loop-from-preserved
loop-from-preserved g c =
    elim c.if-named.branch [
      | then-named w ↦ (
        search (rules, of_calls),
        λ last f.
            c.loop-from.invariant.1 last
            (rw (case_line _ _ _ c.until-end.ensures.value w.if-named.true (sym c.if-skipped.ensures))
            (w.step.new.self, record { shown = _; shows = refl; called = w.step.ensures }, rw (← w.step-is) f)),
      )
      | else-named w ↦ (
        search (rules, of_calls),
        λ last f.
            c.loop-from.invariant.1 last
            (rw (name_line _ _ _ c.until-end.ensures.value w.if-named.false (sym c.if-skipped.ensures)) (rw (← w.step-is) f)),
      )
    ]

pub returns : goal.returns
returns g c = (c.loop-from.step, c.loop-from.invariant.1 _ (rw (none_left _ _ _ c.loop-from-test.false) refl))
