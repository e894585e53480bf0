-- The loop adds the counts below the copies that were made. After it only the row of ends is left to add, whichever way it was left: as it
-- is, or closed.
use Rattle.repeated_runs.proofs.Repeating.{Made, Lacking, repeating_begins, repeating_on, repeating_settles, repeating_ends, last_lacking, closed_lacking}
use Rattle.repeated_runs.proofs.repeated.Goals as goal
use Rattle.repeated_runs.proofs.repeated.Goals.{else-loop-copies-test, then-loop-copies-test+then-eq, then-side-max, else-side-max}

pub loop-copies-init : goal.loop-copies-init
loop-copies-init c = search repeating_begins

pub loop-copies-preserved : goal.loop-copies-preserved
loop-copies-preserved c = search repeating_on

pub returns : goal.returns
returns c =
    let a = c.args in
    let made : Made a.table c.min-low.result c.last-high.result a.i a.row.now c.loop-copies-test.row c.loop-copies.ends =
    elim c.loop-copies-test.branch [
      | else-loop-copies-test w ↦ rw w.row-is (search repeating_ends)
      | then-loop-copies-test+then-eq w ↦ rw w.row-is (search repeating_settles)
    ]
    in
    let lacking : Lacking a.table a.min a.max a.i a.row.now c.loop-copies-test.row c.if-side-max.ends =
    elim c.if-side-max.branch [ then-side-max w ↦ search (closed_lacking, made) | else-side-max w ↦ search (last_lacking, made) ]
    in
    lacking.rest c.add_ends.ensures
