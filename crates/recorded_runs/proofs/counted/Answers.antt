-- The loop counts b, and sets the ends as it passes them.
use Rattle.std.proofs.Common.{arith, ◌≡◌, ◌||◌, true, false}
use Rattle.recorded_runs.proofs.Counting.{counting_begins, counting_adds, counting_waits, counting_on, counting_stops}
use Rattle.recorded_runs.proofs.counted.Goals as goal
use Rattle.recorded_runs.proofs.counted.Goals.{then-seen-count-2+then-goes_on, then-here, else-here, else-seen-count-2, else-seen-count-2-via-then-seen-count-2+else-goes_on, else-seen-count-2-via-else-seen-count-2}

pub loop-tick-init : goal.loop-tick-init
loop-tick-init c = search counting_begins

pub returns-then-seen-count : goal.returns-then-seen-count
returns-then-seen-count c = search counting_stops

pub loop-tick-preserved : goal.loop-tick-preserved
loop-tick-preserved c =
    elim c.if-seen-count-2.branch [
      | then-seen-count-2+then-goes_on w ↦
          let ends : (c.holds-here.result || c.args.goes_on) ≡ true = elim w.if-here.branch [ then-here v ↦ grind arith | else-here v ↦ grind arith ] in
          rw w.row-is (search counting_adds)
      | else-seen-count-2 w ↦ rw w.row-is (elim w.else-seen-count-2.branch [
        | else-seen-count-2-via-then-seen-count-2+else-goes_on v ↦
            let waits : (c.holds-here.result || c.args.goes_on) ≡ false = elim v.if-here.branch [ then-here u ↦ grind arith | else-here u ↦ grind arith ] in
            search counting_waits
        | else-seen-count-2-via-else-seen-count-2 v ↦ search counting_on
      ])
    ]
