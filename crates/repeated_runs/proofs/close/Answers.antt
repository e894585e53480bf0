-- The loop adds what is reached from one point of the row after another.
use Rattle.std.proofs.Common.{◌≤◌, arith}
use Rattle.repeated_runs.proofs.Closing.{closing_begins, closing_on, closing_past, closing_ends}
use Rattle.runs.specs.Ends.{Gains, In}
use Rattle.runs.proofs.Laws.{gains_as}
use Rattle.repeated_runs.proofs.close.Goals as goal
use Rattle.repeated_runs.proofs.close.Goals.{then-row-k-eq1, else-row-k-eq1}

pub loop-k-init : goal.loop-k-init
loop-k-init c = search closing_begins

pub loop-k-preserved : goal.loop-k-preserved
loop-k-preserved c =
    elim c.if-row-k-eq1.branch [
      | then-row-k-eq1 w ↦
          let added : Gains c.loop-k.row w.add_ends.new.to (λ j. (c.loop-k.k ≤ j) × In w.row.result.now j) =
          gains_as (λ j h. ((λ (l, x). (omega (arith, l), x)), (λ (l, x). (omega (arith, l), x)))) w.add_ends.ensures in
          rw w.row-is (search closing_on)
      | else-row-k-eq1 w ↦ rw w.row-is (search closing_past)
    ]

pub returns : goal.returns
returns c = search closing_ends
