-- One outcome: the correction of a camera's bad pixels, the camera's sensor and the frame that is watched. Of a step the contract says how many entries are reached by what is ahead
-- and behind; that fixes the number.
use mathlib.Core.Path.{◌≡◌, ap₂}
use mathlib.Core.List.{List}
use Prim.Native.Nat.{ℕ}
use seplogic.Ra.Ura.{Ura}
use base.Logic.{SProp}
use prog.Memory.{Memory}
use prog.Routine.{Routine}
use types.Logic.{Logic}
use contract.Monad.{Fun}
use Rattle.correction.specs.Rows.{Stepped}
use Rattle.correction.specs.declared.Leaving.{Leaving}
use Rattle.correction.specs.declared.Output.{Output}
use Rattle.correction.proofs.MapLaws.{reached_once}
use Rattle.correction.specs.contracts.entry_of as entry_of
use Rattle.correction.specs.contracts.row_of as row_of
use Rattle.correction.specs.contracts.column_of as column_of
use Rattle.correction.specs.contracts.in_order as in_order
use Rattle.correction.specs.contracts.mean as mean
use Rattle.correction.specs.contracts.step as step
use Rattle.sensor.specs.contracts.defective as defective
use Rattle.sensor.specs.contracts.read as read
use Rattle.sensor.specs.contracts.hot as hot
use Rattle.sensor.specs.contracts.expected as expected
use Rattle.sensor.specs.contracts.load as load
use Rattle.frame.specs.contracts.watched as watched
use Rattle.demands.specs.OneOutcome.{OneOutcome}
use Rattle.demands.proofs.OneOutcome.{same_outcome, same, from_both, by_an_equation, by_writing_and_a_bound}

-- What a step gives out.
steps_to_one_output : {map before after after' : List ℕ} {tick pixel : ℕ} {given given' : Output}
    → Stepped map before after tick pixel given → Stepped map before after' tick pixel given' → given ≡ given'
steps_to_one_output p p' =
    ap₂ (λ (l : Leaving) (r : ℕ). record { leaving = l; reached = r }) (same p.leaves p'.leaves) (reached_once p.reaches p'.reaches)

module _ {M : Type 1} {𝓤 : Ura M} (𝓛 : Logic 𝓤) (mem : Memory → SProp 𝓤) (run : Routine → Fun 𝓤) where
  pub correction_entry_of_has_one_outcome : OneOutcome 𝓤 entry_of.ended (entry_of.clauses 𝓛 mem run)
  correction_entry_of_has_one_outcome κs a g o o' = by_an_equation 𝓤

  pub correction_row_of_has_one_outcome : OneOutcome 𝓤 row_of.ended (row_of.clauses 𝓛 mem run)
  correction_row_of_has_one_outcome κs a g o o' = by_an_equation 𝓤

  pub correction_column_of_has_one_outcome : OneOutcome 𝓤 column_of.ended (column_of.clauses 𝓛 mem run)
  correction_column_of_has_one_outcome κs a g o o' = by_an_equation 𝓤

  pub correction_in_order_has_one_outcome : OneOutcome 𝓤 in_order.ended (in_order.clauses 𝓛 mem run)
  correction_in_order_has_one_outcome κs a g o o' = by_an_equation 𝓤

  pub correction_mean_has_one_outcome : OneOutcome 𝓤 mean.ended (mean.clauses 𝓛 mem run)
  correction_mean_has_one_outcome κs a g o o' = by_an_equation 𝓤

  pub correction_step_has_one_outcome : OneOutcome 𝓤 step.ended (step.clauses 𝓛 mem run)
  correction_step_has_one_outcome κs a g o o' =
      from_both 𝓤 (λ p p'. same_outcome (λ rows. (tt, (rows, (tt, (tt, (tt, tt)))))) (steps_to_one_output p p') (same p.keeps p'.keeps))

  pub sensor_defective_has_one_outcome : OneOutcome 𝓤 defective.ended (defective.clauses 𝓛 mem run)
  sensor_defective_has_one_outcome κs a g o o' = by_an_equation 𝓤

  pub sensor_read_has_one_outcome : OneOutcome 𝓤 read.ended (read.clauses 𝓛 mem run)
  sensor_read_has_one_outcome κs a g o o' = by_an_equation 𝓤

  pub sensor_hot_has_one_outcome : OneOutcome 𝓤 hot.ended (hot.clauses 𝓛 mem run)
  sensor_hot_has_one_outcome κs a g o o' = by_an_equation 𝓤

  pub sensor_expected_has_one_outcome : OneOutcome 𝓤 expected.ended (expected.clauses 𝓛 mem run)
  sensor_expected_has_one_outcome κs a g o o' = by_an_equation 𝓤

  pub sensor_load_has_one_outcome : OneOutcome 𝓤 load.ended (load.clauses 𝓛 mem run)
  sensor_load_has_one_outcome κs a g o o' = by_writing_and_a_bound 𝓤 (λ map. (tt, (map, tt)))

  pub frame_watched_has_one_outcome : OneOutcome 𝓤 watched.ended (watched.clauses 𝓛 mem run)
  frame_watched_has_one_outcome κs a g o o' = by_an_equation 𝓤
