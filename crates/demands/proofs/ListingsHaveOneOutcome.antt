-- One outcome: what reads a listing, the tick, the stretch and its reader.
use mathlib.Core.Path.{◌≡◌, sym, ap, ◌∙◌}
use mathlib.Core.List.{List}
use Prim.Native.Nat.{ℕ}
use seplogic.Ra.Ura.{Ura}
use base.Logic.{SProp}
use prog.Memory.{Memory}
use prog.Routine.{Routine}
use types.Logic.{Logic}
use contract.Monad.{Fun}
use denote.Ref.{Bor}
use Rattle.meaning.specs.Tick.{next_after, stack_left}
use Rattle.tick.specs.Stepped.{Stepped}
use Rattle.stretch.specs.declared.Reader.{Reader}
use Rattle.listing.specs.contracts.row as row
use Rattle.listing.specs.contracts.is_store as is_store
use Rattle.listing.specs.contracts.moved as moved
use Rattle.listing.specs.contracts.note as note
use Rattle.listing.specs.contracts.ended as ended
use Rattle.listing.specs.contracts.checked as checked
use Rattle.listing.specs.contracts.deepest as deepest
use Rattle.tick.specs.contracts.tick as tick
use Rattle.stretch.specs.contracts.Reader.new as reader_new
use Rattle.stretch.specs.contracts.Reader.at_another as reader_at_another
use Rattle.stretch.specs.contracts.Reader.next as reader_next
use Rattle.stretch.specs.contracts.Reader.assignment as reader_assignment
use Rattle.stretch.specs.contracts.stretch as stretch
use Rattle.stretch.specs.contracts.start as start
use Rattle.demands.specs.OneOutcome.{OneOutcomeUpTo, OneOutcome}
use Rattle.demands.proofs.OneOutcome.{same_result, same_outcome_of_two, same, from_both, by_an_equation}
use Rattle.std.specs.Prelude.{Result}
use Rattle.meaning.specs.declared.refusal.TickRefusal.{TickRefusal}

-- A tick: the answer is an equation, and what the two slices hold follows from the answer.
module _ {ws cur atoms next next₁ next₂ stack stack₁ stack₂ : List ℕ} {answer answer' : Result ℕ TickRefusal}
    (p : Stepped ws cur atoms next next₁ stack stack₁ answer) (p' : Stepped ws cur atoms next next₂ stack stack₂ answer') where
  steps_to_one_answer : answer ≡ answer'
  steps_to_one_answer = same p.answer p'.answer

  steps_to_one_next : next₁ ≡ next₂
  steps_to_one_next = p.next_holds ∙ ap (λ (r : Result ℕ TickRefusal). next_after r ws cur atoms next) steps_to_one_answer ∙ sym p'.next_holds

  steps_to_one_stack : stack₁ ≡ stack₂
  steps_to_one_stack = p.stack_holds ∙ ap (λ (r : Result ℕ TickRefusal). stack_left r stack) steps_to_one_answer ∙ sym p'.stack_holds

-- A reader is what it holds and where it stands.
same_reader : {r r' : Reader} {listing : Bor (List ℕ)} {place : ℕ}
    → (r.listing ≡ listing) × (r.at ≡ place) → (r'.listing ≡ listing) × (r'.at ≡ place) → r ≡ r'
same_reader p p' i = record { listing = same p.0 p'.0 i; at = same p.1 p'.1 i }

module _ {M : Type 1} {𝓤 : Ura M} (𝓛 : Logic 𝓤) (mem : Memory → SProp 𝓤) (run : Routine → Fun 𝓤) where
  -- The table of fourteen rows, the check and its step, and the deepest stack.
  pub listing_row_has_one_outcome : OneOutcome 𝓤 row.ended (row.clauses 𝓛 mem run)
  listing_row_has_one_outcome κs a g o o' = by_an_equation 𝓤

  pub listing_is_store_has_one_outcome : OneOutcome 𝓤 is_store.ended (is_store.clauses 𝓛 mem run)
  listing_is_store_has_one_outcome κs a g o o' = by_an_equation 𝓤

  pub listing_moved_has_one_outcome : OneOutcome 𝓤 moved.ended (moved.clauses 𝓛 mem run)
  listing_moved_has_one_outcome κs a g o o' = by_an_equation 𝓤

  pub listing_note_has_one_outcome : OneOutcome 𝓤 note.ended (note.clauses 𝓛 mem run)
  listing_note_has_one_outcome κs a g o o' = by_an_equation 𝓤

  pub listing_ended_has_one_outcome : OneOutcome 𝓤 ended.ended (ended.clauses 𝓛 mem run)
  listing_ended_has_one_outcome κs a g o o' = by_an_equation 𝓤

  pub listing_checked_has_one_outcome : OneOutcome 𝓤 checked.ended (checked.clauses 𝓛 mem run)
  listing_checked_has_one_outcome κs a g o o' = by_an_equation 𝓤

  pub listing_deepest_has_one_outcome : OneOutcome 𝓤 deepest.ended (deepest.clauses 𝓛 mem run)
  listing_deepest_has_one_outcome κs a g o o' = by_an_equation 𝓤

  -- A tick.
  pub tick_has_one_outcome : OneOutcome 𝓤 tick.ended (tick.clauses 𝓛 mem run)
  tick_has_one_outcome κs a g o o' =
      from_both 𝓤 (λ p p'. same_outcome_of_two (λ next stack. (tt, (tt, (tt, (next, (stack, tt)))))) (steps_to_one_answer p p') (steps_to_one_next p p') (steps_to_one_stack p p'))

  -- The words that drive a register. A part that is handed back is told by its words; where it stands in memory is left open.
  pub stretch_reader_new_has_one_outcome : OneOutcome 𝓤 reader_new.ended (reader_new.clauses 𝓛 mem run)
  stretch_reader_new_has_one_outcome κs a g o o' = from_both 𝓤 (λ p p'. same_result (same_reader p p'))

  pub stretch_reader_at_another_has_one_outcome : OneOutcome 𝓤 reader_at_another.ended (reader_at_another.clauses 𝓛 mem run)
  stretch_reader_at_another_has_one_outcome κs a g o o' = by_an_equation 𝓤

  pub stretch_reader_next_has_one_outcome : OneOutcome 𝓤 reader_next.ended (reader_next.clauses 𝓛 mem run)
  stretch_reader_next_has_one_outcome κs a g o o' = from_both 𝓤 (λ p p'. same_result (same_reader p p'))

  pub stretch_reader_assignment_has_one_outcome :
      OneOutcomeUpTo 𝓤 reader_assignment.ended (reader_assignment.clauses 𝓛 mem run) (λ κs a o o'. o.result.now ≡ o'.result.now)
  stretch_reader_assignment_has_one_outcome κs a g o o' = from_both 𝓤 same

  pub stretch_has_one_outcome : OneOutcomeUpTo 𝓤 stretch.ended (stretch.clauses 𝓛 mem run) (λ κs a o o'. o.result.now ≡ o'.result.now)
  stretch_has_one_outcome κs a g o o' = from_both 𝓤 same

  pub stretch_start_has_one_outcome : OneOutcome 𝓤 start.ended (start.clauses 𝓛 mem run)
  stretch_start_has_one_outcome κs a g o o' = by_an_equation 𝓤
