-- One outcome: the choice at a root, the pairs of a within, and lowering itself.
use mathlib.Core.Path.{◌≡◌, sym, ap, ◌∙◌}
use mathlib.Core.List.{List}
use Prim.Native.Nat.{ℕ}
use seplogic.Ra.Ura.{Ura}
use base.Logic.{SProp}
use prog.Memory.{Memory}
use prog.Routine.{Routine}
use types.Logic.{Logic}
use contract.Monad.{Fun}
use Rattle.meaning.specs.Lower.{output_after}
use Rattle.pair.specs.declared.Mark.{Mark}
use Rattle.pair.specs.Pairs.{Marked}
use Rattle.lower.specs.Answers.{Lowers}
use Rattle.choice.specs.contracts.surveyed as surveyed
use Rattle.choice.specs.contracts.word_count as choice_word_count
use Rattle.choice.specs.contracts.write as choice_write
use Rattle.pair.specs.contracts.window_len as window_len
use Rattle.pair.specs.contracts.registers as pair_registers
use Rattle.pair.specs.contracts.stores as stores
use Rattle.pair.specs.contracts.text as text
use Rattle.pair.specs.contracts.size as size
use Rattle.within.specs.contracts.registers as within_registers
use Rattle.within.specs.contracts.word_count as within_word_count
use Rattle.within.specs.contracts.write as within_write
use Rattle.lower.specs.contracts.lower_from as lower-from
use Rattle.lower.specs.contracts.lower as lower
use Rattle.demands.specs.OneOutcome.{OneOutcomeUpTo, OneOutcome, OneResult}
use Rattle.demands.proofs.OneOutcome.{same_outcome, same_outcome_of_two, same, from_both, by_an_equation_and_a_bound}
use Rattle.std.specs.Prelude.{Result}
use Rattle.meaning.specs.declared.Listing.{Listing}
use Rattle.meaning.specs.declared.refusal.Refusal.{Refusal}

-- A pair: where the next one goes on is a place and a register, and what stands before are the words written.
module _ {before after after' words : List ℕ} {place register : ℕ} {m m' : Mark}
    (p : Marked before after place m words register) (p' : Marked before after' place m' words register) where
  leaves_one_mark : m ≡ m'
  leaves_one_mark i = record { place = same p.wrote.ends p'.wrote.ends i; register = same p.next p'.next i }

  leaves_one_output : after ≡ after'
  leaves_one_output = same p.wrote.holds p'.wrote.holds

-- Lowering: the answer is an equation, and the output follows from the answer.
module _ {tree : List ℕ} {first : ℕ} {work out : List ℕ} {answer answer' : Result Listing Refusal} {work₁ out₁ work₂ out₂ : List ℕ}
    (p : Lowers tree first work out answer work₁ out₁) (p' : Lowers tree first work out answer' work₂ out₂) where
  lowers_to_one_answer : answer ≡ answer'
  lowers_to_one_answer = same p.answers p'.answers

  lowers_to_one_output : out₁ ≡ out₂
  lowers_to_one_output = p.holds ∙ ap (λ (r : Result Listing Refusal). output_after r tree first out) lowers_to_one_answer ∙ sym p'.holds

  lowers_to_one_work : work₁ ≡ work₂
  lowers_to_one_work = same p.cleared p'.cleared

module _ {M : Type 1} {𝓤 : Ura M} (𝓛 : Logic 𝓤) (mem : Memory → SProp 𝓤) (run : Routine → Fun 𝓤) where
  -- The choice at a root that is no within. What `work` holds afterwards is left open: it is scratch, which `lower` clears.
  pub choice_surveyed_has_one_outcome : OneResult 𝓤 surveyed.ended (surveyed.clauses 𝓛 mem run)
  choice_surveyed_has_one_outcome κs a g o o' = from_both 𝓤 same

  pub choice_word_count_has_one_outcome : OneResult 𝓤 choice_word_count.ended (choice_word_count.clauses 𝓛 mem run)
  choice_word_count_has_one_outcome κs a g o o' = from_both 𝓤 same

  pub choice_write_has_one_outcome :
      OneOutcomeUpTo 𝓤 choice_write.ended (choice_write.clauses 𝓛 mem run)
      (λ κs a o o'. (o.result ≡ o'.result) × (o.left.1.1.1.1.1.0 ≡ o'.left.1.1.1.1.1.0))
  choice_write_has_one_outcome κs a g o o' = from_both 𝓤 (λ w w'. (same w.ends w'.ends, same w.holds w'.holds))

  -- One pair of windows.
  pub pair_window_len_has_one_outcome : OneOutcome 𝓤 window_len.ended (window_len.clauses 𝓛 mem run)
  pair_window_len_has_one_outcome κs a g o o' = by_an_equation_and_a_bound 𝓤

  pub pair_registers_has_one_outcome : OneOutcome 𝓤 pair_registers.ended (pair_registers.clauses 𝓛 mem run)
  pair_registers_has_one_outcome κs a g o o' = by_an_equation_and_a_bound 𝓤

  pub pair_stores_has_one_outcome : OneOutcome 𝓤 stores.ended (stores.clauses 𝓛 mem run)
  pair_stores_has_one_outcome κs a g o o' = from_both 𝓤 (λ p p'. same_outcome (λ out. (tt, (tt, (out, (tt, tt))))) (leaves_one_mark p p') (leaves_one_output p p'))

  pub pair_text_has_one_outcome : OneOutcome 𝓤 text.ended (text.clauses 𝓛 mem run)
  pair_text_has_one_outcome κs a g o o' = from_both 𝓤 (λ p p'. same_outcome (λ out. (tt, (tt, (tt, (tt, (out, (tt, tt))))))) (leaves_one_mark p p') (leaves_one_output p p'))

  pub pair_size_has_one_outcome : OneOutcome 𝓤 size.ended (size.clauses 𝓛 mem run)
  pair_size_has_one_outcome κs a g o o' = by_an_equation_and_a_bound 𝓤

  -- All pairs. What `work` holds afterwards is left open: it is scratch, which `lower` clears.
  pub within_registers_has_one_outcome : OneResult 𝓤 within_registers.ended (within_registers.clauses 𝓛 mem run)
  within_registers_has_one_outcome κs a g o o' = from_both 𝓤 same

  pub within_word_count_has_one_outcome : OneResult 𝓤 within_word_count.ended (within_word_count.clauses 𝓛 mem run)
  within_word_count_has_one_outcome κs a g o o' = from_both 𝓤 same

  pub within_write_has_one_outcome :
      OneOutcomeUpTo 𝓤 within_write.ended (within_write.clauses 𝓛 mem run)
      (λ κs a o o'. (o.result ≡ o'.result) × (o.left.1.1.1.1.1.1.0 ≡ o'.left.1.1.1.1.1.1.0))
  within_write_has_one_outcome κs a g o o' = from_both 𝓤 (λ w w'. (same w.ends w'.ends, same w.holds w'.holds))

  -- The whole lowering.
  pub lower_lower_from_has_one_outcome : OneOutcome 𝓤 lower-from.ended (lower-from.clauses 𝓛 mem run)
  lower_lower_from_has_one_outcome κs a g o o' =
      from_both 𝓤 (λ p p'. same_outcome_of_two (λ work out. (tt, (tt, (work, (out, tt))))) (lowers_to_one_answer p p') (lowers_to_one_work p p') (lowers_to_one_output p p'))

  pub lower_has_one_outcome : OneOutcome 𝓤 lower.ended (lower.clauses 𝓛 mem run)
  lower_has_one_outcome κs a g o o' =
      from_both 𝓤 (λ p p'. same_outcome_of_two (λ work out. (tt, (work, (out, tt)))) (lowers_to_one_answer p p') (lowers_to_one_work p p') (lowers_to_one_output p p'))
