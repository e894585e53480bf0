-- One outcome: what a step adds to the text, the current expression of an alternative, its machines, its stores and its sizes, and all of it of an
-- alternative that is kept.
use mathlib.Core.Path.{◌≡◌}
use mathlib.Core.List.{List}
use Prim.Native.Nat.{ℕ}
use seplogic.Ra.Ura.{Ura}
use base.Logic.{SProp}
use prog.Memory.{Memory}
use prog.Routine.{Routine}
use types.Logic.{Logic}
use contract.Monad.{Fun}
use Rattle.meaning.specs.Alternative.{SeqAlt}
use Rattle.term.specs.declared.Kept.{Kept}
use Rattle.term.specs.Keeping.{steps_of, guard_of}
use Rattle.alternative.specs.Keeping.{Keeps}
use Rattle.step_text.specs.contracts.is_empty as is_empty
use Rattle.step_text.specs.contracts.reach as reach
use Rattle.step_text.specs.contracts.at_least_one as at_least_one
use Rattle.step_text.specs.contracts.hop_registers as hop_registers
use Rattle.step_text.specs.contracts.term_registers as term_registers
use Rattle.step_text.specs.contracts.term_register as term_register
use Rattle.step_text.specs.contracts.hop_keeps as hop_keeps
use Rattle.step_text.specs.contracts.term_keeps as term_keeps
use Rattle.step_text.specs.contracts.hop_prefix as hop_prefix
use Rattle.step_text.specs.contracts.hop_suffix as hop_suffix
use Rattle.step_text.specs.contracts.hop_base as hop_base
use Rattle.step_text.specs.contracts.term_prefix as term_prefix
use Rattle.step_text.specs.contracts.term_suffix as term_suffix
use Rattle.step_text.specs.contracts.term_base as term_base
use Rattle.step_text.specs.contracts.first as first
use Rattle.step_text.specs.contracts.step_prefix as step_prefix
use Rattle.step_text.specs.contracts.step_suffix as step_suffix
use Rattle.step_text.specs.contracts.step_base as step_base
use Rattle.current.specs.contracts.registers_at as registers_at
use Rattle.current.specs.contracts.register_after as register-after
use Rattle.current.specs.contracts.current as current
use Rattle.current.specs.contracts.before as before
use Rattle.current.specs.contracts.activation as activation
use Rattle.fsm.specs.contracts.apply_term as apply_term
use Rattle.pipeline.specs.contracts.delays as pipeline_delays
use Rattle.pipeline.specs.contracts.stores as stores
use Rattle.pipeline.specs.contracts.steps_fit as steps_fit
use Rattle.pipeline.specs.contracts.registers as pipeline_registers
use Rattle.sizes.specs.contracts.delays as sizes_delays
use Rattle.sizes.specs.contracts.SizeAdd.add as sizes_add
use Rattle.sizes.specs.contracts.sizes as sizes
use Rattle.alternative.specs.contracts.keep as keep
use Rattle.alternative.specs.contracts.registers as alternative-registers
use Rattle.alternative.specs.contracts.next_register as next_register
use Rattle.alternative.specs.contracts.text as text
use Rattle.alternative.specs.contracts.size as size
use Rattle.demands.specs.OneOutcome.{OneOutcomeUpTo, OneOutcome}
use Rattle.demands.proofs.OneOutcome.{same, from_both, by_an_equation, by_an_equation_and_a_bound, by_writing}

-- Keeping: the steps, the guard's words and the first register are the alternative's own.
abbrev SameKept : List ℕ → Kept → List ℕ → Kept → Type 0
SameKept work a work' a' = (steps_of work a ≡ steps_of work' a') × (guard_of work a ≡ guard_of work' a') × (a.register ≡ a'.register)

keeps_one_alternative : {y : SeqAlt} {r at : ℕ} {before after after' : List ℕ} {a a' : Kept} → Keeps y r before after at a → Keeps y r before after' at a' → SameKept after a after' a'
keeps_one_alternative p p' =
    (same p.holds.steps p'.holds.steps, same p.holds.guard p'.holds.guard, same p.holds.register p'.holds.register)

module _ {M : Type 1} {𝓤 : Ura M} (𝓛 : Logic 𝓤) (mem : Memory → SProp 𝓤) (run : Routine → Fun 𝓤) where
  -- What one step adds to the text.
  pub step_text_is_empty_has_one_outcome : OneOutcome 𝓤 is_empty.ended (is_empty.clauses 𝓛 mem run)
  step_text_is_empty_has_one_outcome κs a g o o' = by_an_equation 𝓤

  pub step_text_reach_has_one_outcome : OneOutcome 𝓤 reach.ended (reach.clauses 𝓛 mem run)
  step_text_reach_has_one_outcome κs a g o o' = by_an_equation 𝓤

  pub step_text_at_least_one_has_one_outcome : OneOutcome 𝓤 at_least_one.ended (at_least_one.clauses 𝓛 mem run)
  step_text_at_least_one_has_one_outcome κs a g o o' = by_an_equation 𝓤

  pub step_text_hop_registers_has_one_outcome : OneOutcome 𝓤 hop_registers.ended (hop_registers.clauses 𝓛 mem run)
  step_text_hop_registers_has_one_outcome κs a g o o' = by_an_equation_and_a_bound 𝓤

  pub step_text_term_registers_has_one_outcome : OneOutcome 𝓤 term_registers.ended (term_registers.clauses 𝓛 mem run)
  step_text_term_registers_has_one_outcome κs a g o o' = by_an_equation_and_a_bound 𝓤

  pub step_text_term_register_has_one_outcome : OneOutcome 𝓤 term_register.ended (term_register.clauses 𝓛 mem run)
  step_text_term_register_has_one_outcome κs a g o o' = by_an_equation 𝓤

  pub step_text_hop_keeps_has_one_outcome : OneOutcome 𝓤 hop_keeps.ended (hop_keeps.clauses 𝓛 mem run)
  step_text_hop_keeps_has_one_outcome κs a g o o' = by_an_equation 𝓤

  pub step_text_term_keeps_has_one_outcome : OneOutcome 𝓤 term_keeps.ended (term_keeps.clauses 𝓛 mem run)
  step_text_term_keeps_has_one_outcome κs a g o o' = by_an_equation 𝓤

  pub step_text_hop_prefix_has_one_outcome : OneOutcome 𝓤 hop_prefix.ended (hop_prefix.clauses 𝓛 mem run)
  step_text_hop_prefix_has_one_outcome κs a g o o' = by_writing 𝓤 (λ out. (tt, (tt, (out, (tt, tt)))))

  pub step_text_hop_suffix_has_one_outcome : OneOutcome 𝓤 hop_suffix.ended (hop_suffix.clauses 𝓛 mem run)
  step_text_hop_suffix_has_one_outcome κs a g o o' = by_writing 𝓤 (λ out. (tt, (out, (tt, tt))))

  pub step_text_hop_base_has_one_outcome : OneOutcome 𝓤 hop_base.ended (hop_base.clauses 𝓛 mem run)
  step_text_hop_base_has_one_outcome κs a g o o' = by_writing 𝓤 (λ out. (tt, (tt, (tt, (out, (tt, tt))))))

  pub step_text_term_prefix_has_one_outcome : OneOutcome 𝓤 term_prefix.ended (term_prefix.clauses 𝓛 mem run)
  step_text_term_prefix_has_one_outcome κs a g o o' = by_writing 𝓤 (λ out. (tt, (tt, (out, (tt, tt)))))

  pub step_text_term_suffix_has_one_outcome : OneOutcome 𝓤 term_suffix.ended (term_suffix.clauses 𝓛 mem run)
  step_text_term_suffix_has_one_outcome κs a g o o' = by_writing 𝓤 (λ out. (tt, (tt, (out, (tt, tt)))))

  pub step_text_term_base_has_one_outcome : OneOutcome 𝓤 term_base.ended (term_base.clauses 𝓛 mem run)
  step_text_term_base_has_one_outcome κs a g o o' = by_writing 𝓤 (λ out. (tt, (tt, (out, (tt, tt)))))

  pub step_text_first_has_one_outcome : OneOutcome 𝓤 first.ended (first.clauses 𝓛 mem run)
  step_text_first_has_one_outcome κs a g o o' = by_writing 𝓤 (λ out. (tt, (tt, (tt, (out, (tt, tt))))))

  pub step_text_step_prefix_has_one_outcome : OneOutcome 𝓤 step_prefix.ended (step_prefix.clauses 𝓛 mem run)
  step_text_step_prefix_has_one_outcome κs a g o o' = by_writing 𝓤 (λ out. (tt, (tt, (out, (tt, tt)))))

  pub step_text_step_suffix_has_one_outcome : OneOutcome 𝓤 step_suffix.ended (step_suffix.clauses 𝓛 mem run)
  step_text_step_suffix_has_one_outcome κs a g o o' = by_writing 𝓤 (λ out. (tt, (tt, (out, (tt, tt)))))

  pub step_text_step_base_has_one_outcome : OneOutcome 𝓤 step_base.ended (step_base.clauses 𝓛 mem run)
  step_text_step_base_has_one_outcome κs a g o o' = by_writing 𝓤 (λ out. (tt, (tt, (tt, (out, (tt, tt))))))

  -- The current expression.
  pub current_registers_at_has_one_outcome : OneOutcome 𝓤 registers_at.ended (registers_at.clauses 𝓛 mem run)
  current_registers_at_has_one_outcome κs a g o o' = by_an_equation_and_a_bound 𝓤

  pub current_register_after_has_one_outcome : OneOutcome 𝓤 register-after.ended (register-after.clauses 𝓛 mem run)
  current_register_after_has_one_outcome κs a g o o' = by_an_equation 𝓤

  pub current_has_one_outcome : OneOutcome 𝓤 current.ended (current.clauses 𝓛 mem run)
  current_has_one_outcome κs a g o o' = by_writing 𝓤 (λ out. (tt, (tt, (tt, (out, (tt, tt))))))

  pub current_before_has_one_outcome : OneOutcome 𝓤 before.ended (before.clauses 𝓛 mem run)
  current_before_has_one_outcome κs a g o o' = by_writing 𝓤 (λ out. (tt, (tt, (tt, (out, (tt, tt))))))

  pub current_activation_has_one_outcome : OneOutcome 𝓤 activation.ended (activation.clauses 𝓛 mem run)
  current_activation_has_one_outcome κs a g o o' = by_writing 𝓤 (λ out. (tt, (tt, (tt, (out, (tt, tt))))))

  -- The machines.
  pub fsm_apply_term_has_one_outcome : OneOutcome 𝓤 apply_term.ended (apply_term.clauses 𝓛 mem run)
  fsm_apply_term_has_one_outcome κs a g o o' = by_writing 𝓤 (λ out. (tt, (tt, (tt, (tt, (tt, (out, (tt, tt))))))))

  -- The stores of an alternative.
  pub pipeline_delays_has_one_outcome : OneOutcome 𝓤 pipeline_delays.ended (pipeline_delays.clauses 𝓛 mem run)
  pipeline_delays_has_one_outcome κs a g o o' = by_writing 𝓤 (λ out. (tt, (tt, (tt, (out, (tt, tt))))))

  pub pipeline_stores_has_one_outcome : OneOutcome 𝓤 stores.ended (stores.clauses 𝓛 mem run)
  pipeline_stores_has_one_outcome κs a g o o' = by_writing 𝓤 (λ out. (tt, (out, (tt, tt))))

  pub pipeline_steps_fit_has_one_outcome : OneOutcome 𝓤 steps_fit.ended (steps_fit.clauses 𝓛 mem run)
  pipeline_steps_fit_has_one_outcome κs a g o o' = by_an_equation 𝓤

  pub pipeline_registers_has_one_outcome : OneOutcome 𝓤 pipeline_registers.ended (pipeline_registers.clauses 𝓛 mem run)
  pipeline_registers_has_one_outcome κs a g o o' = by_an_equation_and_a_bound 𝓤

  -- Sizes.
  pub sizes_delays_has_one_outcome : OneOutcome 𝓤 sizes_delays.ended (sizes_delays.clauses 𝓛 mem run)
  sizes_delays_has_one_outcome κs a g o o' = by_an_equation 𝓤

  pub sizes_has_one_outcome : OneOutcome 𝓤 sizes.ended (sizes.clauses 𝓛 mem run)
  sizes_has_one_outcome κs a g o o' = by_an_equation 𝓤

  pub sizes_add_has_one_outcome : OneOutcome 𝓤 sizes_add.ended (sizes_add.clauses 𝓛 mem run)
  sizes_add_has_one_outcome κs a g o o' = by_an_equation 𝓤

  -- An alternative that is kept in work. Where its guard stands, and what work holds behind it, is left open.
  pub alternative_keep_has_one_outcome :
      OneOutcomeUpTo 𝓤 keep.ended (keep.clauses 𝓛 mem run) (λ κs a o o'. SameKept o.left.1.1.1.1.1.0 o.result o'.left.1.1.1.1.1.0 o'.result)
  alternative_keep_has_one_outcome κs a g o o' = from_both 𝓤 keeps_one_alternative

  pub alternative_registers_has_one_outcome : OneOutcome 𝓤 alternative-registers.ended (alternative-registers.clauses 𝓛 mem run)
  alternative_registers_has_one_outcome κs a g o o' = by_an_equation_and_a_bound 𝓤

  pub alternative_next_register_has_one_outcome : OneOutcome 𝓤 next_register.ended (next_register.clauses 𝓛 mem run)
  alternative_next_register_has_one_outcome κs a g o o' = by_an_equation 𝓤

  pub alternative_text_has_one_outcome : OneOutcome 𝓤 text.ended (text.clauses 𝓛 mem run)
  alternative_text_has_one_outcome κs a g o o' = by_writing 𝓤 (λ out. (tt, (tt, (out, (tt, tt)))))

  pub alternative_size_has_one_outcome : OneOutcome 𝓤 size.ended (size.clauses 𝓛 mem run)
  alternative_size_has_one_outcome κs a g o o' = by_an_equation_and_a_bound 𝓤
