-- One outcome: words put, copied and cleared, steps kept and read, trees checked and walked, their outlines, alternatives and guards.
use mathlib.Core.Path.{◌≡◌}
use seplogic.Ra.Ura.{Ura}
use base.Logic.{SProp}
use prog.Memory.{Memory}
use prog.Routine.{Routine}
use types.Logic.{Logic}
use contract.Monad.{Fun}
use denote.RattleType.{RattleType}
use mir.Syntax.{Dict}
use Rattle.std.specs.declared.clone.Clone.{Ghosts}
use Rattle.words.specs.contracts.put as put
use Rattle.words.specs.contracts.copied as copied
use Rattle.meaning.specs.contracts.refusal.Refusal.number as refusal_number
use Rattle.meaning.specs.contracts.refusal.Refusal.place as refusal_place
use Rattle.meaning.specs.contracts.refusal.TickRefusal.number as tick_refusal_number
use Rattle.meaning.specs.contracts.refusal.TickRefusal.place as tick_refusal_place
use Rattle.term.specs.contracts.store as store
use Rattle.term.specs.contracts.Alternative.step as step
use Rattle.term.specs.contracts.Alternative.guard as guard
use Rattle.tree.specs.contracts.read as read
use Rattle.tree.specs.contracts.columns as columns
use Rattle.tree.specs.contracts.is_atom as is_atom
use Rattle.tree.specs.contracts.checked as checked
use Rattle.outline.specs.contracts.is_repeated as is_repeated
use Rattle.outline.specs.contracts.count_of as count_of
use Rattle.outline.specs.contracts.bare_of as bare_of
use Rattle.outline.specs.contracts.flag_of as flag_of
use Rattle.outline.specs.contracts.bare_copies as bare-copies
use Rattle.outline.specs.contracts.noted as noted
use Rattle.count.specs.contracts.walked as walked
use Rattle.count.specs.contracts.walked_root as walked_root
use Rattle.expand.specs.contracts.made_of_copies as made_of_copies
use Rattle.expand.specs.contracts.delay_parts as delay_parts
use Rattle.expand.specs.contracts.copies_block as copies_block
use Rattle.expand.specs.contracts.copy_number as copy_number
use Rattle.expand.specs.contracts.alternative as alternative
use Rattle.guards.specs.contracts.guard_words as guard_words
use Rattle.demands.specs.OneOutcome.{OneOutcome, OneOutcomeUpTo, OneResult}
use Rattle.demands.proofs.OneOutcome.{same, from_both, from_all, by_an_equation, by_writing, by_equations}

module _ {M : Type 1} {𝓤 : Ura M} (𝓛 : Logic 𝓤) (mem : Memory → SProp 𝓤) (run : Routine → Fun 𝓤) where
  -- Words of any type put and copied into a slice.
  pub words_put_has_one_outcome : (T : RattleType) (clones : Ghosts T.Denot) (dict : Dict)
      → OneOutcome 𝓤 (put.ended T clones dict) (put.clauses T clones dict 𝓛 mem run)
  words_put_has_one_outcome T clones dict κs a g o o' = by_writing 𝓤 (λ out. (out, (tt, (tt, tt))))

  pub words_copied_has_one_outcome : (T : RattleType) (clones : Ghosts T.Denot) (dict : Dict)
      → OneOutcome 𝓤 (copied.ended T clones dict) (copied.clauses T clones dict 𝓛 mem run)
  words_copied_has_one_outcome T clones dict κs a g o o' = by_writing 𝓤 (λ out. (tt, (out, (tt, tt))))

  -- A refusal's number and place.
  pub refusal_number_has_one_outcome : OneOutcome 𝓤 refusal_number.ended (refusal_number.clauses 𝓛 mem run)
  refusal_number_has_one_outcome κs a g o o' = by_an_equation 𝓤

  pub refusal_place_has_one_outcome : OneOutcome 𝓤 refusal_place.ended (refusal_place.clauses 𝓛 mem run)
  refusal_place_has_one_outcome κs a g o o' = by_an_equation 𝓤

  pub tick_refusal_number_has_one_outcome : OneOutcome 𝓤 tick_refusal_number.ended (tick_refusal_number.clauses 𝓛 mem run)
  tick_refusal_number_has_one_outcome κs a g o o' = by_an_equation 𝓤

  pub tick_refusal_place_has_one_outcome : OneOutcome 𝓤 tick_refusal_place.ended (tick_refusal_place.clauses 𝓛 mem run)
  tick_refusal_place_has_one_outcome κs a g o o' = by_an_equation 𝓤

  -- An alternative that is kept in words.
  pub term_store_has_one_outcome : OneOutcome 𝓤 store.ended (store.clauses 𝓛 mem run)
  term_store_has_one_outcome κs a g o o' = by_writing 𝓤 (λ out. (out, (tt, (tt, tt))))

  pub term_step_has_one_outcome : OneOutcome 𝓤 step.ended (step.clauses 𝓛 mem run)
  term_step_has_one_outcome κs a g o o' = by_an_equation 𝓤

  pub term_guard_has_one_outcome : OneOutcomeUpTo 𝓤 guard.ended (guard.clauses 𝓛 mem run) (λ κs a o o'. o.result.now ≡ o'.result.now)
  term_guard_has_one_outcome κs a g o o' = from_both 𝓤 same

  -- The table and its checks.
  pub tree_read_has_one_outcome : OneOutcome 𝓤 read.ended (read.clauses 𝓛 mem run)
  tree_read_has_one_outcome κs a g o o' = by_an_equation 𝓤

  pub tree_columns_has_one_outcome : OneOutcome 𝓤 columns.ended (columns.clauses 𝓛 mem run)
  tree_columns_has_one_outcome κs a g o o' = by_an_equation 𝓤

  pub tree_is_atom_has_one_outcome : OneOutcome 𝓤 is_atom.ended (is_atom.clauses 𝓛 mem run)
  tree_is_atom_has_one_outcome κs a g o o' = by_an_equation 𝓤

  pub tree_checked_has_one_outcome : OneOutcome 𝓤 checked.ended (checked.clauses 𝓛 mem run)
  tree_checked_has_one_outcome κs a g o o' = by_an_equation 𝓤

  -- The outline: what is read from it, and a word that is noted.
  pub outline_is_repeated_has_one_outcome : OneOutcome 𝓤 is_repeated.ended (is_repeated.clauses 𝓛 mem run)
  outline_is_repeated_has_one_outcome κs a g o o' = by_an_equation 𝓤

  pub outline_count_of_has_one_outcome : OneOutcome 𝓤 count_of.ended (count_of.clauses 𝓛 mem run)
  outline_count_of_has_one_outcome κs a g o o' = by_an_equation 𝓤

  pub outline_bare_of_has_one_outcome : OneOutcome 𝓤 bare_of.ended (bare_of.clauses 𝓛 mem run)
  outline_bare_of_has_one_outcome κs a g o o' = by_an_equation 𝓤

  pub outline_flag_of_has_one_outcome : OneOutcome 𝓤 flag_of.ended (flag_of.clauses 𝓛 mem run)
  outline_flag_of_has_one_outcome κs a g o o' = by_an_equation 𝓤

  pub outline_bare_copies_has_one_outcome : OneOutcome 𝓤 bare-copies.ended (bare-copies.clauses 𝓛 mem run)
  outline_bare_copies_has_one_outcome κs a g o o' = by_an_equation 𝓤

  pub outline_noted_has_one_outcome : OneOutcome 𝓤 noted.ended (noted.clauses 𝓛 mem run)
  outline_noted_has_one_outcome κs a g o o' = by_equations 𝓤 (λ outline. (outline, (tt, (tt, (tt, tt)))))

  -- The walk. What it leaves in the outline of nodes that it does not visit, and after a refusal, is left open: nobody reads it.
  pub count_walked_has_one_outcome : OneResult 𝓤 walked.ended (walked.clauses 𝓛 mem run)
  count_walked_has_one_outcome κs a g o o' = from_all 𝓤 (λ p k p' k'. same p p')

  pub count_walked_root_has_one_outcome : OneResult 𝓤 walked_root.ended (walked_root.clauses 𝓛 mem run)
  count_walked_root_has_one_outcome κs a g o o' = from_all 𝓤 (λ p k p' k'. same p p')

  -- Alternatives.
  pub expand_made_of_copies_has_one_outcome : OneOutcome 𝓤 made_of_copies.ended (made_of_copies.clauses 𝓛 mem run)
  expand_made_of_copies_has_one_outcome κs a g o o' = by_an_equation 𝓤

  pub expand_delay_parts_has_one_outcome : OneOutcome 𝓤 delay_parts.ended (delay_parts.clauses 𝓛 mem run)
  expand_delay_parts_has_one_outcome κs a g o o' = by_an_equation 𝓤

  pub expand_copies_block_has_one_outcome : OneOutcome 𝓤 copies_block.ended (copies_block.clauses 𝓛 mem run)
  expand_copies_block_has_one_outcome κs a g o o' = by_an_equation 𝓤

  pub expand_copy_number_has_one_outcome : OneOutcome 𝓤 copy_number.ended (copy_number.clauses 𝓛 mem run)
  expand_copy_number_has_one_outcome κs a g o o' = by_an_equation 𝓤

  pub expand_alternative_has_one_outcome : OneOutcome 𝓤 alternative.ended (alternative.clauses 𝓛 mem run)
  expand_alternative_has_one_outcome κs a g o o' = by_writing 𝓤 (λ work. (tt, (tt, (tt, (tt, (tt, (work, (tt, tt))))))))

  -- Guards.
  pub guards_guard_words_has_one_outcome : OneOutcome 𝓤 guard_words.ended (guard_words.clauses 𝓛 mem run)
  guards_guard_words_has_one_outcome κs a g o o' = by_writing 𝓤 (λ work. (tt, (tt, (tt, (tt, (work, (tt, tt)))))))
