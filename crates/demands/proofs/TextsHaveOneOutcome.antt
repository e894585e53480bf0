-- One outcome: texts and bytes, what is shown on a page, and what the programs decide.
use mathlib.Core.Path.{◌≡◌}
use mathlib.Core.List.{List}
use Prim.Native.Nat.{ℕ}
use seplogic.Ra.Ura.{Ura}
use base.Logic.{SProp}
use prog.Memory.{Memory}
use prog.Routine.{Routine}
use types.Logic.{Logic}
use contract.Monad.{Fun}
use denote.RattleType.{RattleType}
use mir.Syntax.{Dict}
use Rattle.std.specs.declared.io.Eprint.{Ghosts}
use Rattle.lowered_text.specs.declared.Shown.{Shown}
use Rattle.lowered_text.specs.Page.{Shows}
use Rattle.text.specs.contracts.words_listed as words_listed
use Rattle.text.specs.contracts.text as text
use Rattle.little_endian.specs.contracts.read as read
use Rattle.lowered_text.specs.contracts.print as print
use Rattle.lowered_text.specs.contracts.print_input as print_input
use Rattle.cases.specs.contracts.until as until
use Rattle.cases.specs.contracts.numbers as numbers
use Rattle.cases.specs.contracts.lesser as lesser
use Rattle.tool.specs.contracts.asked_by as asked_by
use Rattle.tool.specs.contracts.status_after as status_after
use Rattle.tool.specs.contracts.put_usage as put_usage
use Rattle.tool.specs.contracts.ended as ended
use Rattle.listing_program.specs.contracts.status_of as status_of
use Rattle.demands.specs.OneOutcome.{OneOutcome}
use Rattle.demands.proofs.OneOutcome.{same_outcome, same, from_both, from_all, by_an_equation, by_an_equation_and_a_bound, by_writing, by_writing_and_a_bound}
use Rattle.std.specs.Prelude.{Result}
use Rattle.meaning.specs.declared.Listing.{Listing}
use Rattle.meaning.specs.declared.refusal.Refusal.{Refusal}

-- What is shown is an answer and where its text ends.
shows_the_same : {answer : Result Listing Refusal} {text page page' page'' : List ℕ} {shown shown' : Shown}
    → Shows answer text page shown page' → Shows answer text page shown' page'' → shown ≡ shown'
shows_the_same p p' i = record { answer = same p.answers p'.answers i; end = same p.stands.ends p'.stands.ends i }

module _ {M : Type 1} {𝓤 : Ura M} (𝓛 : Logic 𝓤) (mem : Memory → SProp 𝓤) (run : Routine → Fun 𝓤) where
  pub text_words_listed_has_one_outcome : OneOutcome 𝓤 words_listed.ended (words_listed.clauses 𝓛 mem run)
  text_words_listed_has_one_outcome κs a g o o' = by_an_equation 𝓤

  pub text_has_one_outcome : OneOutcome 𝓤 text.ended (text.clauses 𝓛 mem run)
  text_has_one_outcome κs a g o o' =
      from_both 𝓤 (λ p p'. same_outcome (λ page. (tt, (tt, (page, tt)))) (same p.answers p'.answers) (same p.holds p'.holds))

  pub little_endian_read_has_one_outcome : OneOutcome 𝓤 read.ended (read.clauses 𝓛 mem run)
  little_endian_read_has_one_outcome κs a g o o' = by_writing 𝓤 (λ out. (tt, (out, tt)))

  pub lowered_text_print_has_one_outcome : OneOutcome 𝓤 print.ended (print.clauses 𝓛 mem run)
  lowered_text_print_has_one_outcome κs a g o o' =
      from_all 𝓤 (λ p b p' b'. same_outcome (λ page. (tt, (page, tt))) (shows_the_same p p') (same p.stands.holds p'.stands.holds))

  pub lowered_text_print_input_has_one_outcome : OneOutcome 𝓤 print_input.ended (print_input.clauses 𝓛 mem run)
  lowered_text_print_input_has_one_outcome κs a g o o' =
      from_all 𝓤 (λ p b p' b'. same_outcome (λ page. (tt, (page, tt))) (shows_the_same p p') (same p.stands.holds p'.stands.holds))

  -- What is read from a text.
  pub cases_until_has_one_outcome : OneOutcome 𝓤 until.ended (until.clauses 𝓛 mem run)
  cases_until_has_one_outcome κs a g o o' = by_an_equation_and_a_bound 𝓤

  pub cases_numbers_has_one_outcome : OneOutcome 𝓤 numbers.ended (numbers.clauses 𝓛 mem run)
  cases_numbers_has_one_outcome κs a g o o' = by_writing_and_a_bound 𝓤 (λ out. (tt, (out, tt)))

  pub cases_lesser_has_one_outcome : OneOutcome 𝓤 lesser.ended (lesser.clauses 𝓛 mem run)
  cases_lesser_has_one_outcome κs a g o o' = by_an_equation 𝓤

  -- What a command line asks for, and the statuses of an answer and of a program.
  pub tool_asked_by_has_one_outcome : OneOutcome 𝓤 asked_by.ended (asked_by.clauses 𝓛 mem run)
  tool_asked_by_has_one_outcome κs a g o o' = by_an_equation 𝓤

  pub tool_status_after_has_one_outcome : OneOutcome 𝓤 status_after.ended (status_after.clauses 𝓛 mem run)
  tool_status_after_has_one_outcome κs a g o o' = by_an_equation 𝓤

  -- What prints may be of any type that can: its contract is the same.
  pub tool_put_usage_has_one_outcome : (T : RattleType) (prints : Ghosts T.Denot) (dict : Dict)
      → OneOutcome 𝓤 (put_usage.ended T prints dict) (put_usage.clauses T prints dict 𝓛 mem run)
  tool_put_usage_has_one_outcome T prints dict κs a g o o' = by_an_equation 𝓤

  pub tool_ended_has_one_outcome : (T : RattleType) (prints : Ghosts T.Denot) (dict : Dict)
      → OneOutcome 𝓤 (ended.ended T prints dict) (ended.clauses T prints dict 𝓛 mem run)
  tool_ended_has_one_outcome T prints dict κs a g o o' = by_an_equation 𝓤

  pub listing_program_status_of_has_one_outcome : OneOutcome 𝓤 status_of.ended (status_of.clauses 𝓛 mem run)
  listing_program_status_of_has_one_outcome κs a g o o' = by_an_equation 𝓤
