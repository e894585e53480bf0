-- One outcome: what a C program calls. Each contract is a record of equations, one for the number returned and one for each thing
-- that is lent to be written; of the matcher's answers it says what each byte is.
use mathlib.Core.Path.{◌≡◌}
use mathlib.Core.List.{List}
use Prim.Native.Nat.{ℕ}
use seplogic.Ra.Ura.{Ura}
use base.Logic.{SProp}
use prog.Memory.{Memory}
use prog.Routine.{Routine}
use types.Logic.{Logic}
use contract.Monad.{Fun}
use lib.ListN.{length}
use Rattle.recording.specs.Refusals.{judged}
use Rattle.sva_c.specs.Boundary.{MatchesForC}
use Rattle.sva_c.specs.contracts.sva_lower as sva_lower
use Rattle.sva_c.specs.contracts.sva_tick as sva_tick
use Rattle.sva_c.specs.contracts.sva_stretch as sva_stretch
use Rattle.sva_c.specs.contracts.sva_matches as sva_matches
use Rattle.demands.specs.OneOutcome.{OneOutcome}
use Rattle.demands.proofs.OneOutcome.{outcome, same, from_both}
use Rattle.demands.proofs.TheMatcherHasOneOutcome.{holds_once}

-- Two calls of `sva_matches` with the same arguments leave the same answers.
matches_once_for_C : {tree rows answers work after after' work_after work_after' : List ℕ} {width number number' ticks ticks' place place' : ℕ}
    → MatchesForC tree rows width answers work number after work_after ticks place
    → MatchesForC tree rows width answers work number' after' work_after' ticks' place' → after ≡ after'
matches_once_for_C {tree} {rows} {answers} {work} {width = width} p p' =
    holds_once (judged tree rows width (length answers) (length work)) tree rows width answers p.answers_hold p'.answers_hold

module _ {M : Type 1} {𝓤 : Ura M} (𝓛 : Logic 𝓤) (mem : Memory → SProp 𝓤) (run : Routine → Fun 𝓤) where
  -- The number; work, the output, the three counts and the place.
  pub sva_lower_has_one_outcome : OneOutcome 𝓤 sva_lower.ended (sva_lower.clauses 𝓛 mem run)
  sva_lower_has_one_outcome κs a g o o' =
      from_both 𝓤 (λ p p' i.
      let number = same p.number_is p'.number_is i in
      let work = same p.work_is p'.work_is i in
      let out = same p.out_is p'.out_is i in
      let registers = same p.registers_are p'.registers_are i in
      let words = same p.words_are p'.words_are i in
      let deepest = same p.deepest_is p'.deepest_is i in
      let place = same p.place_is p'.place_is i in
      outcome number (tt, (work, (out, (registers, (words, (deepest, (place, tt))))))))

  -- The number; next, the stack, the match bit and the place.
  pub sva_tick_has_one_outcome : OneOutcome 𝓤 sva_tick.ended (sva_tick.clauses 𝓛 mem run)
  sva_tick_has_one_outcome κs a g o o' =
      from_both 𝓤 (λ p p' i.
      let number = same p.number_is p'.number_is i in
      let next = same p.next_is p'.next_is i in
      let stack = same p.stack_is p'.stack_is i in
      let matched = same p.match_is p'.match_is i in
      let place = same p.place_is p'.place_is i in
      outcome number (tt, (tt, (tt, (next, (stack, (matched, (place, tt))))))))

  -- How many words, and the place of the first.
  pub sva_stretch_has_one_outcome : OneOutcome 𝓤 sva_stretch.ended (sva_stretch.clauses 𝓛 mem run)
  sva_stretch_has_one_outcome κs a g o o' =
      from_both 𝓤 (λ p p' i.
      let size = same p.size_is p'.size_is i in
      let start = same p.start_is p'.start_is i in
      outcome size (tt, (tt, (start, tt))))

  -- The number; the answers, work, the ticks and the place.
  pub sva_matches_has_one_outcome : OneOutcome 𝓤 sva_matches.ended (sva_matches.clauses 𝓛 mem run)
  sva_matches_has_one_outcome κs a g o o' =
      from_both 𝓤 (λ p p' i.
      let number = same p.number_is p'.number_is i in
      let answers = matches_once_for_C p p' i in
      let work = same p.work_is p'.work_is i in
      let ticks = same p.ticks_are p'.ticks_are i in
      let place = same p.place_is p'.place_is i in
      outcome number (tt, (tt, (tt, (answers, (work, (ticks, (place, tt))))))))
