-- The matcher and the lowering agree, of what C calls: of the contracts of `sva_lower`, `sva_tick` and `sva_matches` alone. A returned 0 is an
-- answer, since refusals are numbered from 1 on; so it is read off the contracts of the functions below.
use mathlib.Core.Path.{◌≡◌, refl, sym, subst, ◌∙◌}
use mathlib.Core.Logic.{inl, inr}
use mathlib.Core.List.{List}
use Prim.Native.Nat.{ℕ, ◌<◌}
use native.Mathlib.Omega.{arith}
use lib.ListN.{length, get_or}
use Rattle.meaning.specs.Tree.{root}
use Rattle.meaning.specs.Demand3.{ThroughoutOnTop}
use Rattle.recording.specs.Refusals.{judged}
use Rattle.recording.proofs.RefusalNumbers.{Numbered, refusals_are_numbered_from_1_to_18}
use Rattle.recorded_runs.specs.Recorded.{atoms_at}
use Rattle.matches.specs.Answers.{AMatchEnds, Says, Holds, Matches}
use Rattle.sva_c.specs.Boundary.{matched_number, matched_ticks, MatchesForC}
use Rattle.demands.specs.ShippedForC.{RunsForC, MeetsTheStandardForC}
use Rattle.demands.proofs.TheStandardIsMetForC.{sva_lower_and_sva_tick_meet_the_standard}
use Rattle.demands.proofs.TheMatcherAgrees.{AsRecorded, the_same_matches_end}
use Rattle.std.specs.Prelude.{Result, Ok, Err}
use Rattle.meaning.specs.declared.refusal.Refusal.{Refusal}

-- An answer of number 0 is so many ticks.
answered_at_0 : (answer : Result ℕ Refusal) → Numbered answer → 0 ≡ matched_number answer → Ok (matched_ticks answer) ≡ answer
unfolding matched_number matched_ticks
answered_at_0 (Ok ticks) numbered e = refl
answered_at_0 (Err refusal) numbered e = absurd (omega arith)

-- So `sva_matches` returning 0 is `matches` answering with its ticks.
pub a_returned_0_is_an_answer : {tree rows answers answers' work work' : List ℕ} {width ticks place : ℕ}
    → MatchesForC tree rows width answers work 0 answers' work' ticks place → Matches tree rows width answers answers' work work' (Ok ticks)
a_returned_0_is_an_answer {tree} {rows} {answers} {answers'} {work} {width = width} {ticks} c =
    let answered : ◌≡◌ {A = Result ℕ Refusal} (Ok ticks) (judged tree rows width (length answers) (length work)) =
    rw c.ticks_are (answered_at_0 _ (refusals_are_numbered_from_1_to_18 tree rows width (length answers) (length work)) c.number_is) in
    record { answer_is = answered; holds = subst (λ answer. Holds answer tree rows width answers answers') (sym answered) c.answers_hold; cleared = c.work_is }

-- A call of `sva_matches` that returned 0.
module _ {tree rows answers answers' work work' : List ℕ} {width ticks fault : ℕ} (matched : MatchesForC tree rows width answers work 0 answers' work' ticks fault) where
  -- Whatever meets the standard over the recorded atoms has the matcher's byte as its match bit.
  pub what_meets_the_standard_agrees_with_sva_matches : {atoms : ℕ → List ℕ} {number bit : ℕ} (n : ℕ) → n < ticks → AsRecorded rows width atoms n
      → MeetsTheStandardForC tree atoms n number bit → bit ≡ get_or answers' n 0
  what_meets_the_standard_agrees_with_sva_matches {atoms} {bit = bit} n l alike meets = go ((a_returned_0_is_an_answer matched).holds.says n l)
    where
      go : Says (get_or answers' n 0) (AMatchEnds tree (atoms_at rows width) n) → bit ≡ get_or answers' n 0
      go (inl (one, ends)) = meets.one.1 ((the_same_matches_end tree rows width atoms n alike).1 ends) ∙ sym one
      go (inr (none, no_end)) = meets.none.1 (λ ends. no_end ((the_same_matches_end tree rows width atoms n alike).0 ends)) ∙ sym none

  -- So does a run of `sva_lower` and `sva_tick`, under demand 3's premise.
  pub sva_lower_and_sva_tick_agree_with_sva_matches : {run_ticks : ℕ} {lower_work lower_work' out out' : List ℕ} {registers words deepest place : ℕ}
      {cur atoms next next' stack stack' : ℕ → List ℕ} {held number bit places : ℕ → ℕ}
      → RunsForC run_ticks tree lower_work lower_work' out out' registers words deepest place cur atoms next next' stack stack' held number bit places
      → ThroughoutOnTop (root tree) → (n : ℕ) → n < ticks → n < run_ticks → AsRecorded rows width atoms n → bit n ≡ get_or answers' n 0
  sva_lower_and_sva_tick_agree_with_sva_matches run top n l l' alike =
      what_meets_the_standard_agrees_with_sva_matches n l alike (sva_lower_and_sva_tick_meet_the_standard run top n l')
