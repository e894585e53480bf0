-- The matcher and the lowering agree: of the contracts of `lower`, `tick` and `matches` alone, a run from zeroed registers is answered at each
-- recorded tick with the matcher's byte. Both are judged by `Match`; the lowering's side is what it is to meet the standard, so that the
-- agreement holds wherever that does, and the premise about throughout stands in the last step alone.
use mathlib.Core.Path.{◌≡◌}
use mathlib.Core.Logic.{◌↔◌, inl, inr}
use mathlib.Core.List.{List}
use Prim.Native.Nat.{ℕ, ◌≤◌, ◌<◌}
use lib.ListN.{get_or}
use Rattle.meaning.specs.Tree.{root}
use Rattle.meaning.specs.Demand3.{ThroughoutOnTop, trace}
use Rattle.recorded_runs.specs.Recorded.{atoms_at, recorded}
use Rattle.matches.specs.Answers.{AMatchEnds, Says, Matches}
use Rattle.demands.specs.Shipped.{RunsAsShipped, MeetsTheStandard}
use Rattle.demands.proofs.MatchesLookNoFurther.{matches_look_no_further}
use Rattle.demands.proofs.TheStandardIsMet.{lower_and_tick_meet_the_standard}
use Rattle.std.specs.Prelude.{Result, Ok}
use Rattle.meaning.specs.Answers.{ticked}
use Rattle.meaning.specs.declared.refusal.TickRefusal.{TickRefusal}

-- The same atoms hold at each tick up to n as were recorded.
abbrev pub AsRecorded : List ℕ → ℕ → (ℕ → List ℕ) → ℕ → Type 0
AsRecorded rows width atoms n = (k a : ℕ) → k ≤ n → trace atoms k a ≡ recorded rows width k a

-- A byte that says whether a match ends is the bit of an answer that meets the standard.
module _ (tree rows : List ℕ) (width : ℕ) (atoms : ℕ → List ℕ) (n : ℕ) (alike : AsRecorded rows width atoms n) where
  pub the_same_matches_end : AMatchEnds tree atoms n ↔ AMatchEnds tree (atoms_at rows width) n
  the_same_matches_end = matches_look_no_further (trace atoms) (recorded rows width) n alike (root tree)

  says_the_same : {answer : Result ℕ TickRefusal} {byte : ℕ} → MeetsTheStandard tree atoms n answer → Says byte (AMatchEnds tree (atoms_at rows width) n) → answer ≡ ticked byte
  says_the_same meets (inl (one, ends)) = rw one (meets.one.1 (the_same_matches_end.1 ends))
  says_the_same meets (inr (none, no_end)) = rw none (meets.none.1 (λ ends. no_end (the_same_matches_end.0 ends)))

-- One call of `matches` that was answered.
module _ {tree rows answers answers' work work' : List ℕ} {width ticks : ℕ} (matched : Matches tree rows width answers answers' work work' (Ok ticks)) where
  -- Whatever meets the standard over the recorded atoms answers with the matcher's byte.
  pub what_meets_the_standard_agrees_with_the_matcher : {atoms : ℕ → List ℕ} {answer : Result ℕ TickRefusal} (n : ℕ) → n < ticks → AsRecorded rows width atoms n
      → MeetsTheStandard tree atoms n answer → answer ≡ ticked (get_or answers' n 0)
  what_meets_the_standard_agrees_with_the_matcher n l alike meets = says_the_same tree rows width _ n alike meets (matched.holds.says n l)

  -- So does a run of `lower` and `tick`, under demand 3's premise.
  pub lower_and_tick_agree_with_the_matcher : {run_ticks : ℕ} {lower_work lower_work' out out' : List ℕ} {registers words deepest : ℕ}
      {cur atoms next next' stack stack' : ℕ → List ℕ} {answer : ℕ → Result ℕ TickRefusal}
      → RunsAsShipped run_ticks tree lower_work lower_work' out out' registers words deepest cur atoms next next' stack stack' answer
      → ThroughoutOnTop (root tree) → (n : ℕ) → n < ticks → n < run_ticks → AsRecorded rows width atoms n → answer n ≡ ticked (get_or answers' n 0)
  lower_and_tick_agree_with_the_matcher run top n l l' alike =
      what_meets_the_standard_agrees_with_the_matcher n l alike (lower_and_tick_meet_the_standard run top n l')
