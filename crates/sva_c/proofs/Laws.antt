-- From the contracts of `lower`, `tick`, `stretch` and `matches` to what C sees: one law for each way an answer comes apart, as the code
-- meets it. They assume nothing.
use mathlib.Core.Path.{◌≡◌, sym, ap, subst, ◌∙◌}
use mathlib.Core.List.{List}
use Prim.Native.Nat.{ℕ}
use lib.ListN.{length}
use Rattle.meaning.specs.Check.{stretch}
use Rattle.meaning.specs.Lower.{output_after}
use Rattle.meaning.specs.Tick.{next_after, stack_left}
use Rattle.lower.specs.Answers.{Lowers}
use Rattle.tick.specs.Stepped.{Stepped}
use Rattle.stretch.specs.Start.{stretch_start}
use Rattle.matches.specs.Answers.{Holds, Matches}
use Rattle.sva_c.specs.Boundary.{lowered_number, lowered_registers, lowered_words, lowered_deepest, lowered_place, LowersForC, ticked_number, match_after, ticked_place, TicksForC, StretchesForC, matched_number, matched_ticks, matched_place, MatchesForC}
use Rattle.std.specs.Prelude.{Result, Ok, Err}
use Rattle.meaning.specs.Answers.{number, place, tick_number, tick_place}
use Rattle.meaning.specs.declared.Listing.{Listing}
use Rattle.meaning.specs.declared.refusal.Refusal.{Refusal}
use Rattle.meaning.specs.declared.refusal.TickRefusal.{TickRefusal}

module _ {tree work out work_after out_after : List ℕ} {answer : Result Listing Refusal} (L : Lowers tree 0 work out answer work_after out_after) where
  -- The parts of an answer, once it is known.
  handed_out : {known : Result Listing Refusal} → answer ≡ known
      → LowersForC tree work out (lowered_number known) work_after out_after (lowered_registers known) (lowered_words known) (lowered_deepest known) (lowered_place known)
  handed_out e =
      let a = sym e ∙ L.answers in
      record {
        number_is = ap lowered_number a;
        work_is = L.cleared;
        out_is = L.holds ∙ ap (λ (x : Result Listing Refusal). output_after x tree 0 out) L.answers;
        registers_are = ap lowered_registers a;
        words_are = ap lowered_words a;
        deepest_is = ap lowered_deepest a;
        place_is = ap lowered_place a;
      }

  -- A listing: its counts, with number and place 0.
  pub listed_for_c : {listing : Listing} → answer ≡ Ok listing
      → LowersForC tree work out 0 work_after out_after listing.registers listing.words listing.deepest 0
  unfolding lowered_number lowered_registers lowered_words lowered_deepest lowered_place
  listed_for_c e = handed_out e

  -- A refusal: its number and place, with counts 0.
  pub refused_for_c : {refusal : Refusal} → answer ≡ Err refusal
      → LowersForC tree work out (number refusal) work_after out_after 0 0 0 (place refusal)
  unfolding lowered_number lowered_registers lowered_words lowered_deepest lowered_place
  refused_for_c e = handed_out e

module _ {listing cur atoms next next_held stack stack_held : List ℕ} {answer : Result ℕ TickRefusal} (S : Stepped listing cur atoms next next_held stack stack_held answer) where
  -- The parts of an answer, once it is known.
  told : {known : Result ℕ TickRefusal} (held : ℕ) → answer ≡ known
      → TicksForC listing cur atoms next stack held (ticked_number known) next_held stack_held (match_after known held) (ticked_place known)
  told held e =
      let a = sym e ∙ S.answer in
      record {
        number_is = ap ticked_number a;
        next_is = S.next_holds ∙ ap (λ (x : Result ℕ TickRefusal). next_after x listing cur atoms next) S.answer;
        stack_is = S.stack_holds ∙ ap (λ (x : Result ℕ TickRefusal). stack_left x stack) S.answer;
        match_is = ap (λ (x : Result ℕ TickRefusal). match_after x held) a;
        place_is = ap ticked_place a;
      }

  -- A match bit, with number and place 0.
  pub ticked_for_c : {bit : ℕ} (held : ℕ) → answer ≡ Ok bit → TicksForC listing cur atoms next stack held 0 next_held stack_held bit 0
  unfolding ticked_number match_after ticked_place
  ticked_for_c held e = told held e

  -- A refusal: its number and place, and the match as it was held.
  pub not_ticked_for_c : {refusal : TickRefusal} (held : ℕ) → answer ≡ Err refusal
      → TicksForC listing cur atoms next stack held (tick_number refusal) next_held stack_held held (tick_place refusal)
  unfolding ticked_number match_after ticked_place
  not_ticked_for_c held e = told held e

-- A part and its start.
pub stretched_for_c : (listing : List ℕ) (register : ℕ) {start : ℕ} {part : List ℕ} → start ≡ stretch_start listing register → part ≡ stretch listing register
    → StretchesForC listing register (length part) start
stretched_for_c listing register s p = record { size_is = ap length p; start_is = s }

module _ {tree rows answers answers_after work work_after : List ℕ} {width : ℕ} {answer : Result ℕ Refusal}
    (M : Matches tree rows width answers answers_after work work_after answer) where
  -- The parts of an answer, once it is known.
  matched_apart : {known : Result ℕ Refusal} → answer ≡ known
      → MatchesForC tree rows width answers work (matched_number known) answers_after work_after (matched_ticks known) (matched_place known)
  matched_apart e =
      let a = sym e ∙ M.answer_is in
      record {
        number_is = ap matched_number a;
        answers_hold = subst (λ (x : Result ℕ Refusal). Holds x tree rows width answers answers_after) M.answer_is M.holds;
        work_is = M.cleared;
        ticks_are = ap matched_ticks a;
        place_is = ap matched_place a;
      }

  -- So many ticks, with number and place 0.
  pub matched_for_c : {ticks : ℕ} → answer ≡ Ok ticks → MatchesForC tree rows width answers work 0 answers_after work_after ticks 0
  unfolding matched_number matched_ticks matched_place
  matched_for_c e = matched_apart e

  -- A refusal: its number and place, with no ticks.
  pub not_matched_for_c : {refusal : Refusal} → answer ≡ Err refusal
      → MatchesForC tree rows width answers work (number refusal) answers_after work_after 0 (place refusal)
  unfolding matched_number matched_ticks matched_place
  not_matched_for_c e = matched_apart e
