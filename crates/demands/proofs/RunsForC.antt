-- A run of what C calls is a run of `lower` and `tick`, and the other way round: the contracts of both speak of the same definitions, and
-- 0 is the number of no refusal.
use mathlib.Core.Path.{◌≡◌, refl, ap}
use mathlib.Core.List.{List}
use Prim.Native.Nat.{ℕ}
use native.Mathlib.Omega.{arith}
use lib.ListN.{length, take}
use Rattle.meaning.specs.Tick.{tick}
use Rattle.meaning.specs.Lower.{lower}
use Rattle.meaning.proofs.RefusalNumbers.{Numbered, refusals_are_numbered_from_1_to_14}
use Rattle.lower.specs.Answers.{Lowers}
use Rattle.tick.specs.Stepped.{Stepped}
use Rattle.sva_c.specs.Boundary.{lowered_number, lowered_registers, lowered_words, lowered_deepest, lowered_place, LowersForC, ticked_number, match_after, ticked_place, TicksForC}
use Rattle.demands.specs.Shipped.{RunsAsShipped}
use Rattle.demands.specs.ShippedForC.{RunsForC}
use Rattle.std.specs.Prelude.{Result, Ok, Err}
use Rattle.meaning.specs.Answers.{listed}
use Rattle.meaning.specs.declared.Listing.{Listing}
use Rattle.meaning.specs.declared.refusal.Refusal.{Refusal}
use Rattle.meaning.specs.declared.refusal.TickRefusal.{TickRefusal}

-- An answer of number 0 is the listing of its counts.
listed_at_0 : (answer : Result Listing Refusal) → Numbered answer → 0 ≡ lowered_number answer
    → listed (lowered_registers answer) (lowered_words answer) (lowered_deepest answer) ≡ answer
unfolding lowered_number lowered_registers lowered_words lowered_deepest
listed_at_0 (Ok listing) numbered e = refl
listed_at_0 (Err refusal) numbered e = absurd (omega arith)

-- So `sva_lower` returning 0 is `lower` answering with a listing.
pub a_returned_0_is_a_listing : {tree work work' out out' : List ℕ} {registers words deepest place : ℕ}
    → LowersForC tree work out 0 work' out' registers words deepest place → Lowers tree 0 work out (listed registers words deepest) work' out'
a_returned_0_is_a_listing {tree} {work} {out = out} {registers = registers} {words} {deepest} c =
    let answered : listed registers words deepest ≡ lower tree (length work) (length out) 0 =
    rw (c.registers_are, c.words_are, c.deepest_is)
    (listed_at_0 _ (refusals_are_numbered_from_1_to_14 tree (length work) (length out) 0) c.number_is) in
    record { answers = answered; holds = rw answered c.out_is; cleared = c.work_is }

-- A call of `sva_tick` is one of `tick`.
pub a_tick_for_C_is_a_tick : {listing cur atoms next next' stack stack' : List ℕ} {held number matched place : ℕ}
    → TicksForC listing cur atoms next stack held number next' stack' matched place
    → Stepped listing cur atoms next next' stack stack' (tick listing cur atoms (length next) (length stack))
a_tick_for_C_is_a_tick c = record { answer = refl; next_holds = c.next_is; stack_holds = c.stack_is }

module _ {ticks : ℕ} {tree work work' out out' : List ℕ} {registers words deepest : ℕ} {cur atoms next next' stack stack' : ℕ → List ℕ} where
  -- A run for C is a run, with the answers of `tick` behind the numbers.
  pub a_run_for_C_is_a_run : {fault : ℕ} {held number matched place : ℕ → ℕ}
      → RunsForC ticks tree work work' out out' registers words deepest fault cur atoms next next' stack stack' held number matched place
      → RunsAsShipped ticks tree work work' out out' registers words deepest cur atoms next next' stack stack'
      (λ n. tick (take words out') (cur n) (atoms n) (length (next n)) (length (stack n)))
  a_run_for_C_is_a_run run = record {
    lowered = a_returned_0_is_a_listing run.lowered;
    ticked = λ n l. a_tick_for_C_is_a_tick (run.ticked n l);
    lent = run.lent;
  }

  -- A run is one for C, with the numbers that it would have had there.
  pub a_run_is_one_for_C : {answer : ℕ → Result ℕ TickRefusal}
      → RunsAsShipped ticks tree work work' out out' registers words deepest cur atoms next next' stack stack' answer → (held : ℕ → ℕ)
      → RunsForC ticks tree work work' out out' registers words deepest 0 cur atoms next next' stack stack'
      held (λ n. ticked_number (answer n)) (λ n. match_after (answer n) (held n)) (λ n. ticked_place (answer n))
  unfolding lowered_number lowered_registers lowered_words lowered_deepest lowered_place
  a_run_is_one_for_C run held = record {
    lowered =
        let listed = run.lowered.answers in
        record {
          number_is = ap lowered_number listed;
          work_is = run.lowered.cleared;
          out_is = rw (← listed) run.lowered.holds;
          registers_are = ap lowered_registers listed;
          words_are = ap lowered_words listed;
          deepest_is = ap lowered_deepest listed;
          place_is = ap lowered_place listed;
        };
    ticked = λ n l.
        let step = run.ticked n l in
        record {
          number_is = ap ticked_number step.answer;
          next_is = rw (← step.answer) step.next_holds;
          stack_is = rw (← step.answer) step.stack_holds;
          match_is = ap (λ (answer : Result ℕ TickRefusal). match_after answer (held n)) step.answer;
          place_is = ap ticked_place step.answer;
        };
    lent = run.lent;
  }
