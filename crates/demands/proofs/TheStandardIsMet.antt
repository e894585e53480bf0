-- DEMAND 3, of the shipped functions: from the contracts of `lower` and `tick` alone, whoever runs them as the specification says, for however many
-- ticks, is answered 1 exactly where a match of the tree ends, and 0 at every other tick. What is beside it here is read off the same
-- contracts: the words handed out are as described, the answer's numbers are counted in them, and no tick is refused.
--
-- It joins `lower_meets_the_standard` (crates/meaning/proofs/Demand3.antt), which speaks of the definitions, to the contracts. That one
-- speaks of runs without end; a run that stops is the beginning of one, and which matches end at a tick is decided by then.
use mathlib.Core.Bool.{Bool, true, false}
use mathlib.Core.Path.{◌≡◌, refl, sym, ap, ◌∙◌}
use mathlib.Core.Logic.Iff
use mathlib.Core.Logic.{◌↔◌, inl, inr}
use mathlib.Core.List.{List}
use Prim.Native.Nat.{ℕ, suc, ◌≤◌, ◌<◌, min}
use native.Mathlib.Omega.{arith}
use lib.ListN.{length, take}
use Rattle.meaning.specs.Tree.{root}
use Rattle.meaning.specs.Listing.{registers as registers_in, deepest as deepest_in}
use Rattle.meaning.specs.Check.{check}
use Rattle.meaning.specs.Lower.{synth_of, words_of, lower, output_after}
use Rattle.meaning.specs.Demand3.{ThroughoutOnTop, trace, Running}
use Rattle.meaning.proofs.Values.{val}
use Rattle.meaning.proofs.Evaluation.{bit}
use Rattle.meaning.proofs.ListingAnswer.{a_listed_table_passed_all}
use Rattle.meaning.proofs.Demand3 as definitions
use Rattle.lower.specs.Answers.{Lowers}
use Rattle.words.proofs.Laws.{front_written}
use Rattle.matches.specs.Answers.{AMatchEnds}
use Rattle.demands.specs.Shipped.{RunsAsShipped, IsABit, MeetsTheStandard}
use Rattle.demands.proofs.MatchesLookNoFurther.{matches_look_no_further}
use Rattle.demands.proofs.RunsGoOn.{answer_from, stored_from, gone_on, the_same_until_last, goes_on_for_good}
use Rattle.std.specs.Prelude.{Result}
use Rattle.meaning.specs.Answers.{listed, ticked, described}
use Rattle.meaning.specs.declared.refusal.TickRefusal.{TickRefusal}

-- One call of `lower` that answered with a listing.
module _ {tree work work' out out' : List ℕ} {registers words deepest : ℕ}
    (lowered : Lowers tree 0 work out (listed registers words deepest) work' out') where
  accepted : lower tree (length work) (length out) 0 ≡ listed registers words deepest
  accepted = sym lowered.answers

  -- The words handed out are those that the tree lowers to.
  pub the_words_handed_out_are_the_trees : take words out' ≡ words_of tree 0
  unfolding output_after words_of
  the_words_handed_out_are_the_trees =
      let fitting = (a_listed_table_passed_all tree (length work) (length out) 0 registers words deepest accepted).fitting in
      front_written {o = out} {n = words} (record { holds = lowered.holds; ends = omega (arith, fitting.words_are) }) fitting.long_enough

  -- They pass the check that tick begins with.
  pub the_words_handed_out_pass_the_check : check (take words out') ≡ described
  the_words_handed_out_pass_the_check =
      rw the_words_handed_out_are_the_trees
      (definitions.an_accepted_listing_passes_the_check tree (length work) (length out) registers words deepest accepted)

  -- The three numbers of the answer are counted in them.
  pub the_registers_answered_are_counted : registers ≡ registers_in (take words out')
  the_registers_answered_are_counted =
      rw the_words_handed_out_are_the_trees
      (definitions.the_registers_are_counted tree (length work) (length out) registers words deepest accepted)

  pub the_words_answered_are_counted : words ≡ length (take words out')
  the_words_answered_are_counted =
      definitions.the_words_are_counted tree (length work) (length out) registers words deepest accepted
      ∙ ap length (sym the_words_handed_out_are_the_trees)

  pub the_deepest_stack_answered_is_counted : deepest ≡ deepest_in (take words out')
  the_deepest_stack_answered_is_counted =
      rw the_words_handed_out_are_the_trees
      (definitions.the_deepest_stack_is_counted tree (length work) (length out) registers words deepest accepted)

-- A bit, as tick answers it.
a_bit_is_a_bit : (b : Bool) → IsABit (ticked (bit b))
a_bit_is_a_bit true = inl refl
a_bit_is_a_bit false = inr refl

-- 1 is not 0.
not_both : {answer : Result ℕ TickRefusal} → answer ≡ ticked 1 → answer ≡ ticked 0 → ⊥
not_both e f = let z : ◌≡◌ {A = ℕ} 0 1 = cc in omega arith

-- What is 1 exactly when something holds, and else 0, is 0 exactly when it does not hold.
else_none : {P : Type 0} {answer : Result ℕ TickRefusal} → IsABit answer → (answer ≡ ticked 1) ↔ P → (answer ≡ ticked 0) ↔ (P → ⊥)
else_none (inl e) one = (λ f p. not_both e f, λ no-match. absurd (no-match (one.0 e)))
else_none (inr e) one = (λ f p. not_both (one.1 p) f, λ no-match. e)

-- A tree that is lowered, and run for some ticks.
module _ {ticks : ℕ} {tree work work' out out' : List ℕ} {registers words deepest : ℕ} {cur atoms next next' stack stack' : ℕ → List ℕ} {answer : ℕ → Result ℕ TickRefusal}
    (run : RunsAsShipped ticks tree work work' out out' registers words deepest cur atoms next next' stack stack' answer) where
  abbrev listing : List ℕ
  listing = words_of tree 0

  abbrev words_are : take words out' ≡ listing
  words_are = the_words_handed_out_are_the_trees run.lowered

  -- The registers that the definitions count in them are those of the answer.
  counted : registers_in listing ≡ registers
  counted = rw (← words_are) (sym (the_registers_answered_are_counted run.lowered))

  -- One of the ticks, and the run that is the same up to it, and goes on for good, on what was lent at this tick.
  module _ (last : ℕ) (reached : last < ticks) where
    abbrev atoms_on : ℕ → List ℕ
    atoms_on n = atoms (min n last)

    abbrev next_on : ℕ → List ℕ
    next_on n = next (min n last)

    abbrev stack_on : ℕ → List ℕ
    stack_on n = stack (min n last)

    abbrev cur_on : ℕ → List ℕ
    cur_on = gone_on listing atoms_on next_on stack_on cur last

    -- Up to that tick the run that goes on is lent the same.
    lent_alike : (n : ℕ) → n ≤ last → min n last ≡ n
    lent_alike n l = omega arith

    -- Up to that tick it answers the same from the same registers.
    answers_alike : (n : ℕ) → n ≤ last → answer n ≡ answer_from listing atoms_on next_on stack_on (cur n) n
    answers_alike n l = (run.ticked n (omega arith)).answer ∙ rw (words_are, lent_alike n l) refl

    -- Up to that tick it stores the same, from which the next one goes on.
    registers_alike : (n : ℕ) → n < last → take registers (cur (suc n)) ≡ take registers (stored_from listing atoms_on next_on stack_on (cur n) n)
    registers_alike n l =
        rw (run.lent.goes_on n (omega arith))
        (ap (take registers)
        ((run.ticked n (omega arith)).next_holds ∙ rw (answers_alike n (omega arith), words_are, lent_alike n (omega arith)) refl))

    -- It runs as the definitions say.
    running : Running listing atoms_on cur_on next_on (λ n. length (stack_on n))
    running = record {
      zeroed = rw counted run.lent.zeroed;
      goes_on = rw counted (goes_on_for_good listing atoms_on next_on stack_on cur last registers registers_alike);
      next_long = λ n. rw counted (run.lent.next_long (min n last) (omega arith));
      stack_long = λ n. rw (← words_are, ← the_deepest_stack_answered_is_counted run.lowered) (run.lent.stack_long (min n last) (omega arith));
      atoms_long = λ n. rw (← words_are) (run.lent.atoms_long (min n last) (omega arith));
      atoms_bits = λ n. rw (← words_are) (run.lent.atoms_bits (min n last) (omega arith));
    }

    -- At that tick the run that goes on gives the run's answer.
    answered : answer last ≡ answer_from listing atoms_on next_on stack_on (cur_on last) last
    answered = answers_alike last (omega arith) ∙ rw (the_same_until_last listing atoms_on next_on stack_on cur last last (omega arith)) refl

    -- Up to that tick the same atoms hold.
    traces_alike : (n a : ℕ) → n ≤ last → trace atoms_on n a ≡ trace atoms n a
    traces_alike n a l = rw (lent_alike n l) refl

  -- No tick is refused: buffers of the counted sizes are enough.
  pub no_tick_is_refused : (n : ℕ) → n < ticks → IsABit (answer n)
  no_tick_is_refused n l =
      rw (
        answered n l,
        definitions.an_accepted_listing_is_never_refused tree (length work) (length out) registers words deepest (accepted run.lowered)
            (atoms_on n l) (cur_on n l) (next_on n l) (λ k. length (stack_on n l k)) (running n l) n,
      )
      (a_bit_is_a_bit (val (synth_of tree 0).cur (trace (cur_on n l) n) (trace (atoms_on n l) n)))

  -- DEMAND 3.
  pub lower_and_tick_meet_the_standard : ThroughoutOnTop (root tree) → (n : ℕ) → n < ticks → MeetsTheStandard tree atoms n (answer n)
  lower_and_tick_meet_the_standard top n l =
      let one : (answer n ≡ ticked 1) ↔ AMatchEnds tree atoms n =
      Iff.trans
      (rw (answered n l)
      (definitions.lower_meets_the_standard tree (length work) (length out) registers words deepest (accepted run.lowered)
      (atoms_on n l) (cur_on n l) (next_on n l) (λ k. length (stack_on n l k)) (running n l) top n))
      (matches_look_no_further (trace (atoms_on n l)) (trace atoms) n (traces_alike n l) (root tree)) in
      record { one = one; none = else_none (no_tick_is_refused n l) one; a_bit = no_tick_is_refused n l }

-- A run without end is one of every number of ticks, and at every tick its answer meets the standard.
pub an_endless_run_meets_the_standard : {tree work work' out out' : List ℕ} {registers words deepest : ℕ} {cur atoms next next' stack stack' : ℕ → List ℕ} {answer : ℕ → Result ℕ TickRefusal}
    → ((ticks : ℕ) → RunsAsShipped ticks tree work work' out out' registers words deepest cur atoms next next' stack stack' answer)
    → ThroughoutOnTop (root tree) → (n : ℕ) → MeetsTheStandard tree atoms n (answer n)
an_endless_run_meets_the_standard run top n = lower_and_tick_meet_the_standard (run (suc n)) top n (omega arith)
