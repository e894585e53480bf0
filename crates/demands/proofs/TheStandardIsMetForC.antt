-- DEMAND 3, of what C calls: from the contracts of `sva_lower` and `sva_tick` alone, whoever runs them as the specification says, for however many
-- ticks, is returned 0 at each, with a match bit of 1 exactly where a match of the tree ends, and 0 at every other tick. It is read off
-- the theorem of `lower` and `tick`.
use mathlib.Core.Path.{◌≡◌, ap, ◌∙◌}
use mathlib.Core.Logic.Iff
use mathlib.Core.Logic.{◌↔◌, inl, inr, ⊎_elim}
use mathlib.Core.List.{List}
use Prim.Native.Nat.{ℕ, ◌<◌}
use native.Mathlib.Omega.{arith}
use lib.ListN.{length, take}
use Rattle.meaning.specs.Tree.{root}
use Rattle.meaning.specs.Tick.{tick}
use Rattle.meaning.specs.Demand3.{ThroughoutOnTop}
use Rattle.sva_c.specs.Boundary.{ticked_number, match_after}
use Rattle.demands.specs.Shipped.{IsABit}
use Rattle.demands.specs.ShippedForC.{RunsForC, MeetsTheStandardForC}
use Rattle.demands.proofs.TheStandardIsMet.{no_tick_is_refused, lower_and_tick_meet_the_standard}
use Rattle.demands.proofs.RunsForC.{a_run_for_C_is_a_run}
use Rattle.std.specs.Prelude.{Result, Ok, Err}
use Rattle.meaning.specs.Answers.{ticked}
use Rattle.meaning.specs.declared.refusal.TickRefusal.{TickRefusal}

-- An answer that is no refusal is returned as 0.
returned_as_0 : (answer : Result ℕ TickRefusal) → IsABit answer → ticked_number answer ≡ 0
unfolding ticked_number
returned_as_0 answer (inl e) = rw e
returned_as_0 answer (inr e) = rw e

-- The bit of an answer that is no refusal is stored.
stored_as_it_is : (answer : Result ℕ TickRefusal) (held bit : ℕ) → IsABit answer → (match_after answer held ≡ bit) ↔ (answer ≡ ticked bit)
unfolding match_after
stored_as_it_is (Ok b) held bit is = (λ e. ap ticked e, λ e. cc)
stored_as_it_is (Err refusal) held bit (inl e) = absurd (let z : ◌≡◌ {A = ℕ} 0 1 = cc in omega arith)
stored_as_it_is (Err refusal) held bit (inr e) = absurd (let z : ◌≡◌ {A = ℕ} 0 1 = cc in omega arith)

module _ {ticks : ℕ} {tree work work' out out' : List ℕ} {registers words deepest fault : ℕ} {cur atoms next next' stack stack' : ℕ → List ℕ}
    {held number matched place : ℕ → ℕ}
    (run : RunsForC ticks tree work work' out out' registers words deepest fault cur atoms next next' stack stack' held number matched place) where
  -- No tick is refused.
  pub no_sva_tick_is_refused : (n : ℕ) → n < ticks → number n ≡ 0
  no_sva_tick_is_refused n l = (run.ticked n l).number_is ∙ returned_as_0 _ (no_tick_is_refused (a_run_for_C_is_a_run run) n l)

  -- DEMAND 3.
  pub sva_lower_and_sva_tick_meet_the_standard : ThroughoutOnTop (root tree) → (n : ℕ) → n < ticks → MeetsTheStandardForC tree atoms n (number n) (matched n)
  sva_lower_and_sva_tick_meet_the_standard top n l =
      let meets = lower_and_tick_meet_the_standard (a_run_for_C_is_a_run run) top n l in
      let stored : (bit : ℕ) → (matched n ≡ bit) ↔ (tick (take words out') (cur n) (atoms n) (length (next n)) (length (stack n)) ≡ ticked bit) =
      λ bit. rw (run.ticked n l).match_is (stored_as_it_is _ (held n) bit meets.a_bit) in
      record {
        not_refused = no_sva_tick_is_refused n l;
        one = Iff.trans (stored 1) meets.one;
        none = Iff.trans (stored 0) meets.none;
        a_bit = ⊎_elim (λ e. inl ((stored 1).1 e)) (λ e. inr ((stored 0).1 e)) meets.a_bit;
      }
