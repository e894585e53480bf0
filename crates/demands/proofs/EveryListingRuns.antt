-- The premises of demand 3 can be met, and ask for no more than they say: whatever tree lowering accepts can be run for any number of
-- ticks, on any atoms of which those that it names are bits, in any buffers of at least the sizes that the answer counts, whatever they
-- hold, and with anything behind the registers. So the theorem of TheStandardIsMet speaks of every accepted tree and every trace.
use mathlib.Core.Path.{◌≡◌, refl, sym}
use mathlib.Core.List.{List, [], ◌++◌}
use Prim.Native.Nat.{ℕ, zero, suc, ◌≤◌, ◌<◌}
use native.Mathlib.Omega.{arith}
use lib.ListN.{length, get_or, take, replicate, length-replicate}
use lib.Seq.{length-take-le, take_at}
use Rattle.words.proofs.Laws.{length-written}
use Rattle.meaning.specs.Listing.{Names, atoms_named}
use Rattle.meaning.specs.Tick.{stored, next_after, stack_left}
use Rattle.meaning.specs.Lower.{lower, output_after}
use Rattle.sva_c.specs.Boundary.{ticked_number, match_after, ticked_place}
use Rattle.demands.specs.Shipped.{RunsAsShipped}
use Rattle.demands.specs.ShippedForC.{RunsForC}
use Rattle.demands.proofs.RunsGoOn.{answer_from, stored_from}
use Rattle.demands.proofs.RunsForC.{a_run_is_one_for_C}
use Rattle.std.specs.Prelude.{Result, Ok, Err}
use Rattle.meaning.specs.Answers.{listed}
use Rattle.meaning.specs.declared.refusal.TickRefusal.{TickRefusal}

-- A tick leaves next as long as it was.
as_long_as_it_was : (answer : Result ℕ TickRefusal) (ws cur atoms next : List ℕ) → length (next_after answer ws cur atoms next) ≡ length next
unfolding next_after
as_long_as_it_was (Ok bit) ws cur atoms next = length-written next 0 (stored cur atoms ws [])
as_long_as_it_was (Err refusal) ws cur atoms next = refl

module _ (tree work out : List ℕ) (registers words deepest : ℕ) (accepted : lower tree (length work) (length out) 0 ≡ listed registers words deepest) where
  -- The output after lowering, and the listing in front of it.
  abbrev out' : List ℕ
  out' = output_after (listed registers words deepest) tree 0 out

  abbrev listing : List ℕ
  listing = take words out'

  -- What is lent at each tick, and what stands behind the registers then.
  module _ (atoms next stack tail : ℕ → List ℕ) where
    -- The registers are zero at tick 0, and at each later one as the tick before left them.
    abbrev cur : ℕ → List ℕ
    cur zero = replicate registers 0 ++ tail zero
    cur (suc n) = take registers (stored_from listing atoms next stack (cur n) n) ++ tail (suc n)

    -- What each tick answers, and leaves in next and in the stack.
    abbrev answer : ℕ → Result ℕ TickRefusal
    answer n = answer_from listing atoms next stack (cur n) n

    abbrev next' : ℕ → List ℕ
    next' n = stored_from listing atoms next stack (cur n) n

    abbrev stack' : ℕ → List ℕ
    stack' n = stack_left (answer n) (stack n)

    module _ (ticks : ℕ) (next_long : (n : ℕ) → n < ticks → registers ≤ length (next n)) (stack_long : (n : ℕ) → n < ticks → deepest ≤ length (stack n))
        (atoms_long : (n : ℕ) → n < ticks → atoms_named listing ≤ length (atoms n)) (atoms_bits : (n : ℕ) → n < ticks → (a : ℕ) → Names listing a → get_or (atoms n) a 0 ≤ 1) where
      next'_long : (n : ℕ) → n < ticks → registers ≤ length (next' n)
      next'_long n l = omega (arith, next_long n l, as_long_as_it_was (answer n) listing (cur n) (atoms n) (next n))

      pub every_accepted_listing_runs :
          RunsAsShipped ticks tree work (replicate (length work) 0) out out' registers words deepest cur atoms next next' stack stack' answer
      every_accepted_listing_runs = record {
        lowered = record { answers = sym accepted; holds = refl; cleared = refl };
        ticked = λ n l. record { answer = refl; next_holds = refl; stack_holds = refl };
        lent = record {
          zeroed = take_at (replicate registers 0) (tail zero) registers (length-replicate {A = ℕ} registers 0);
          goes_on = λ n l. take_at (take registers (next' n)) (tail (suc n)) registers (length-take-le registers (next' n) (next'_long n (omega arith)));
          next_long = next_long;
          stack_long = stack_long;
          atoms_long = atoms_long;
          atoms_bits = atoms_bits;
        };
      }

      -- Every accepted listing runs from C too, whatever is held where the match bit goes.
      pub every_accepted_listing_runs_for_C : (held : ℕ → ℕ)
          → RunsForC ticks tree work (replicate (length work) 0) out out' registers words deepest 0 cur atoms next next' stack stack'
          held (λ n. ticked_number (answer n)) (λ n. match_after (answer n) (held n)) (λ n. ticked_place (answer n))
      every_accepted_listing_runs_for_C held = a_run_is_one_for_C every_accepted_listing_runs held
