-- Refusals 21, 22 and 23, and the tick that meets none of them, as the code meets them. They assume nothing.
use mathlib.Core.Path.{◌≡◌, refl, sym, ap, ◌∙◌}
use mathlib.Core.Bool.{Bool, true, false, not}
use mathlib.Core.List.{List, [], ◌∷◌}
use Prim.Native.Nat.{ℕ, ◌≤◌, max}
use native.Mathlib.Nat.{max-le, le-max_left, le-max_right}
use native.Mathlib.Omega.{arith}
use native.Mathlib.Decide.{dec_le}
use lib.Dec.{leb, ltb}
use Rattle.std.specs.List.{fold}
use lib.ListN.{length, take, replicate}
use lib.Seq.{length-take-le}
use borrow.Author.Tests.{le-leb, lt-leb, lt-ltb, le-ltb, ltb-false, not-true, not-false}
use Rattle.words.specs.Choice.{pick, pick_true, pick_false}
use Rattle.meaning.specs.Listing.{registers, deepest, atoms_named}
use Rattle.meaning.specs.Check.{check}
use Rattle.meaning.specs.Tick.{too_short, all_bits, named_bits, bits, tick_if, tick, next_after, stack_left}
use Rattle.std.proofs.Common.{Option, Some, None, Result, Ok, Err}
use Rattle.meaning.specs.Answers.{described, faulty, ticked}
use Rattle.meaning.specs.declared.refusal.Fault.{Fault}
use Rattle.meaning.specs.declared.refusal.TickRefusal.TheVariants.{NotDescribed, LentTooShort, NotBits}
use Rattle.listing.specs.Step.{Undescribed}
use Rattle.tick.specs.Survey.{wanted, lacking, surveyed_if, surveyed}
use Rattle.tick.specs.Stack.{Ready, Evaluated}
use Rattle.tick.specs.Stepped.{Stepped}
use Rattle.words.proofs.Taken.{one_test, no_test, neither_holds}
use Rattle.tick.specs.declared.Wanted.{Wanted}

-- A byte is a bit and so is the highest before it, if the higher of the two is one.
higher : (h x : ℕ) (rest : Bool) → pick (leb h 1) (pick (ltb 1 x) false rest) false ≡ pick (leb (max h x) 1) rest false
unfolding pick
higher h x rest =
    elim (dec_le h 1) [
      | yes a ↦
          elim (dec_le x 1) [
            | yes b ↦ rw (le-leb h 1 a, le-ltb 1 x b, le-leb (max h x) 1 (max-le a b)) refl
            | no b ↦ rw (le-leb h 1 a, lt-ltb 1 x (omega arith), lt-leb (max h x) 1 (omega (arith, le-max_right h x))) refl
          ]
      | no a ↦ rw (lt-leb h 1 (omega arith), lt-leb (max h x) 1 (omega (arith, le-max_left h x))) refl
    ]

-- The highest of all bytes decides, behind one that is the highest so far.
highest_from : (h : ℕ) (bytes : List ℕ) → leb (fold max h bytes) 1 ≡ pick (leb h 1) (all_bits bytes) false
unfolding all_bits
highest_from h [] = sym (one_test (leb h 1))
highest_from h (x ∷ xs) = highest_from (max h x) xs ∙ sym (higher h x (all_bits xs))

-- Of no byte the highest is 0.
pub highest_decides : (bytes : List ℕ) → leb (fold max 0 bytes) 1 ≡ all_bits bytes
unfolding pick
highest_decides bytes = highest_from 0 bytes

-- A faulty listing is not described.
faulty_check : (c : Result (Unit {0}) Fault) (ws atoms : List ℕ) → surveyed_if c ws atoms ≡ None → c ≡ described → ⊥
unfolding surveyed_if
faulty_check (Ok passed) ws atoms e q = let z : ◌≡◌ {A = ℕ} 0 1 = cc in omega arith
faulty_check (Err fault) ws atoms e q = let z : ◌≡◌ {A = ℕ} 0 1 = cc in omega arith

-- A listing that is whole is described, and its wants are known.
whole_check : {v : Wanted} (c : Result (Unit {0}) Fault) (ws atoms : List ℕ) → surveyed_if c ws atoms ≡ Some v → (c ≡ described) × (v ≡ wanted ws atoms)
unfolding surveyed_if
whole_check (Ok passed) ws atoms e = (refl, (cc))
whole_check (Err fault) ws atoms e = absurd (let z : ◌≡◌ {A = ℕ} 0 1 = cc in omega arith)

module _ {s : Option Wanted} (ws atoms : List ℕ) (e : s ≡ surveyed ws atoms) where
  -- The listing is not described.
  pub faulty_undescribed : s ≡ None → Undescribed ws
  unfolding surveyed
  faulty_undescribed q = record { never = faulty_check (check ws) ws atoms (sym e ∙ q) }

  -- The listing is described.
  pub whole_described : {v : Wanted} → s ≡ Some v → check ws ≡ described
  unfolding surveyed
  whole_described q = (whole_check (check ws) ws atoms (sym e ∙ q)).0

  -- What a whole listing wants is known.
  pub whole_wanted : {v : Wanted} → s ≡ Some v → v ≡ wanted ws atoms
  unfolding surveyed
  whole_wanted q = (whole_check (check ws) ws atoms (sym e ∙ q)).1

-- A faulty listing is refused with 21.
pub faulty_tick : {place : ℕ} (ws cur atoms next stack : List ℕ) → faulty place ≡ check ws → Stepped ws cur atoms next next stack stack (Err (NotDescribed place))
unfolding tick tick_if next_after stack_left
faulty_tick ws cur atoms next stack e = record { answer = sym (rw (← e) refl); next_holds = refl; stack_holds = refl }

-- The registers of a `cur` that is long enough are a part of it.
pub part_long : {b : Bool} (v : Wanted) (cur : List ℕ) (atoms next stack : ℕ) → b ≡ lacking v (length cur) atoms next stack → b ≡ false
    → v.registers ≡ length (take v.registers cur)
unfolding lacking
part_long v cur atoms next stack c q = sym (length-take-le v.registers cur (ltb-false _ _ (neither_holds _ (sym c ∙ q)).0))

-- A described listing, whose wants are v.
module _ {v : Wanted} {b : Bool} (ws cur atoms next stack : List ℕ) (d : check ws ≡ described) (e : v ≡ wanted ws atoms)
    (c : b ≡ lacking v (length cur) (length atoms) (length next) (length stack)) where
  -- 22 by what is wanted is 22 by the definition.
  short : too_short ws (length cur) (length atoms) (length next) (length stack) ≡ b
  unfolding too_short lacking
  short = sym (c ∙ rw e refl)

  -- What is too short is refused with 22.
  pub short_tick : b ≡ true → Stepped ws cur atoms next next stack stack (Err LentTooShort)
  unfolding tick tick_if next_after stack_left
  short_tick q = record { answer = sym (rw d (pick_true _ _ (short ∙ q))); next_holds = refl; stack_holds = refl }

  module _ (q : b ≡ false) where
    -- A byte above 1 of either kind is refused with 23.
    above_one : bits ws cur atoms ≡ false → Stepped ws cur atoms next next stack stack (Err NotBits)
    unfolding tick tick_if next_after stack_left
    above_one n = record { answer = sym (rw d (pick_false _ _ (short ∙ q) ∙ pick_false _ _ n)); next_holds = refl; stack_holds = refl }

    -- 23: an atom that is named.
    pub atom_above_one : not v.bits ≡ true → Stepped ws cur atoms next next stack stack (Err NotBits)
    unfolding bits
    atom_above_one n = above_one (rw (sym (ap (λ (x : Wanted). x.bits) e) ∙ not-true _ n) (no_test (all_bits (take (registers ws) cur))))

    module _ {a : Bool} (m : not v.bits ≡ false) (f : a ≡ all_bits (take v.registers cur)) where
      -- The registers before the tick, as `are_bits` judged them.
      all_bits_here : all_bits (take (registers ws) cur) ≡ a
      all_bits_here = sym (f ∙ rw e refl)

      -- A register above 1 is refused with 23.
      pub register_above_one : a ≡ false → Stepped ws cur atoms next next stack stack (Err NotBits)
      unfolding bits
      register_above_one n = above_one (pick_false _ _ (all_bits_here ∙ n))

      -- The atoms that are named are bits.
      atom_bits_here : named_bits atoms ws ≡ true
      atom_bits_here = sym (ap (λ (x : Wanted). x.bits) e) ∙ not-false _ m

      -- All slices are long enough.
      long : (registers ws ≤ length cur) × (registers ws ≤ length next) × (atoms_named ws ≤ length atoms) × (deepest ws ≤ length stack)
      unfolding too_short
      long =
          let g = neither_holds _ (short ∙ q) in
          let h = neither_holds _ g.1 in
          let p = neither_holds _ h.1 in
          (ltb-false _ _ g.0, ltb-false _ _ h.0, ltb-false _ _ p.0, ltb-false _ _ p.1)

      -- The evaluation may begin.
      pub nothing_refused : a ≡ true → Ready ws cur atoms next stack
      nothing_refused n = record {
        described = d;
        cur_long = long.0;
        next_long = long.1;
        atoms_long = long.2;
        stack_long = long.3;
        cur_bits = all_bits_here ∙ n;
        atom_bits = atom_bits_here;
      }

      -- The match bit, the registers in `next`, and a stack of zeros.
      pub evaluated_tick : {next' stack'' : List ℕ} {bit : ℕ} (stack' : List ℕ) → a ≡ true → Evaluated ws cur atoms next next' bit
          → length stack' ≡ length stack → stack'' ≡ replicate (length stack') 0 → Stepped ws cur atoms next next' stack stack'' (ticked bit)
      unfolding tick tick_if next_after stack_left bits
      evaluated_tick stack' n w l z = record {
        answer = sym (rw d (pick_false _ _ (short ∙ q) ∙ pick_true _ _ (pick_true _ _ (all_bits_here ∙ n) ∙ atom_bits_here) ∙ ap ticked (sym w.answer)));
        next_holds = w.holds;
        stack_holds = z ∙ rw l refl;
      }
