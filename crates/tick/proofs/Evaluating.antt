-- The second pass: the words before a place are evaluated, and what remains gives the rest of the stores and the match bit.
-- They assume nothing.
use mathlib.Core.Path.{◌≡◌, refl, sym, ◌∙◌}
use mathlib.Core.Bool.{Bool, true, false}
use mathlib.Core.List.{List, [], ◌∷◌, tail}
use Prim.Native.Nat.{ℕ, zero, suc, ◌+◌, ◌-◌, ◌<◌, ◌≤◌, max}
use native.Mathlib.Nat.{zero-add, add-zero, add_assoc, le-max_left, le-max_right}
use native.Mathlib.Omega.{arith}
use lib.Dec.{eqb, ltb}
use lib.ListN.{length, get_or, set, take, drop, length-set, drop_of_length-le}
use lib.Seq.{length-take-le, get_or-take}
use borrow.Author.Tests.{eq-eqb, ne_eqb, le-leb, lt-leb, ltb-false}
use Rattle.words.specs.Choice.{pick, pick_true, pick_false}
use Rattle.words.specs.Written.{written, Wrote}
use Rattle.words.proofs.Laws.{drop_here, Going, begin, go_word, done}
use Rattle.meaning.specs.Listing.{operation, argument, row_of, height, is_store, registers, deepest_from, deepest, atoms_named}
use Rattle.meaning.specs.Check.{check_from, check}
use Rattle.meaning.specs.Tick.{top, stack_after, stored, matched, all_bits, named_bits}
use Rattle.meaning.specs.declared.Row.{Row}
use Rattle.meaning.specs.Answers.{described}
use Rattle.words.proofs.Taken.{second_holds}
use Rattle.meaning.proofs.Operations.{operation_is_store, below_9_is_no_store}
use Rattle.listing.proofs.Laws.{end_row, Fitting, register_below, described_fits, described_goes_on, described_ends}
use Rattle.tick.specs.Stack.{stack_in, Applicable, Applied, Ready, Evaluated}
use Rattle.tick.proofs.AppliedWord.{bits_after, first_bit, rest_bits}
use Rattle.listing.proofs.OnePass.{word_at, behind}

-- A byte of bits is a bit.
bit_at : (xs : List ℕ) (p : ℕ) → all_bits xs ≡ true → p < length xs → get_or xs p 0 ≤ 1
bit_at [] p e h = omega arith
bit_at (x ∷ xs) zero e h = first_bit x xs e
bit_at (x ∷ xs) (suc p) e h = bit_at xs p (rest_bits x xs e) (omega arith)

-- The atoms named by the later words are bits too.
later_bits : (atom above later : Bool) → pick atom (pick above false later) later ≡ true → later ≡ true
unfolding pick
later_bits true above later e = (second_holds above e).1
later_bits false above later e = e

-- What one word does to the stores and the match bit that remain.
module _ (cur atoms : List ℕ) (w : ℕ) (ws st : List ℕ) where
  -- A word that is no store adds none.
  stored_past : is_store w ≡ false → stored cur atoms (w ∷ ws) st ≡ stored cur atoms ws (stack_after cur atoms w st)
  unfolding stored
  stored_past q = pick_false _ _ q

  -- A store takes the top.
  stored_here : is_store w ≡ true → stored cur atoms (w ∷ ws) st ≡ top st ∷ stored cur atoms ws (stack_after cur atoms w st)
  unfolding stored
  stored_here q = pick_true _ _ q

  -- The match comes later.
  matched_past : (operation w ≡ 14 → ⊥) → matched cur atoms (w ∷ ws) st ≡ matched cur atoms ws (stack_after cur atoms w st)
  unfolding matched
  matched_past q = pick_false _ _ (ne_eqb _ _ q)

  -- The match takes the top.
  matched_here : operation w ≡ 14 → matched cur atoms (w ∷ ws) st ≡ top st
  unfolding matched
  matched_here q = pick_true _ _ (eq-eqb _ _ q)

  -- A store or the match takes the top off.
  end_after : 9 ≤ operation w → stack_after cur atoms w st ≡ tail st
  unfolding stack_after
  end_after h =
      pick_false _ _ (past 1 (omega arith))
      ∙ pick_false _ _ (past 2 (omega arith))
      ∙ pick_false _ _ (past 3 (omega arith))
      ∙ pick_false _ _ (past 4 (omega arith))
      ∙ pick_false _ _ (past 5 (omega arith))
      ∙ pick_false _ _ (past 6 (omega arith))
      ∙ pick_false _ _ (past 7 (omega arith))
      ∙ pick_false _ _ (past 8 (omega arith))
    where
      past : (n : ℕ) → n < 9 → eqb (operation w) n ≡ false
      past n k = ne_eqb (operation w) n λ z. omega arith

-- One byte stored.
put_there : {o o' : List ℕ} {k n v : ℕ} → n ≡ k + 1 → o' ≡ set o k v → Wrote o o' k n (v ∷ [])
unfolding written
put_there e q = record { holds = q; ends = e }

-- The match is no store.
match_no_store : (w : ℕ) → operation w ≡ 14 → is_store w ≡ false
unfolding is_store
match_no_store w q = pick_true _ _ (le-leb 9 (operation w) (omega arith)) ∙ lt-leb (operation w) 13 (omega arith)

-- A word that is no store does not count as one.
no_store_more : (w k : ℕ) → is_store w ≡ false → k + pick (is_store w) 1 0 ≡ k
no_store_more w k q = rw (pick_false {A = ℕ} 1 0 q) (add-zero k)

-- The words before the place p are evaluated.
pub record Evaluating (ws cur atoms next next' stack stack' : List ℕ) (k h p : ℕ) : Type 0 where
  pub inside : p ≤ length ws
  pub going : Going next 0 (stored cur atoms ws []) next' k (stored cur atoms (drop p ws) (stack_in stack' h))
  pub matches : matched cur atoms ws [] ≡ matched cur atoms (drop p ws) (stack_in stack' h)
  pub fits : check_from (registers ws) (drop p ws) p k h ≡ described
  pub left : registers ws ≡ k + registers (drop p ws)
  pub named : atoms_named (drop p ws) ≤ length atoms
  pub deep : deepest_from h (drop p ws) ≤ length stack'
  pub high : h ≤ length stack'
  pub atom_bits : named_bits atoms (drop p ws) ≡ true
  pub bits : all_bits (stack_in stack' h) ≡ true
  pub long : length stack' ≡ length stack
  pub room : registers ws ≤ length next'

-- Before the first word nothing is stored.
pub evaluating_begins : {ws cur atoms next stack : List ℕ} → Ready ws cur atoms next stack → Evaluating ws cur atoms next next stack stack 0 0 0
unfolding check deepest stack_in all_bits
evaluating_begins {ws} {cur} {atoms} {next} {stack} r = record {
  inside = omega arith;
  going = begin next 0 (stored cur atoms ws []);
  matches = refl;
  fits = r.described;
  left = sym (zero-add (registers ws));
  named = r.atoms_long;
  deep = r.stack_long;
  high = omega arith;
  atom_bits = r.atom_bits;
  bits = refl;
  long = refl;
  room = r.next_long;
}

module _ {ws cur atoms next next' stack stack' : List ℕ} {k h p : ℕ} (r : Ready ws cur atoms next stack)
    (g : Evaluating ws cur atoms next next' stack stack' k h p) (l : p < length ws) where
  -- What remains is as described, with the word at p apart.
  fits_here : check_from (registers ws) (word_at ws p ∷ behind ws p) p k h ≡ described
  fits_here = rw (drop_here ws p l) at g.fits

  -- The word at p fits.
  fitting_here : Fitting (registers ws) k h (word_at ws p)
  fitting_here = described_fits _ _ _ _ _ _ fits_here

  -- The atoms that the word and the later ones name are lent.
  atoms_here : max (pick (eqb (operation (word_at ws p)) 1) (argument (word_at ws p) + 1) 0) (atoms_named (behind ws p)) ≤ length atoms
  unfolding atoms_named
  atoms_here = rw (drop_here ws p l) at g.named

  -- An atom that is named is lent.
  atom_lent_here : operation (word_at ws p) ≡ 1 → argument (word_at ws p) < length atoms
  atom_lent_here q =
      let m = rw (pick_true {A = ℕ} (argument (word_at ws p) + 1) 0 (eq-eqb _ _ q)) at atoms_here in
      omega (arith, le-max_left (argument (word_at ws p) + 1) (atoms_named (behind ws p)))

  -- A register that is named is lent, where all are.
  register_lent_here : {lent : ℕ} → registers ws ≤ lent → operation (word_at ws p) ≡ 2 → argument (word_at ws p) < lent
  register_lent_here m q = omega (arith, register_below fitting_here q, m)

  -- The atoms that the word and the later ones name are bits.
  bits_here : pick (eqb (operation (word_at ws p)) 1) (pick (ltb 1 (get_or atoms (argument (word_at ws p)) 0)) false (named_bits atoms (behind ws p))) (named_bits atoms (behind ws p)) ≡ true
  unfolding named_bits
  bits_here = rw (drop_here ws p l) at g.atom_bits

  -- An atom that is named is a bit.
  atom_bit_here : operation (word_at ws p) ≡ 1 → get_or atoms (argument (word_at ws p)) 0 ≤ 1
  atom_bit_here q = ltb-false _ _ (second_holds _ (sym (pick_true _ _ (eq-eqb _ _ q)) ∙ bits_here)).0

  -- A register that is named is a bit.
  register_bit_here : operation (word_at ws p) ≡ 2 → get_or cur (argument (word_at ws p)) 0 ≤ 1
  register_bit_here q =
      let b = register_below fitting_here q in
      let n : argument (word_at ws p) < length (take (registers ws) cur) = rw (length-take-le (registers ws) cur r.cur_long) b in
      rw (get_or-take (registers ws) cur (argument (word_at ws p)) 0 b) at (bit_at (take (registers ws) cur) (argument (word_at ws p)) r.cur_bits n)

  -- The height after the word, and later ones, lie within the stack.
  deep_here : max (height h (word_at ws p)) (deepest_from (height h (word_at ws p)) (behind ws p)) ≤ length stack'
  unfolding deepest_from
  deep_here = rw (drop_here ws p l) at g.deep

  -- The stores that remain, with the word at p apart.
  left_here : registers ws ≡ k + (pick (is_store (word_at ws p)) 1 0 + registers (behind ws p))
  unfolding registers
  left_here = g.left ∙ rw (drop_here ws p l) refl

  -- What `apply` asks of a word of an expression, and of as many registers as there are.
  pub applicable : {lent : ℕ} → registers ws ≤ lent → operation (word_at ws p) < 9 → Applicable lent (length atoms) stack' h (word_at ws p)
  applicable m q = record {
    operand = fitting_here.operand;
    value = q;
    inside = g.high;
    room = omega (arith, deep_here, le-max_left (height h (word_at ws p)) (deepest_from (height h (word_at ws p)) (behind ws p)));
    lent = record { atom = atom_lent_here; register = register_lent_here m };
    bits = g.bits;
  }

  -- A word of an expression is applied.
  pub evaluating_on : {stack'' : List ℕ} {n : ℕ} → operation (word_at ws p) < 9 → Applied cur atoms stack' stack'' h (word_at ws p) n
      → Evaluating ws cur atoms next next' stack stack'' k n (p + 1)
  evaluating_on {stack''} {n} q a =
      let past : operation (word_at ws p) ≡ 14 → ⊥ = λ z. omega arith in
      let none = below_9_is_no_store (word_at ws p) q in
      record {
        inside = omega arith;
        going = rw (a.holds, ← stored_past cur atoms (word_at ws p) (behind ws p) (stack_in stack' h) none) (rw (drop_here ws p l) at g.going);
        matches = g.matches ∙ rw (drop_here ws p l, a.holds) (matched_past cur atoms (word_at ws p) (behind ws p) (stack_in stack' h) past);
        fits = rw (a.high, ← no_store_more (word_at ws p) k none) (described_goes_on _ _ _ _ _ _ fits_here past);
        left = left_here ∙ rw (pick_false {A = ℕ} 1 0 none, zero-add) refl;
        named = omega (arith, atoms_here, le-max_right (pick (eqb (operation (word_at ws p)) 1) (argument (word_at ws p) + 1) 0) (atoms_named (behind ws p)));
        deep = rw a.high (omega (arith, a.long, deep_here, le-max_right (height h (word_at ws p)) (deepest_from (height h (word_at ws p)) (behind ws p))));
        high = omega (arith, a.high, a.long, deep_here, le-max_left (height h (word_at ws p)) (deepest_from (height h (word_at ws p)) (behind ws p)));
        atom_bits = later_bits _ _ _ bits_here;
        bits = rw a.holds (bits_after cur atoms (word_at ws p) (stack_in stack' h) atom_bit_here register_bit_here g.bits);
        long = a.long ∙ g.long;
        room = g.room;
      }

  -- A store or the match finds one value, the stack's first.
  module _ (q : 9 ≤ operation (word_at ws p)) where
    -- There is exactly one value.
    one_value : h ≡ 1
    one_value = fitting_here.alone q

    -- A store finds the one value.
    pub store_finds : {row : Row} → row ≡ row_of 9 → row.takes ≤ h
    store_finds e = rw (e, end_row 9 (omega arith) (omega arith), one_value) (omega arith)

    -- The one value lies within the slice.
    pub value_there : 0 < length stack'
    value_there = omega (arith, one_value, g.high)

    -- The one value is the first byte.
    stack_here : stack_in stack' h ≡ get_or stack' 0 0 ∷ []
    unfolding stack_in
    stack_here = rw one_value refl

    module _ (o : operation (word_at ws p) ≡ 14 → ⊥) where
      -- What is not the match is a store.
      store_here : is_store (word_at ws p) ≡ true
      store_here = operation_is_store (word_at ws p) q (omega (arith, fitting_here.operand.last))

      -- The store's register lies within `next`.
      pub room_for_store : k < length next'
      room_for_store = omega (arith, left_here, g.room, pick_true {A = ℕ} 1 0 store_here)

      -- A register takes its store, and the stack is empty.
      stored_there : {next'' : List ℕ} {n : ℕ} → n ≡ k + 1 → next'' ≡ set next' k (get_or stack' 0 0) → Evaluating ws cur atoms next next'' stack stack' n 0 (p + 1)
      unfolding stack_in all_bits top written
      stored_there u v =
          let empty : stack_after cur atoms (word_at ws p) (stack_in stack' h) ≡ [] = end_after cur atoms (word_at ws p) [] (stack_in stack' h) q ∙ rw stack_here refl in
          let low : height h (word_at ws p) ≡ 0 = rw (end_row (operation (word_at ws p)) q fitting_here.operand.last, one_value) refl in
          let more : ◌≡◌ {A = ℕ} (pick (is_store (word_at ws p)) 1 0) 1 = pick_true {A = ℕ} 1 0 store_here in
          record {
            inside = omega arith;
            going =
                rw empty at
                (go_word (rw (drop_here ws p l, stored_here cur atoms (word_at ws p) (behind ws p) (stack_in stack' h) store_here) at g.going)
                (sym (rw stack_here refl))
                (put_there u v));
            matches = g.matches ∙ rw (drop_here ws p l) (matched_past cur atoms (word_at ws p) (behind ws p) (stack_in stack' h) o ∙ rw empty refl);
            fits = rw u (rw (more, low) at (described_goes_on _ _ _ _ _ _ fits_here o));
            left = left_here ∙ rw (more, u) (sym (add_assoc k 1 _));
            named = omega (arith, atoms_here, le-max_right (pick (eqb (operation (word_at ws p)) 1) (argument (word_at ws p) + 1) 0) (atoms_named (behind ws p)));
            deep = omega (arith, rw low at deep_here, le-max_right 0 (deepest_from 0 (behind ws p)));
            high = omega arith;
            atom_bits = later_bits _ _ _ bits_here;
            bits = refl;
            long = g.long;
            room = rw (v, length-set next' k (get_or stack' 0 0)) g.room;
          }

      -- A register takes its store, and the stack has the height that the row of a store leaves.
      pub evaluating_stored : {next'' : List ℕ} {n m : ℕ} {row : Row} → n ≡ k + 1 → next'' ≡ set next' k (get_or stack' 0 0) → row ≡ row_of 9
          → m ≡ h - row.takes + row.leaves → Evaluating ws cur atoms next next'' stack stack' n m (p + 1)
      evaluating_stored {m = m} u v e f =
          let none : m ≡ 0 = f ∙ rw (e, end_row 9 (omega arith) (omega arith), one_value) refl in
          rw none (stored_there u v)

  -- At the match all registers have their stores.
  pub evaluated_there : operation (word_at ws p) ≡ 14 → Evaluated ws cur atoms next next' (get_or stack' 0 0)
  unfolding top stored
  evaluated_there o =
      let q : 9 ≤ operation (word_at ws p) = omega arith in
      record {
        answer = sym (g.matches ∙ rw (drop_here ws p l) (matched_here cur atoms (word_at ws p) (behind ws p) (stack_in stack' h) o ∙ rw (stack_here q) refl));
        holds = (done (rw (drop_here ws p l, stored_past cur atoms (word_at ws p) (behind ws p) (stack_in stack' h) (match_no_store (word_at ws p) o), described_ends _ _ _ _ _ _ fits_here o) at g.going)).holds;
      }

-- A described listing has its match.
pub never_past : {ws cur atoms next next' stack stack' : List ℕ} {k h p : ℕ} → Evaluating ws cur atoms next next' stack stack' k h p → length ws ≤ p
    → Evaluated ws cur atoms next next' 0
unfolding check_from
never_past {ws} g m = absurd (let q = rw (drop_of_length-le ws m) at g.fits in let z : ◌≡◌ {A = ℕ} 0 1 = cc in omega arith)
