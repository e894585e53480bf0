-- One word of an expression on the stack that stands in the first places of a lent slice. They assume nothing.
use mathlib.Core.Path.{◌≡◌, refl, sym, ◌∙◌}
use mathlib.Core.Bool.{Bool, true, false}
use mathlib.Core.List.{List, [], ◌∷◌, tail}
use Prim.Native.Nat.{ℕ, zero, suc, ◌+◌, ◌-◌, ◌*◌, ◌<◌, ◌≤◌, max}
use native.Mathlib.Nat.{zero-mul, mul-le-mul, max-le}
use native.Mathlib.Numerals.{add-one}
use native.Mathlib.Omega.{arith}
use native.Mathlib.Decide.{dec_le}
use lib.Bits.{bit_and}
use lib.Dec.{eqb, ltb}
use lib.ListN.{length, get_or, set, length-set}
use lib.Seq.{get_or-set_same, get_or-set_other}
use borrow.Author.Tests.{eq-eqb, le-ltb, ltb-false, eqb-true, eqb-false}
use Rattle.words.specs.Choice.{pick, pick_true, pick_false, pick_case}
use Rattle.meaning.specs.Listing.{operation, argument, row_of}
use Rattle.meaning.specs.Tick.{negated, anded, ored, stack_after, all_bits}
use Rattle.meaning.specs.declared.Row.{Row}
use Rattle.words.proofs.Taken.{second_holds}
use Rattle.listing.proofs.Laws.{value_row, change_row, join_row}
use Rattle.tick.specs.Stack.{stack_in, value_of, Applicable, Applied}

-- The AND of two bits is their product.
pub and_is_product : {x y : ℕ} → x ≤ 1 → y ≤ 1 → bit_and x y ≡ x * y
and_is_product {x} {y} h k =
    elim (dec_le 1 x) [
      | yes a ↦
          elim (dec_le 1 y) [
            | yes b ↦ let p : x ≡ 1 = omega arith in let q : y ≡ 1 = omega arith in rw (p, q) refl
            | no b ↦ let p : x ≡ 1 = omega arith in let q : y ≡ 0 = omega arith in rw (p, q) refl
          ]
      | no a ↦ let p : x ≡ 0 = omega arith in rw (p, zero-mul y) refl
    ]

-- A store past the stack does not change it.
kept : (places : List ℕ) (h i v : ℕ) → h ≤ i → stack_in (set places i v) h ≡ stack_in places h
unfolding stack_in
kept places zero i v k = refl
kept places (suc h) i v k = rw (get_or-set_other places i h v 0 (omega arith), kept places h i v (omega arith)) refl

-- A store just past the stack puts a value on it.
put_on : (places : List ℕ) (h v : ℕ) → h < length places → stack_in (set places h v) (h + 1) ≡ v ∷ stack_in places h
unfolding stack_in
put_on places h v k = rw (add-one h, get_or-set_same places h v 0 k, kept places h h v (omega arith)) refl

-- The stack with its top apart.
one_off : (places : List ℕ) (h : ℕ) → 1 ≤ h → stack_in places h ≡ get_or places (h - 1) 0 ∷ stack_in places (h - 1)
unfolding stack_in
one_off places zero k = absurd (omega arith)
one_off places (suc h) k = let e : suc h - 1 ≡ h = omega arith in rw e refl

-- The stack with its two topmost values apart.
two_off : (places : List ℕ) (h : ℕ) → 2 ≤ h → stack_in places h ≡ get_or places (h - 1) 0 ∷ get_or places (h - 2) 0 ∷ stack_in places (h - 2)
two_off places h k =
    let e : h - 1 - 1 ≡ h - 2 = omega arith in
    one_off places h (omega arith) ∙ rw (one_off places (h - 1) (omega arith), e) refl

-- The first of a list of bits.
pub first_bit : (x : ℕ) (st : List ℕ) → all_bits (x ∷ st) ≡ true → x ≤ 1
unfolding all_bits
first_bit x st e = ltb-false 1 x (second_holds (ltb 1 x) e).0

-- The bits behind the first.
pub rest_bits : (x : ℕ) (st : List ℕ) → all_bits (x ∷ st) ≡ true → all_bits st ≡ true
unfolding all_bits
rest_bits x st e = (second_holds (ltb 1 x) e).1

-- A bit on top of a stack of bits leaves a stack of bits.
more_bits : (x : ℕ) (st : List ℕ) → x ≤ 1 → all_bits st ≡ true → all_bits (x ∷ st) ≡ true
unfolding all_bits
more_bits x st h e = pick_false _ _ (le-ltb 1 x h) ∙ e

-- A choice of values on one stack.
chosen : (b : Bool) (x y : ℕ) (st rest : List ℕ) → (b ≡ false → rest ≡ y ∷ st) → pick b (x ∷ st) rest ≡ pick b x y ∷ st
unfolding pick
chosen true x y st rest f = refl
chosen false x y st rest f = f refl

-- Operations 1 to 4 put their value on the stack.
value_after : (cur atoms : List ℕ) (w : ℕ) (st : List ℕ) → 1 ≤ operation w → operation w < 5 → stack_after cur atoms w st ≡ value_of cur atoms w ∷ st
unfolding stack_after value_of
value_after cur atoms w st p q =
    chosen (eqb (operation w) 1) _ _ st _
    λ a. chosen (eqb (operation w) 2) _ _ st _
    λ b. chosen (eqb (operation w) 3) _ _ st _
    λ c. pick_true _ _ (eq-eqb (operation w) 4 (omega (arith, eqb-false (operation w) 1 a, eqb-false (operation w) 2 b, eqb-false (operation w) 3 c)))

-- What the code asks of the stack before it reads or writes there.
module _ {registers lent : ℕ} {places : List ℕ} {h w : ℕ} (r : Applicable registers lent places h w) where
  -- A value is put just past the stack, which has room.
  room_above : operation w < 5 → h < length places
  room_above q = omega (arith, rw (value_row (operation w) r.operand.known (omega arith)) at r.room)

  -- And and or find two values.
  pub two_there : 7 ≤ operation w → 2 ≤ h
  two_there q = omega (arith, rw (join_row (operation w) q (omega (arith, r.value))) at r.operand.found)

  -- Any, not, and, or find a value.
  pub one_there : 5 ≤ operation w → 1 ≤ h
  one_there q =
      elim (dec_le 7 (operation w)) [
        | yes k ↦ omega (arith, two_there k)
        | no k ↦ omega (arith, rw (change_row (operation w) q (omega arith)) at r.operand.found)
      ]

  -- The top lies within the slice.
  pub room_for_one : 5 ≤ operation w → h - 1 < length places
  room_for_one q = omega (arith, one_there q, r.inside)

  -- The value below the top lies within the slice.
  pub room_for_two : 7 ≤ operation w → h - 2 < length places
  room_for_two q = omega (arith, two_there q, r.inside)

  -- The top is a bit.
  pub top_bit : 5 ≤ operation w → get_or places (h - 1) 0 ≤ 1
  top_bit q = first_bit _ _ (rw (one_off places h (one_there q)) at r.bits)

  -- The value below the top is a bit.
  pub second_bit : 7 ≤ operation w → get_or places (h - 2) 0 ≤ 1
  second_bit q = first_bit _ _ (rest_bits _ _ (rw (two_off places h (two_there q)) at r.bits))

  -- By the table's rows, the values that a word takes are there.
  pub value_finds : {v : Row} → v ≡ row_of 1 → v.takes ≤ h
  value_finds e = rw (e, value_row 1 (omega arith) (omega arith)) (omega arith)

  pub any_finds : {v : Row} → v ≡ row_of 5 → 5 ≤ operation w → v.takes ≤ h
  any_finds e q = rw (e, change_row 5 (omega arith) (omega arith)) (one_there q)

  pub not_finds : {v : Row} → v ≡ row_of 6 → 5 ≤ operation w → v.takes ≤ h
  not_finds e q = rw (e, change_row 6 (omega arith) (omega arith)) (one_there q)

  pub and_finds : {v : Row} → v ≡ row_of 7 → 7 ≤ operation w → v.takes ≤ h
  and_finds e q = rw (e, join_row 7 (omega arith) (omega arith)) (two_there q)

  pub or_finds : {v : Row} → v ≡ row_of 8 → 7 ≤ operation w → v.takes ≤ h
  or_finds e q = rw (e, join_row 8 (omega arith) (omega arith)) (two_there q)

  -- By the table's rows, the place where a word's value goes lies within the slice.
  pub value_room : {v : Row} → v ≡ row_of 1 → operation w < 5 → h - v.takes < length places
  value_room e q = rw (e, value_row 1 (omega arith) (omega arith)) (omega (arith, room_above q))

  pub not_room : {v : Row} → v ≡ row_of 6 → 5 ≤ operation w → h - v.takes < length places
  not_room e q = rw (e, change_row 6 (omega arith) (omega arith)) (room_for_one q)

  pub and_room : {v : Row} → v ≡ row_of 7 → 7 ≤ operation w → h - v.takes < length places
  and_room e q = rw (e, join_row 7 (omega arith) (omega arith)) (room_for_two q)

  pub or_room : {v : Row} → v ≡ row_of 8 → 7 ≤ operation w → h - v.takes < length places
  or_room e q = rw (e, join_row 8 (omega arith) (omega arith)) (room_for_two q)

  -- Each kind of operation, as the code ends it.
  module _ {cur atoms after : List ℕ} {n : ℕ} where
    -- Operations 1 to 4 are applied by putting their value just past the stack.
    pub apply_value : {v : ℕ} {k : Row} → operation w < 5 → v ≡ value_of cur atoms w → k ≡ row_of 1 → n ≡ h - k.takes + k.leaves
        → after ≡ set places (h - k.takes) v → Applied cur atoms places after h w n
    apply_value {v} q e f x y =
        let leaf = f ∙ value_row 1 (omega arith) (omega arith) in
        let a : n ≡ h + 1 = x ∙ rw leaf (omega arith) in
        let none : h - 0 ≡ h = omega arith in
        let b : after ≡ set places h v = y ∙ rw (leaf, none) refl in
        record {
          long = rw b (length-set places h v);
          high = rw (a, value_row (operation w) r.operand.known (omega arith)) (omega arith);
          holds = rw (a, b, put_on places h v (room_above q), e) (sym (value_after cur atoms w (stack_in places h) r.operand.known q));
        }

    -- Operation 6 is applied by changing the top.
    pub apply_not : {k : Row} → 5 ≤ operation w → (operation w ≡ 5 → ⊥) → operation w < 7 → k ≡ row_of 6 → n ≡ h - k.takes + k.leaves
        → after ≡ set places (h - k.takes) (1 - get_or places (h - 1) 0) → Applied cur atoms places after h w n
    unfolding stack_after pick negated
    apply_not u x v f y z =
        let q : operation w ≡ 6 = omega arith in
        let unary = f ∙ change_row 6 (omega arith) (omega arith) in
        let a : n ≡ h - 1 + 1 = y ∙ rw unary refl in
        let b : after ≡ set places (h - 1) (1 - get_or places (h - 1) 0) = z ∙ rw unary refl in
        record {
          long = rw b (length-set places (h - 1) (1 - get_or places (h - 1) 0));
          high = rw (a, change_row (operation w) (omega arith) (omega arith)) refl;
          holds = rw (a, b, q, put_on places (h - 1) (1 - get_or places (h - 1) 0) (room_for_one u), one_off places h (one_there u)) refl;
        }

    -- Operation 7 is applied by putting the product of the two topmost values in their place.
    pub apply_and : {k : Row} → operation w ≡ 7 → k ≡ row_of 7 → n ≡ h - k.takes + k.leaves
        → after ≡ set places (h - k.takes) (bit_and (get_or places (h - 2) 0) (get_or places (h - 1) 0)) → Applied cur atoms places after h w n
    unfolding stack_after pick anded
    apply_and q f y z =
        let x = get_or places (h - 2) 0 * get_or places (h - 1) 0 in
        let v = and_is_product (second_bit (omega arith)) (top_bit (omega arith)) in
        let binary = f ∙ join_row 7 (omega arith) (omega arith) in
        let a : n ≡ h - 2 + 1 = y ∙ rw binary refl in
        let b : after ≡ set places (h - 2) x = z ∙ rw (binary, v) refl in
        record {
          long = rw b (length-set places (h - 2) x);
          high = rw (a, join_row (operation w) (omega arith) (omega arith)) refl;
          holds = rw (a, b, q, put_on places (h - 2) x (room_for_two (omega arith)), two_off places h (two_there (omega arith))) refl;
        }

    -- Operation 8 is applied by putting the larger of the two topmost values in their place.
    pub apply_or : {x : ℕ} {k : Row} → 7 ≤ operation w → (operation w ≡ 7 → ⊥) → x ≡ max (get_or places (h - 2) 0) (get_or places (h - 1) 0) → k ≡ row_of 8
        → n ≡ h - k.takes + k.leaves → after ≡ set places (h - k.takes) x → Applied cur atoms places after h w n
    unfolding stack_after pick ored
    apply_or {x} l m v f y z =
        let q : operation w ≡ 8 = omega (arith, r.value) in
        let binary = f ∙ join_row 8 (omega arith) (omega arith) in
        let a : n ≡ h - 2 + 1 = y ∙ rw binary refl in
        let b : after ≡ set places (h - 2) x = z ∙ rw binary refl in
        record {
          long = rw b (length-set places (h - 2) x);
          high = rw (a, join_row (operation w) (omega arith) (omega arith)) refl;
          holds = rw (a, b, q, put_on places (h - 2) x (room_for_two (omega arith)), two_off places h (two_there (omega arith)), v) refl;
        }

  -- Operation 5 leaves a bit as it is.
  pub apply_any : {cur atoms : List ℕ} {n : ℕ} {k : Row} → operation w ≡ 5 → k ≡ row_of 5 → n ≡ h - k.takes + k.leaves → Applied cur atoms places places h w n
  unfolding stack_after pick
  apply_any {n = n} q f e =
      let a : n ≡ h - 1 + 1 = e ∙ rw (f ∙ change_row 5 (omega arith) (omega arith)) refl in
      let still : n ≡ h = omega (arith, a, one_there (omega arith)) in
      record { long = refl; high = rw (a, change_row (operation w) (omega arith) (omega arith)) refl; holds = rw (still, q) refl }

-- The negation of a bit is a bit.
negated_bits : (st : List ℕ) → all_bits st ≡ true → all_bits (negated st) ≡ true
unfolding negated
negated_bits [] e = e
negated_bits (x ∷ st) e = more_bits (1 - x) st (omega arith) (rest_bits x st e)

-- The AND of two bits is a bit.
anded_bits : (st : List ℕ) → all_bits st ≡ true → all_bits (anded st) ≡ true
unfolding anded all_bits
anded_bits [] e = refl
anded_bits (y ∷ []) e = refl
anded_bits (y ∷ x ∷ st) e =
    let f = rest_bits y (x ∷ st) e in
    more_bits (x * y) st (omega (arith, mul-le-mul (first_bit x st f) (first_bit y (x ∷ st) e))) (rest_bits x st f)

-- The OR of two bits is a bit.
ored_bits : (st : List ℕ) → all_bits st ≡ true → all_bits (ored st) ≡ true
unfolding ored all_bits
ored_bits [] e = refl
ored_bits (y ∷ []) e = refl
ored_bits (y ∷ x ∷ st) e =
    let f = rest_bits y (x ∷ st) e in
    more_bits (max x y) st (max-le (first_bit x st f) (first_bit y (x ∷ st) e)) (rest_bits x st f)

-- The stack without its top.
tail_bits : (st : List ℕ) → all_bits st ≡ true → all_bits (tail st) ≡ true
tail_bits [] e = e
tail_bits (x ∷ st) e = rest_bits x st e

-- Each value is 0 or 1.
abbrev Bits : List ℕ → Type 0
Bits st = all_bits st ≡ true

-- A word leaves bits on a stack of bits, where the atom or the register that it names is a bit.
pub bits_after : (cur atoms : List ℕ) (w : ℕ) (st : List ℕ) → (operation w ≡ 1 → get_or atoms (argument w) 0 ≤ 1) → (operation w ≡ 2 → get_or cur (argument w) 0 ≤ 1)
    → all_bits st ≡ true → all_bits (stack_after cur atoms w st) ≡ true
unfolding stack_after
bits_after cur atoms w st a c e =
    pick_case Bits _ (λ q. more_bits _ st (a (eqb-true _ _ q)) e)
    λ _. pick_case Bits _ (λ q. more_bits _ st (c (eqb-true _ _ q)) e)
    λ _. pick_case Bits _ (λ _. more_bits 0 st (omega arith) e)
    λ _. pick_case Bits _ (λ _. more_bits 1 st (omega arith) e)
    λ _. pick_case Bits _ (λ _. e)
    λ _. pick_case Bits _ (λ _. negated_bits st e)
    λ _. pick_case Bits _ (λ _. anded_bits st e)
    λ _. pick_case Bits _ (λ _. ored_bits st e) λ _. tail_bits st e

-- What a word of an expression asks for at each kind of operation, and what it then does.
pub ruleset applies = (
  one_there,
  two_there,
  room_for_one,
  room_for_two,
  top_bit,
  value_finds,
  any_finds,
  not_finds,
  and_finds,
  or_finds,
  value_room,
  not_room,
  and_room,
  or_room,
  apply_value,
  apply_any,
  apply_not,
  apply_and,
  apply_or,
)
