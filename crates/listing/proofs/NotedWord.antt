-- One word of the step: for each kind of operation, the tests that decide whether it fits, as the code makes them. They assume nothing.
use mathlib.Core.Path.{◌≡◌, refl, sym, ◌∙◌}
use mathlib.Core.Bool.{Bool, true, false}
use Rattle.std.proofs.Common.{Some, None}
use Prim.Native.Nat.{ℕ, ◌<◌, ◌≤◌}
use native.Mathlib.Omega.{arith}
use native.Mathlib.Decide.{dec_le}
use lib.Dec.{eqb, leb, ltb}
use borrow.Author.Tests.{eq-eqb, ne_eqb, eqb-true, eqb-false, lt-ltb, le-ltb, le-leb, lt-leb}
use Rattle.words.specs.Choice.{pick, pick_true, pick_false}
use Rattle.words.proofs.Taken.{no_test}
use Rattle.meaning.specs.Listing.{operation, argument, word, row_of, is_store}
use Rattle.meaning.specs.Check.{argument_fits, operands_fit, word_fits}
use Rattle.meaning.specs.declared.Row.{Row}
use Rattle.meaning.proofs.Operations.{operation_is_store, below_9_is_no_store}
use Rattle.listing.specs.Operands.{OperandFound}
use Rattle.listing.specs.Step.{tallied, noted, ended}
use Rattle.listing.specs.declared.Tally.{Tally}
use Rattle.listing.proofs.Laws.{value_row, end_row}

-- A word's operation, by where the word lies.
module _ {w : ℕ} where
  -- A word below the first store is no store: what the test for one gives is what the definition says.
  pub no_store_below : w < word 9 0 → leb (word 9 0) w ≡ is_store w
  no_store_below l = lt-leb (word 9 0) w l ∙ sym (below_9_is_no_store w (omega arith))

  -- From the first store on, what lies below the match is a store.
  pub a_store_below : word 9 0 ≤ w → ltb w (word 14 0) ≡ is_store w
  unfolding is_store
  a_store_below h =
      elim (dec_le (word 14 0) w) [
        | yes m ↦ le-ltb w (word 14 0) m ∙ sym (pick_true _ _ (le-leb 9 (operation w) (omega arith)) ∙ lt-leb (operation w) 13 (omega arith))
        | no m ↦ lt-ltb w (word 14 0) (omega arith) ∙ sym (operation_is_store w (omega arith) (omega arith))
      ]

-- The operands that a word of each kind finds.
module _ {h w : ℕ} where
  -- An atom or a register takes nothing.
  pub name_found : word 1 0 ≤ w → w < word 3 0 → OperandFound h w
  name_found p q = record { known = omega arith; last = omega arith; found = rw (value_row (operation w) (omega arith) (omega arith)) (omega arith) }

  -- Operations 3 to 8 take what their row says.
  pub plain_found : {v : Row} → word 3 0 ≤ w → w < word 9 0 → v ≡ row_of (operation w) → v.takes ≤ h → OperandFound h w
  plain_found p q e f = record { known = omega arith; last = omega arith; found = rw (← e) f }

  -- A store or the match takes the one value.
  end_found : 9 ≤ operation w → operation w ≤ 14 → h ≡ 1 → OperandFound h w
  end_found p q e = record { known = omega arith; last = q; found = rw (end_row (operation w) p q, e) (omega arith) }

  -- A store, told by where its word lies, takes the one value.
  pub store_found : word 9 0 ≤ w → w < word 14 0 → h ≡ 1 → OperandFound h w
  store_found p q e = end_found (omega arith) (omega arith) e

-- The argument of a word of each kind.
module _ (count k w : ℕ) where
  -- The argument of an atom's word is an atom number.
  atom_argument : operation w ≡ 1 → argument_fits count k w ≡ ltb (argument w) 65536
  unfolding argument_fits
  atom_argument q = pick_true _ _ (eq-eqb _ _ q)

  -- The argument of a register's word is a register number, below the count.
  register_argument : operation w ≡ 2 → argument_fits count k w ≡ pick (ltb (argument w) count) (ltb (argument w) 65536) false
  unfolding argument_fits
  register_argument q = pick_false _ _ (ne_eqb (operation w) 1 (λ z. omega arith)) ∙ pick_true _ _ (eq-eqb _ _ q)

  -- An operation from 3 on is a store, or has no argument.
  later_argument : 3 ≤ operation w
      → argument_fits count k w ≡ pick (is_store w) (pick (eqb (argument w) k) (ltb (argument w) 65536) false) (eqb (argument w) 0)
  unfolding argument_fits
  later_argument h = pick_false _ _ (ne_eqb (operation w) 1 (λ z. omega arith)) ∙ pick_false _ _ (ne_eqb (operation w) 2 (λ z. omega arith))

  -- Operations 3 to 8 have no argument.
  plain_argument : 3 ≤ operation w → operation w < 9 → argument_fits count k w ≡ eqb (argument w) 0
  plain_argument h l = later_argument h ∙ pick_false _ _ (below_9_is_no_store w l)

  -- A store has the number of the stores before it.
  store_argument : 9 ≤ operation w → operation w ≤ 13 → argument_fits count k w ≡ pick (eqb (argument w) k) (ltb (argument w) 65536) false
  store_argument h l = later_argument (omega arith) ∙ pick_true _ _ (operation_is_store w h l)

  -- The match has no argument.
  match_argument : operation w ≡ 14 → argument_fits count k w ≡ eqb (argument w) 0
  unfolding is_store
  match_argument o = later_argument (omega arith) ∙ pick_false _ _ (pick_true _ _ (le-leb 9 (operation w) (omega arith)) ∙ lt-leb (operation w) 13 (omega arith))

-- Whether a word fits, by its argument and its operands.
module _ (count k h w : ℕ) where
  -- A known operation fits where its argument and its operands do.
  both_fit : OperandFound h w → argument_fits count k w ≡ true → operands_fit h w ≡ true → word_fits count k h w ≡ true
  unfolding word_fits
  both_fit f a p =
      pick_false _ _ (ne_eqb (operation w) 0 (λ z. omega (arith, f.known))) ∙ pick_false _ _ (le-ltb 14 (operation w) f.last) ∙ pick_true _ _ a ∙ p

  -- The argument does not suit.
  wrong_argument : argument_fits count k w ≡ false → word_fits count k h w ≡ false
  unfolding word_fits
  wrong_argument a = rw (pick_false _ _ a) (rw (no_test (ltb 14 (operation w))) (no_test (eqb (operation w) 0)))

  -- The operands do not suit.
  wrong_operands : operands_fit h w ≡ false → word_fits count k h w ≡ false
  unfolding word_fits
  wrong_operands p = rw (p, no_test (argument_fits count k w), no_test (ltb 14 (operation w))) (no_test (eqb (operation w) 0))

  -- A word of operation 0 does not fit.
  no_operation : operation w ≡ 0 → word_fits count k h w ≡ false
  unfolding word_fits
  no_operation q = pick_true _ _ (eq-eqb _ _ q)

  -- An operation past the fourteen.
  past_the_operations : 14 < operation w → word_fits count k h w ≡ false
  unfolding word_fits
  past_the_operations q = rw (pick_true _ _ (lt-ltb _ _ q)) (no_test (eqb (operation w) 0))

-- Whether the operands are there.
module _ {h : ℕ} (w : ℕ) where
  -- What is taken is there.
  enough_operands : OperandFound h w → operation w < 9 → operands_fit h w ≡ true
  unfolding operands_fit
  enough_operands f l = pick_false _ _ (le-ltb _ _ f.found) ∙ pick_false _ _ (lt-leb _ _ l)

  -- A word whose operands are not there does not fit.
  too_few_operands : h < (row_of (operation w)).takes → operands_fit h w ≡ false
  unfolding operands_fit
  too_few_operands l = pick_true _ _ (lt-ltb _ _ l)

  -- A store or the match leaves nothing behind it.
  one_operand : OperandFound h w → 9 ≤ operation w → operands_fit h w ≡ eqb h 1
  unfolding operands_fit
  one_operand f l = pick_false _ _ (le-ltb _ _ f.found) ∙ pick_true _ _ (le-leb _ _ l)

  -- A store or the match does not stand at another height than 1.
  not_alone : 9 ≤ operation w → (h ≡ 1 → ⊥) → operands_fit h w ≡ false
  unfolding operands_fit
  not_alone l n = rw (pick_true _ _ (le-leb _ _ l), ne_eqb _ _ n) (no_test (ltb h (row_of (operation w)).takes))

-- The answer of the step, as the code gives it.
module _ (count : ℕ) (s : Tally) (w : ℕ) where
  -- A word that fits, and is not the match, is noted.
  fits : {t : Tally} → t ≡ tallied s w → operation w < 14 → word_fits count s.stores s.height w ≡ true → Some t ≡ noted count s w
  unfolding noted
  fits e n f = rw e (sym (pick_true _ _ (pick_false _ _ (ne_eqb (operation w) 14 (λ z. omega arith)) ∙ f)))

  -- A word that does not fit is not noted.
  unfit : word_fits count s.stores s.height w ≡ false → None ≡ noted count s w
  unfolding noted
  unfit f = sym (pick_false _ _ (rw f (no_test (eqb (operation w) 14))))

  -- A word below the first atom is not noted.
  pub unknown_word : w < word 1 0 → None ≡ noted count s w
  unknown_word l = unfit (no_operation _ _ _ w (omega arith))

  -- An atom or a register past the bound is not noted.
  pub number_too_large : word 1 0 ≤ w → w < word 3 0 → 65536 ≤ argument w → None ≡ noted count s w
  number_too_large p q l =
      let large = le-ltb (argument w) 65536 l in
      unfit
      (wrong_argument _ _ _ w
      (elim (dec_le 2 (operation w)) [
        | yes m ↦ register_argument _ _ w (omega arith) ∙ rw large (no_test (ltb (argument w) count))
        | no m ↦ atom_argument _ _ w (omega arith) ∙ large
      ]))

  -- An atom below the bound is noted.
  pub atom_noted : {t : Tally} → t ≡ tallied s w → word 1 0 ≤ w → w < word 2 0 → argument w < 65536 → Some t ≡ noted count s w
  atom_noted e p q l =
      let f = name_found p (omega arith) in
      fits e (omega arith) (both_fit _ _ _ w f (atom_argument _ _ w (omega arith) ∙ lt-ltb _ _ l) (enough_operands w f (omega arith)))

  -- A register past the count is not noted.
  pub register_too_large : word 2 0 ≤ w → w < word 3 0 → count ≤ argument w → None ≡ noted count s w
  register_too_large p q l = unfit (wrong_argument _ _ _ w (register_argument _ _ w (omega arith) ∙ pick_false _ _ (le-ltb _ _ l)))

  -- A register below the bound and the count is noted.
  pub register_noted : {t : Tally} → t ≡ tallied s w → word 2 0 ≤ w → w < word 3 0 → argument w < 65536 → argument w < count → Some t ≡ noted count s w
  register_noted e p q l m =
      let f = name_found (omega arith) q in
      fits e (omega arith)
      (both_fit _ _ _ w f (register_argument _ _ w (omega arith) ∙ pick_true _ _ (lt-ltb _ _ m) ∙ lt-ltb _ _ l) (enough_operands w f (omega arith)))

  -- A word of the operations 3 to 8 with an argument is not noted.
  pub filled_argument : word 3 0 ≤ w → w < word 9 0 → (argument w ≡ 0 → ⊥) → None ≡ noted count s w
  filled_argument p q n = unfit (wrong_argument _ _ _ w (plain_argument _ _ w (omega arith) (omega arith) ∙ ne_eqb _ _ n))

  -- An operation that does not find what it takes is not noted.
  pub plain_unfit : {v : Row} → v ≡ row_of (operation w) → s.height < v.takes → None ≡ noted count s w
  plain_unfit e l = unfit (wrong_operands _ _ _ w (too_few_operands w (rw (← e) l)))

  -- A word of the operations 3 to 8 that finds what it takes is noted.
  pub plain_noted : {t : Tally} {v : Row} → t ≡ tallied s w → word 3 0 ≤ w → w < word 9 0 → argument w ≡ 0 → v ≡ row_of (operation w) → v.takes ≤ s.height
      → Some t ≡ noted count s w
  plain_noted e p q a r l =
      let f = plain_found p q r l in
      fits e (omega arith) (both_fit _ _ _ w f (plain_argument _ _ w (omega arith) (omega arith) ∙ eq-eqb _ _ a) (enough_operands w f (omega arith)))

  -- Neither the match nor what is none of the fourteen is noted.
  pub past_the_stores : word 14 0 ≤ w → None ≡ noted count s w
  unfolding noted
  past_the_stores p =
      elim (dec_le 15 (operation w)) [
        | yes m ↦ unfit (past_the_operations _ _ _ w (omega arith))
        | no m ↦ sym (pick_false _ _ (pick_true _ _ (eq-eqb (operation w) 14 (omega arith))))
      ]

  -- A store at another height than 1 is not noted.
  pub store_not_alone : word 9 0 ≤ w → (s.height ≡ 1 → ⊥) → None ≡ noted count s w
  store_not_alone p n = unfit (wrong_operands _ _ _ w (not_alone w (omega arith) n))

  -- A store of another register than the next is not noted.
  pub another_register : word 9 0 ≤ w → w < word 14 0 → (argument w ≡ s.stores → ⊥) → None ≡ noted count s w
  another_register p q n = unfit (wrong_argument _ _ _ w (store_argument _ _ w (omega arith) (omega arith) ∙ pick_false _ _ (ne_eqb _ _ n)))

  -- A store past the bound is not noted.
  pub store_too_large : word 9 0 ≤ w → w < word 14 0 → 65536 ≤ argument w → None ≡ noted count s w
  store_too_large p q l =
      unfit
      (wrong_argument _ _ _ w
      (store_argument _ _ w (omega arith) (omega arith) ∙ rw (le-ltb (argument w) 65536 l) (no_test (eqb (argument w) s.stores))))

  -- A store of the next register, at height 1, is noted.
  pub store_noted : {t : Tally} → t ≡ tallied s w → word 9 0 ≤ w → w < word 14 0 → s.height ≡ 1 → argument w ≡ s.stores → argument w < 65536
      → Some t ≡ noted count s w
  store_noted e p q one a l =
      let f = store_found p q one in
      fits e (omega arith)
      (both_fit _ _ _ w f
      (store_argument _ _ w (omega arith) (omega arith) ∙ pick_true _ _ (eq-eqb _ _ a) ∙ lt-ltb _ _ l)
      (one_operand w f (omega arith) ∙ eq-eqb _ _ one))

  -- The match with argument 0 fits where one value is on the stack.
  match_fits : operation w ≡ 14 → argument w ≡ 0 → (b : Bool) → eqb s.height 1 ≡ b → b ≡ word_fits count s.stores s.height w
  match_fits o a true e =
      let one : s.height ≡ 1 = eqb-true _ _ e in
      let f = end_found {w = w} (omega arith) (omega arith) one in
      sym (both_fit _ _ _ w f (match_argument _ _ w o ∙ eq-eqb _ _ a) (one_operand w f (omega arith) ∙ e))
  match_fits o a false e = sym (wrong_operands _ _ _ w (not_alone w (omega arith) (eqb-false _ _ e)))

  -- The match may be the last word where it fits, whatever the count.
  pub ended_fits : operation w ≡ 14 → ended s w ≡ word_fits count s.stores s.height w
  unfolding ended
  ended_fits o =
      elim (dec_le 1 (argument w)) [
        | yes m ↦
            pick_false _ _ (ne_eqb w (word 14 0) (λ z. omega arith))
            ∙ sym (wrong_argument _ _ _ w (match_argument _ _ w o ∙ ne_eqb (argument w) 0 (λ z. omega arith)))
        | no m ↦ pick_true _ _ (eq-eqb w (word 14 0) (omega arith)) ∙ match_fits o (omega arith) (eqb s.height 1) refl
      ]

-- What `note` answers at each kind of word, and what `tallied` asks there.
pub ruleset noted_words = (
  unknown_word,
  number_too_large,
  atom_noted,
  register_too_large,
  register_noted,
  filled_argument,
  plain_unfit,
  plain_noted,
  past_the_stores,
  store_not_alone,
  another_register,
  store_too_large,
  store_noted,
  plain_found,
  store_found,
)
