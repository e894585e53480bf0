-- The check, the count of registers and the depth count as the code meets them, and what a word that fits may be taken to be.
-- They assume nothing.
use mathlib.Core.Path.{◌≡◌, refl, sym, ◌∙◌}
use Rattle.std.proofs.Common.{Result}
use mathlib.Core.Bool.{Bool, true, false, cond}
use mathlib.Core.List.{List, [], ◌∷◌, ◌++◌}
use Prim.Native.Nat.{ℕ, zero, suc, ◌+◌, ◌-◌, ◌<◌, ◌≤◌, max}
use native.Mathlib.Nat.{zero-add, max-zero, zero-max}
use native.Mathlib.Omega.{arith}
use native.Mathlib.Decide.{dec_le}
use lib.Dec.{T, eqb, leb, ltb, leb→le}
use lib.ListN.{length, get_or, take, drop, drop_of_length-le, get_or-replicate, length-replicate, get_or-append, replicate}
use lib.Seq.{get_or-drop}
use borrow.Author.Tests.{eq-eqb, ne_eqb, eqb-true, eqb-false, ltb-true, ltb-false, le-leb}
use Rattle.std.specs.List.{count_by}
use Rattle.std.proofs.lemmas.List.Recursion.{is_count_by}
use Rattle.std.proofs.lemmas.List.{take_all}
use Rattle.words.specs.Choice.{pick, pick_true, pick_false, pick_case}
use Rattle.words.proofs.Laws.{drop_here}
use Rattle.words.proofs.Taken.{both_hold, second_holds}
use Rattle.meaning.specs.Listing.{operation, argument, word, row, rows, row_of, height, is_store, registers, deepest_from, deepest}
use Rattle.meaning.specs.Check.{argument_fits, operands_fit, word_fits, after_match, check_from, check}
use Rattle.meaning.specs.declared.Row.{Row}
use Rattle.meaning.specs.Answers.{described, faulty}
use Rattle.meaning.specs.declared.refusal.Fault.{Fault}
use Rattle.listing.specs.Operands.{OperandFound, OperandsFound}

-- A rule of a table, by one test of each entry and of the default.
abbrev both : Bool → Bool → Bool
both true b = b
both false b = false

-- The test passes at each entry.
abbrev every : {A : Type 0} → (A → Bool) → List A → Bool
every f [] = true
every f (x ∷ xs) = both (f x) (every f xs)

-- Both tests passed, so the first did.
both_left : (a b : Bool) → T (both a b) → T a
both_left true b t = tt
both_left false b t = t

-- Both tests passed, so the second did.
both_right : (a b : Bool) → T (both a b) → T b
both_right true b t = t
both_right false b t = absurd t

-- A test that passes at each entry and at the default passes wherever one looks.
at_each : {A : Type 0} (f : A → Bool) (d : A) (xs : List A) → T (f d) → T (every f xs) → (k : ℕ) → T (f (get_or xs k d))
at_each f d [] h t k = h
at_each f d (x ∷ xs) h t zero = both_left (f x) (every f xs) t
at_each f d (x ∷ xs) h t (suc k) = at_each f d xs h (both_right (f x) (every f xs) t) k

-- No operation leaves more than one value.
leaves_one : (o : ℕ) → (row_of o).leaves ≤ 1
unfolding row_of rows
leaves_one o = leb→le _ _ (at_each (λ (r : Row). leb r.leaves 1) _ rows tt tt (o - 1))

-- A run of equal rows in the table.
rows_in : (k n : ℕ) (r : Row) (rest : List Row) → drop k rows ≡ replicate n r ++ rest → (o : ℕ) → k + 1 ≤ o → o ≤ k + n → row_of o ≡ r
unfolding row_of
rows_in k n r rest e o h m =
    let p : o - 1 ≡ k + (o - 1 - k) = omega arith in
    let q : o - 1 - k < length (replicate n r) = rw length-replicate (omega arith) in
    rw p
    (sym (get_or-drop k rows (o - 1 - k) (row 0 0))
    ∙ rw (e, get_or-append (replicate n r) rest (row 0 0) (o - 1 - k) q) (get_or-replicate n (o - 1 - k) r (row 0 0) (omega arith)))

-- What each kind of operation takes and leaves: a value; a change of the top; two values to one; a store or the match.

-- Atom, register, zero and one.
pub value_row : (o : ℕ) → 1 ≤ o → o ≤ 4 → row_of o ≡ row 0 1
unfolding rows
value_row o h k = rows_in 0 4 (row 0 1) _ refl o h k

-- Any and not.
pub change_row : (o : ℕ) → 5 ≤ o → o ≤ 6 → row_of o ≡ row 1 1
unfolding rows
change_row o h k = rows_in 4 2 (row 1 1) _ refl o h k

-- And and or.
pub join_row : (o : ℕ) → 7 ≤ o → o ≤ 8 → row_of o ≡ row 2 1
unfolding rows
join_row o h k = rows_in 6 2 (row 2 1) _ refl o h k

-- The five stores and the match.
pub end_row : (o : ℕ) → 9 ≤ o → o ≤ 14 → row_of o ≡ row 1 0
unfolding rows
end_row o h k = rows_in 8 6 (row 1 0) [] refl o h k

-- The row of one operation of a kind is that of each, and the kind is told by where the word lies.
module _ {r : Row} (w : ℕ) where
  pub a_value_for_each : r ≡ row_of 1 → 1 ≤ operation w → w < word 5 0 → r ≡ row_of (operation w)
  a_value_for_each e h k = e ∙ value_row 1 (omega arith) (omega arith) ∙ sym (value_row (operation w) h (omega arith))

  pub a_change_for_each : r ≡ row_of 5 → word 5 0 ≤ w → w < word 7 0 → r ≡ row_of (operation w)
  a_change_for_each e h k = e ∙ change_row 5 (omega arith) (omega arith) ∙ sym (change_row (operation w) (omega arith) (omega arith))

  pub a_join_for_each : r ≡ row_of 7 → word 7 0 ≤ w → w < word 9 0 → r ≡ row_of (operation w)
  a_join_for_each e h k = e ∙ join_row 7 (omega arith) (omega arith) ∙ sym (join_row (operation w) (omega arith) (omega arith))

  pub an_end_for_each : r ≡ row_of 9 → word 9 0 ≤ w → operation w ≤ 14 → r ≡ row_of (operation w)
  an_end_for_each e h k = e ∙ end_row 9 (omega arith) (omega arith) ∙ sym (end_row (operation w) (omega arith) k)

-- A word raises the stack by one at most.
pub height_rises_by_one : (h w : ℕ) → height h w ≤ h + 1
height_rises_by_one h w = omega (arith, leaves_one (operation w))

-- A store counts one, another word none.
pub store_counts_one : (w : ℕ) → pick (is_store w) 1 0 ≤ 1
store_counts_one w = pick_case (λ (n : ℕ). n ≤ 1) (is_store w) (λ _. omega arith) (λ _. omega arith)

-- What is known of a word that fits behind k stores at height h, in a slice of `count` registers.
pub record Fitting (count k h w : ℕ) : Type 0 where
  pub fits : word_fits count k h w ≡ true
  pub operand : OperandFound h w
  pub alone : 9 ≤ operation w → h ≡ 1
  pub suits : argument_fits count k w ≡ true

-- The tests of a word that fits, read one by one.
pub fitting : (count k h w : ℕ) → word_fits count k h w ≡ true → Fitting count k h w
unfolding word_fits operands_fit
fitting count k h w e =
    let p = second_holds (eqb (operation w) 0) e in
    let q = second_holds (ltb 14 (operation w)) p.1 in
    let a = both_hold (argument_fits count k w) q.1 in
    let o = second_holds (ltb h (row_of (operation w)).takes) a.1 in
    record {
      fits = e;
      operand = record { known = omega (arith, eqb-false (operation w) 0 p.0); last = ltb-false _ _ q.0; found = ltb-false _ _ o.0 };
      alone = λ n. eqb-true _ _ (sym (pick_true _ _ (le-leb _ _ n)) ∙ o.1);
      suits = a.0;
    }

-- The arguments of a word that fits.
module _ {count k h w : ℕ} (f : Fitting count k h w) where
  -- A register that is named passes both tests: it is below the count, and below the bound of register numbers.
  register_fits : operation w ≡ 2 → (ltb (argument w) count ≡ true) × (ltb (argument w) 65536 ≡ true)
  unfolding argument_fits
  register_fits q =
      let n : operation w ≡ 1 → ⊥ = λ z. omega arith in
      both_hold _ (sym (pick_false _ _ (ne_eqb _ _ n) ∙ pick_true _ _ (eq-eqb _ _ q)) ∙ f.suits)

  pub register_below : operation w ≡ 2 → argument w < count
  register_below q = ltb-true _ _ (register_fits q).0

  pub register_small : operation w ≡ 2 → argument w < 65536
  register_small q = ltb-true _ _ (register_fits q).1

-- The needs of the leaves, where a callee's result stands for a definition.

-- What the row that `row` answers takes is there.
pub takes_found : {v : Row} {h : ℕ} (o : ℕ) → v ≡ row_of o → (row_of o).takes ≤ h → v.takes ≤ h
takes_found o e q = rw e q

-- The height after a word, by the row that `row` answers.
pub height_by_row : {v : Row} {r : ℕ} (h w : ℕ) → v ≡ row_of (operation w) → r ≡ h - v.takes + v.leaves → r ≡ height h w
height_by_row h w e q = q ∙ rw e refl

-- The row of a word, and the height after it, by the row of its kind.
pub ruleset kinds = (a_value_for_each, a_change_for_each, a_join_for_each, an_end_for_each, takes_found, height_by_row)

-- The registers of a slice are its words that are stores: at its end all are counted.
registers_are_counted : (ws : List ℕ) → registers ws ≡ count_by is_store ws
unfolding registers pick
registers_are_counted = is_count_by registers is_store refl (λ w ws. by_store (is_store w) (registers ws))
  where
    by_store : (b : Bool) (n : ℕ) → pick b 1 0 + n ≡ cond b (1 + n) n
    by_store true n = refl
    by_store false n = zero-add n

pub all_are_counted : {n : ℕ} (ws : List ℕ) (p : ℕ) → n ≡ count_by is_store (take p ws) → length ws ≤ p → n ≡ registers ws
all_are_counted ws p e m = e ∙ rw (take_all p ws m) (sym (registers_are_counted ws))

-- The largest of three, in either order.
pub max_assoc : (a b c : ℕ) → max (max a b) c ≡ max a (max b c)
max_assoc a b c = omega arith

-- The words before the place p are counted.
pub record Deepening (ws : List ℕ) (deepest_yet h p : ℕ) : Type 0 where
  pub inside : p ≤ length ws
  pub low : h ≤ p
  pub found : OperandsFound h (drop p ws)
  pub rest : deepest ws ≡ max deepest_yet (deepest_from h (drop p ws))

-- Before the first word the deepest is 0.
pub deepening_begins : {ws : List ℕ} → OperandsFound 0 ws → Deepening ws 0 0 0
unfolding deepest
deepening_begins {ws} f = record { inside = omega arith; low = omega arith; found = f; rest = sym (zero-max (deepest_from 0 ws)) }

module _ {ws : List ℕ} {d h p : ℕ} (g : Deepening ws d h p) (k : p < length ws) where
  -- What the words from the place p on find, with its word apart.
  found_here : OperandsFound h (get_or ws p 0 ∷ drop (p + 1) ws)
  found_here = rw (drop_here ws p k) at g.found

  -- The word finds what it takes.
  pub operand_found : OperandFound h (get_or ws p 0)
  unfolding OperandsFound
  operand_found = found_here.0

  -- A word more is counted, with the height after it.
  pub deepening_on : {n m : ℕ} → m ≡ height h (get_or ws p 0) → n ≡ max d m → Deepening ws n m (p + 1)
  unfolding OperandsFound deepest_from
  deepening_on u v = record {
    inside = omega arith;
    low = omega (arith, g.low, height_rises_by_one h (get_or ws p 0));
    found = rw u found_here.1;
    rest = g.rest ∙ rw (drop_here ws p k, v, u) (sym (max_assoc d _ _));
  }

-- At the end the deepest of all is known.
pub deepening_ends : {ws : List ℕ} {d h p : ℕ} → Deepening ws d h p → length ws ≤ p → d ≡ deepest ws
unfolding deepest_from
deepening_ends {ws} {d} g m = sym (g.rest ∙ rw (drop_of_length-le ws m) (max-zero d))

-- What the depth count knows before the first word, at a word and at the end.
pub ruleset deepens = (deepening_begins, operand_found, deepening_ends)

-- A fault is not described, so that the test before it holds.
fits_else_faulty : (b : Bool) {x : Result (Unit {0}) Fault} (place : ℕ) → pick b x (faulty place) ≡ described → (b ≡ true) × (x ≡ described)
unfolding pick
fits_else_faulty true place e = (refl, e)
fits_else_faulty false place e = absurd (let z : ◌≡◌ {A = ℕ} 0 1 = cc in omega arith)

-- Nothing stands behind the match.
nothing_after : (place : ℕ) (ws : List ℕ) → after_match place ws ≡ described → ws ≡ []
unfolding after_match
nothing_after place [] e = refl
nothing_after place (w ∷ ws) e = absurd (let z : ◌≡◌ {A = ℕ} 0 1 = cc in omega arith)

-- What is known where the words from a place on are as described: the word fits; a match is the last; behind another word
-- the rest is as described.
module _ (count w : ℕ) (ws : List ℕ) (place k h : ℕ) (d : check_from count (w ∷ ws) place k h ≡ described) where
  -- The word fits.
  pub described_fits : Fitting count k h w
  unfolding check_from
  described_fits = fitting count k h w (fits_else_faulty _ place d).0

  -- Behind a word that is not the match the rest is as described.
  pub described_goes_on : (operation w ≡ 14 → ⊥) → check_from count ws (place + 1) (k + pick (is_store w) 1 0) (height h w) ≡ described
  unfolding check_from
  described_goes_on o = sym (pick_false _ _ (ne_eqb _ _ o)) ∙ (fits_else_faulty _ place d).1

  -- Behind the match there is nothing.
  pub described_ends : operation w ≡ 14 → ws ≡ []
  unfolding check_from
  described_ends o = nothing_after (place + 1) ws (sym (pick_true _ _ (eq-eqb _ _ o)) ∙ (fits_else_faulty _ place d).1)

-- Every described listing can have its stack counted.
operands_found_from : (count : ℕ) (ws : List ℕ) (place k h : ℕ) → check_from count ws place k h ≡ described → OperandsFound h ws
unfolding OperandsFound
operands_found_from count [] place k h d = tt
operands_found_from count (w ∷ ws) place k h d =
    let f = described_fits count w ws place k h d in (
      f.operand,
      elim (dec_le 14 (operation w)) [
        | yes o ↦ rw (described_ends count w ws place k h d (omega (arith, f.operand.last))) tt
        | no o ↦ operands_found_from count ws (place + 1) (k + pick (is_store w) 1 0) (height h w) (described_goes_on count w ws place k h d λ e. omega arith)
      ],
    )

-- `deepest` may be asked of a described listing.
pub described_operands_found : (ws : List ℕ) → check ws ≡ described → OperandsFound 0 ws
unfolding check
described_operands_found ws d = operands_found_from (registers ws) ws 0 0 0 d
