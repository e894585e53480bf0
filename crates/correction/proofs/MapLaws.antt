-- Laws of the map, as the code meets them: whether it is in order, and that one look at a map in order finds whether it
-- names a pixel. They assume nothing.
use mathlib.Core.Path.{◌≡◌, refl, sym, ap, ◌∙◌}
use Rattle.std.specs.Prelude.{Some, None}
use mathlib.Core.Bool.{true, false}
use mathlib.Core.List.{List, [], ◌∷◌}
use Prim.Native.Nat.{ℕ, zero, suc, ◌+◌, ◌-◌, ◌*◌, ◌/◌, ◌%◌, ◌≤◌, ◌<◌}
use native.Mathlib.Omega.{arith}
use native.Mathlib.Decide.{dec_le}
use lib.ListN.{length, get_or, drop, drop_of_length-le}
use lib.Seq.{drop-drop}
use borrow.Author.Tests.{ltb-false, leb-false, eq-eqb, ne_eqb, lt-ltb, le-ltb, le-leb, lt-leb}
use Rattle.words.specs.Choice.{pick_true, pick_false}
use Rattle.words.proofs.Laws.{drop_here}
use Rattle.words.proofs.Taken.{second_holds}
use Rattle.correction.specs.Map.{entry_of, tick_of, names, ordered, Reached, LookedUp}

-- The word of a pixel gives its tick back.
tick_of_entry : (row column : ℕ) → column < 65536 → tick_of (entry_of row column) ≡ row * 752 + column
tick_of_entry row column h = omega arith

-- What a map in order says of its first entry and of the rest.
record First (from entry : ℕ) (map : List ℕ) : Type 0 where
  column : entry % 65536 < 752
  later : from ≤ tick_of entry
  rest : ordered (tick_of entry + 1) map ≡ true

first : (from entry : ℕ) (map : List ℕ) → ordered from (entry ∷ map) ≡ true → First from entry map
unfolding ordered
first from entry map o =
    let p = second_holds _ o in
    let q = second_holds _ p.1 in
    record { column = leb-false _ _ p.0; later = ltb-false _ _ q.0; rest = q.1 }

-- A map in order names no pixel that came in before its first.
none_before : (map : List ℕ) (from row column : ℕ) → column < 752 → row * 752 + column < from → ordered from map ≡ true
    → names map row column ≡ false
unfolding names
none_before [] from row column h k o = refl
none_before (entry ∷ map) from row column h k o =
    let f = first from entry map o in
    pick_false true (names map row column)
    (ne_eqb entry (entry_of row column) (λ e. omega (arith, f.later, ap tick_of e, tick_of_entry row column (omega arith))))
    ∙ none_before map (tick_of entry + 1) row column h (omega (arith, f.later)) f.rest

-- An entry that comes in later than the tick leaves the map in order from the next tick on.
ordered_later : (from entry : ℕ) (map : List ℕ) → ordered from (entry ∷ map) ≡ true → (tick_of entry ≡ from → ⊥)
    → ordered (from + 1) (entry ∷ map) ≡ true
unfolding ordered
ordered_later from entry map o n =
    let f = first from entry map o in
    pick_false false _ (lt-leb 752 (entry % 65536) f.column)
    ∙ pick_false false _ (le-ltb (tick_of entry) (from + 1) (omega (arith, f.later, n)))
    ∙ f.rest

module _ {map : List ℕ} {reached row column : ℕ} (h : column < 752) (R : Reached map reached (row * 752 + column)) where
  -- No entry is left.
  pub at_the_end : length map ≤ reached → LookedUp map reached row column None
  unfolding names ordered
  at_the_end k =
      let e : drop reached map ≡ [] = drop_of_length-le map k in
      record {
        says = sym (R.behind row column h (omega arith) ∙ rw e refl);
        after = record { inside = R.inside; ahead = rw e refl; behind = λ r c i j. R.behind r c i (omega arith) };
      }

  -- The next entry is another pixel's.
  pub at_another : {entry : ℕ} → reached < length map → entry ≡ entry_of row column → (get_or map reached 0 ≡ entry → ⊥)
      → LookedUp map reached row column None
  unfolding names
  at_another k e n =
      let here = get_or map reached 0 in
      let rest = drop (reached + 1) map in
      let d : drop reached map ≡ here ∷ rest = drop_here map reached k in
      let o : ordered (row * 752 + column) (here ∷ rest) ≡ true = rw d at R.ahead in
      let f = first (row * 752 + column) here rest o in
      let m : tick_of here ≡ row * 752 + column → ⊥ = λ q. n (omega (arith, f.column, q, e)) in
      record {
        says = sym (R.behind row column h (omega arith) ∙ rw d (pick_false true _ (ne_eqb here (entry_of row column) (λ q. n (q ∙ sym e)))
            ∙ none_before rest (tick_of here + 1) row column h (omega (arith, f.later)) f.rest));
        after = record {
          inside = R.inside;
          ahead = rw d (ordered_later (row * 752 + column) here rest o m);
          behind = λ r c i j. R.behind r c i (omega arith);
        };
      }

  -- The next entry is the pixel's.
  pub at_its_entry : {entry : ℕ} → reached < length map → entry ≡ entry_of row column → get_or map reached 0 ≡ entry
      → LookedUp map reached row column (Some (reached + 1))
  unfolding names
  at_its_entry k e q =
      let here = get_or map reached 0 in
      let rest = drop (reached + 1) map in
      let d : drop reached map ≡ here ∷ rest = drop_here map reached k in
      let f = first (row * 752 + column) here rest (rw d at R.ahead) in
      let t : tick_of here ≡ row * 752 + column = ap tick_of (q ∙ e) ∙ tick_of_entry row column (omega arith) in
      record {
        says = sym (R.behind row column h (omega arith) ∙ rw d (pick_true true _ (eq-eqb here (entry_of row column) (q ∙ e))));
        after = record {
          inside = omega arith;
          ahead = rw (← t) f.rest;
          behind = λ r c i j. R.behind r c i (omega arith)
              ∙ rw d (pick_false true _ (ne_eqb here (entry_of r c) (λ w. omega (arith, t, ap tick_of w, tick_of_entry r c (omega arith)))));
        };
      }

-- A map in order, of which nothing is reached: how a frame begins.
pub nothing_reached : {map : List ℕ} → true ≡ ordered 0 map → Reached map 0 0
nothing_reached o = record { inside = omega arith; ahead = sym o; behind = λ row column h k. refl }

-- No part at the end of a map in order from a tick on names a pixel that comes in before it.
none_before_at_the_end : (map : List ℕ) (n from row column : ℕ) → column < 752 → row * 752 + column < from → ordered from map ≡ true
    → names (drop n map) row column ≡ false
unfolding names
none_before_at_the_end map zero from row column h k o = none_before map from row column h k o
none_before_at_the_end [] (suc n) from row column h k o = refl
none_before_at_the_end (entry ∷ map) (suc n) from row column h k o =
    let f = first from entry map o in
    none_before_at_the_end map n (tick_of entry + 1) row column h (omega (arith, f.later)) f.rest

-- Of two counts of entries that are reached, none is the lower.
not_fewer : {map : List ℕ} {reached more tick : ℕ} → Reached map reached tick → Reached map more tick → reached < more → ⊥
unfolding names
not_fewer {map} {reached} {more} {tick} R M h =
    let here = get_or map reached 0 in
    let rest = drop (reached + 1) map in
    let d : drop reached map ≡ here ∷ rest = drop_here map reached (omega (arith, M.inside)) in
    let f = first tick here rest (rw d at R.ahead) in
    let row = here / 65536 in
    let column = here % 65536 in
    let yes : names map row column ≡ true =
    R.behind row column f.column f.later ∙ rw d (pick_true true _ (eq-eqb here (entry_of row column) (omega arith))) in
    let q : reached + 1 + (more - (reached + 1)) ≡ more = omega arith in
    let e : drop more map ≡ drop (more - (reached + 1)) rest =
    sym (drop-drop (more - (reached + 1)) (reached + 1) map ∙ ap (λ (n : ℕ). drop n map) q) in
    let no : names map row column ≡ false =
    M.behind row column f.column f.later
    ∙ rw e (none_before_at_the_end rest (more - (reached + 1)) (tick_of here + 1) row column f.column (omega arith) f.rest) in
    let z : ◌≡◌ {A = ℕ} 0 1 = cc in
    omega arith

-- As many entries are reached, however one counts them.
pub reached_once : {map : List ℕ} {r s tick : ℕ} → Reached map r tick → Reached map s tick → r ≡ s
reached_once {r = r} {s = s} R S = elim (dec_le r s) [
  | yes a ↦ elim (dec_le s r) [ yes b ↦ omega arith | no b ↦ absurd (not_fewer R S (omega arith)) ]
  | no a ↦ absurd (not_fewer S R (omega arith))
]

-- Checking a map: its first i entries were in order, and the rest has to come in at the tick from or later.
pub record Checking (map : List ℕ) (from i : ℕ) : Type 0 where
  pub inside : i ≤ length map
  pub rest : ordered 0 map ≡ ordered from (drop i map)

pub checking_begins : (map : List ℕ) → Checking map 0 0
checking_begins map = record { inside = omega arith; rest = refl }

module _ {map : List ℕ} {from i : ℕ} (C : Checking map from i) (h : i < length map) where
  pub column_outside : 752 ≤ get_or map i 0 % 65536 → false ≡ ordered 0 map
  unfolding ordered
  column_outside k = sym (C.rest ∙ rw (drop_here map i h) (pick_true false _ (le-leb 752 (get_or map i 0 % 65536) k)))

  pub too_early : {tick : ℕ} → get_or map i 0 % 65536 < 752 → tick ≡ tick_of (get_or map i 0) → tick < from → false ≡ ordered 0 map
  unfolding ordered
  too_early k e l =
      sym (C.rest ∙ rw (drop_here map i h) (pick_false false _ (lt-leb 752 (get_or map i 0 % 65536) k)
      ∙ pick_true false _ (lt-ltb (tick_of (get_or map i 0)) from (omega arith))))

  pub checking_on : {tick : ℕ} → get_or map i 0 % 65536 < 752 → tick ≡ tick_of (get_or map i 0) → from ≤ tick
      → Checking map (tick + 1) (i + 1)
  unfolding ordered
  checking_on k e l = record {
    inside = omega arith;
    rest = C.rest ∙ rw (drop_here map i h, e) (pick_false false _ (lt-leb 752 (get_or map i 0 % 65536) k)
        ∙ pick_false false _ (le-ltb (tick_of (get_or map i 0)) from (omega arith)));
  }

pub checking_ends : {map : List ℕ} {from i : ℕ} → Checking map from i → length map ≤ i → true ≡ ordered 0 map
unfolding ordered
checking_ends {map} {from} {i} C h = sym (C.rest ∙ rw (drop_of_length-le map h) refl)
