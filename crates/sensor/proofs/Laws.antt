-- Laws of the sensor and of its maps, as the code meets them: what is to leave of a pixel, case by case, and entries that are put
-- as far as there is room. They assume nothing.
use mathlib.Core.Path.{◌≡◌, refl, sym, ap, ap₂, ◌∙◌}
use mathlib.Core.Bool.{Bool, true, false, not}
use mathlib.Core.List.{List, [], ◌∷◌, ◌++◌}
use Prim.Native.Nat.{ℕ, zero, suc, ◌+◌, ◌-◌, ◌/◌, ◌≤◌, ◌<◌}
use native.Mathlib.Omega.{arith}
use lib.Dec.{eqb}
use lib.ListN.{length, take}
use borrow.Author.Tests.{eq-eqb, ne_eqb, not-true, not-false}
use Rattle.words.specs.Choice.{pick, pick_true, pick_false}
use Rattle.words.specs.Written.{Wrote}
use Rattle.words.proofs.Laws.{Going, begin, go, done, still_long, nothing_written, same_word}
use Rattle.correction.specs.Map.{entry_of}
use Rattle.correction.proofs.Frame.{one_equation}
use Rattle.sensor.specs.Sensor.{sky_at, defective_at, expected_at}
use Rattle.sensor.specs.Maps.{has_entry, entry_for, row_entries, entries_from, as_fit}
use Rattle.sensor.specs.declared.Loaded.{Loaded}

-- Where the sensor is not defective, the sky is to leave of a pixel.
module _ (row column : ℕ) {b : Bool} (e : b ≡ defective_at row column) where
  pub sky_is_expected : {r : ℕ} → not b ≡ true → r ≡ sky_at row column → r ≡ expected_at row column
  sky_is_expected n q = q ∙ sym (one_equation defective_at sky_at row column ∙ pick_false _ _ (sym e ∙ not-true b n))

  -- In a defect, what the pixel's neighbours give is to leave.
  module _ (n : not b ≡ false) where
    in_a_defect : expected_at row column
        ≡ pick (eqb column 0) (pick (eqb row 0) 0 (expected_at (row - 1) column))
        (pick (eqb row 0) (expected_at row (column - 1)) ((expected_at row (column - 1) + expected_at (row - 1) column) / 2))
    in_a_defect = one_equation defective_at sky_at row column ∙ pick_true _ _ (sym e ∙ not-false b n)

    pub in_the_corner : column ≡ 0 → row ≡ 0 → 0 ≡ expected_at row column
    in_the_corner c r = sym (in_a_defect ∙ pick_true _ _ (eq-eqb column 0 c) ∙ pick_true _ _ (eq-eqb row 0 r))

    pub in_the_first_column : {above : ℕ} → column ≡ 0 → (row ≡ 0 → ⊥) → above ≡ expected_at (row - 1) column → above ≡ expected_at row column
    in_the_first_column c r q = q ∙ sym (in_a_defect ∙ pick_true _ _ (eq-eqb column 0 c) ∙ pick_false _ _ (ne_eqb row 0 r))

    pub in_the_first_row : {left : ℕ} → (column ≡ 0 → ⊥) → row ≡ 0 → left ≡ expected_at row (column - 1) → left ≡ expected_at row column
    in_the_first_row c r q = q ∙ sym (in_a_defect ∙ pick_false _ _ (ne_eqb column 0 c) ∙ pick_true _ _ (eq-eqb row 0 r))

    pub inside_the_frame : {left above mean : ℕ} → (column ≡ 0 → ⊥) → (row ≡ 0 → ⊥) → left ≡ expected_at row (column - 1)
        → above ≡ expected_at (row - 1) column → mean ≡ (left + above) / 2 → mean ≡ expected_at row column
    inside_the_frame c r p q m =
        m ∙ ap₂ (λ (x y : ℕ). (x + y) / 2) p q
        ∙ sym (in_a_defect ∙ pick_false _ _ (ne_eqb column 0 c) ∙ pick_false _ _ (ne_eqb row 0 r))

-- The first k of no elements, of none, and of two parts.
take_none : (k : ℕ) → ◌≡◌ {A = List ℕ} (take k []) []
take_none zero = refl
take_none (suc k) = refl

nothing_taken : (xs : List ℕ) → take 0 xs ≡ []
nothing_taken xs = refl

taken_few : (k : ℕ) (xs : List ℕ) → length (take k xs) ≤ k
taken_few zero xs = omega arith
taken_few (suc k) [] = omega arith
taken_few (suc k) (x ∷ xs) = omega (arith, taken_few k xs)

taken_in_two : (k : ℕ) (xs ys : List ℕ) → take k (xs ++ ys) ≡ take k xs ++ take (k - length (take k xs)) ys
taken_in_two zero xs ys = refl
taken_in_two (suc k) [] ys = let e : suc k - 0 ≡ suc k = omega arith in rw e refl
taken_in_two (suc k) (x ∷ xs) ys =
    let e : suc k - suc (length (take k xs)) ≡ k - length (take k xs) = omega arith in
    rw (taken_in_two k xs ys, e) refl

-- A pixel's entry, put where the map has one and there is room.
module _ (loaded : Loaded) (map : List ℕ) (place row column : ℕ) {b : Bool} (e : b ≡ has_entry loaded row column) where
  pub no_entry : b ≡ false → Wrote map map place place (as_fit map place (entry_for loaded row column))
  unfolding entry_for
  no_entry n = rw (pick_false (entry_of row column ∷ []) [] (sym e ∙ n), take_none (length map - place)) (nothing_written map place)

  pub no_room : length map ≤ place → Wrote map map place place (as_fit map place (entry_for loaded row column))
  no_room h = let z : length map - place ≡ 0 = omega arith in rw (z, nothing_taken) (nothing_written map place)

  pub entry_put : {map' : List ℕ} {next entry : ℕ} → b ≡ true → place < length map → entry ≡ entry_of row column
      → Wrote map map' place next (entry ∷ []) → Wrote map map' place next (as_fit map place (entry_for loaded row column))
  unfolding entry_for
  entry_put n h q w =
      let k : length map - place ≡ suc (length map - (place + 1)) = omega arith in
      let one : as_fit map place (entry_for loaded row column) ≡ entry_of row column ∷ [] =
      rw (pick_true (entry_of row column ∷ []) [] (sym e ∙ n), k) (ap (λ (l : List ℕ). entry_of row column ∷ l) (take_none (length map - (place + 1)))) in
      rw one (same_word q w)

-- Entries put as far as there is room: to put all entries it remains to put those that are left.
pub record Filling (map : List ℕ) (place : ℕ) (entries map' : List ℕ) (next : ℕ) (left : List ℕ) : Type 0 where
  pub inside : next ≤ length map'
  pub going : Going map place (as_fit map place entries) map' next (as_fit map' next left)

pub filling_begins : (map : List ℕ) (place : ℕ) (entries : List ℕ) → place ≤ length map → Filling map place entries map place entries
filling_begins map place entries h = record { inside = h; going = begin map place (as_fit map place entries) }

filling_on : {map : List ℕ} {place : ℕ} {entries map' map'' : List ℕ} {next after : ℕ} (these left : List ℕ)
    → Filling map place entries map' next (these ++ left) → Wrote map' map'' next after (as_fit map' next these)
    → Filling map place entries map'' after left
filling_on {map' = map'} {map''} {next} {after} these left f w =
    let room = length map' - next in
    let long : length map'' ≡ length map' = still_long w in
    let few : length (take room these) ≤ room = taken_few room these in
    let behind : room - length (take room these) ≡ length map'' - after = omega (arith, long, w.ends) in
    record {
      inside = omega (arith, long, w.ends, f.inside);
      going = go (take room these) (as_fit map'' after left) (rw (taken_in_two room these left, behind) at f.going) w;
    }

-- One column more, and one row more.
module _ {map map' map'' : List ℕ} {place next after : ℕ} {entries : List ℕ} (loaded : Loaded) where
  pub column_on : (row column : ℕ) → Filling map place entries map' next (row_entries loaded row (752 - column) column) → column < 752
      → Wrote map' map'' next after (as_fit map' next (entry_for loaded row column))
      → Filling map place entries map'' after (row_entries loaded row (752 - (column + 1)) (column + 1))
  unfolding row_entries
  column_on row column f h w =
      let e : 752 - column ≡ suc (752 - (column + 1)) = omega arith in
      filling_on (entry_for loaded row column) _ (rw e at f) w

  pub row_on : (row : ℕ) → Filling map place entries map' next (entries_from loaded (752 - row) row) → row < 752
      → Wrote map' map'' next after (as_fit map' next (row_entries loaded row 752 0))
      → Filling map place entries map'' after (entries_from loaded (752 - (row + 1)) (row + 1))
  unfolding entries_from
  row_on row f h w =
      let e : 752 - row ≡ suc (752 - (row + 1)) = omega arith in
      filling_on (row_entries loaded row 752 0) _ (rw e at f) w

-- Nothing is left.
filling_ends : {map : List ℕ} {place : ℕ} {entries map' : List ℕ} {next : ℕ} → Filling map place entries map' next []
    → Wrote map map' place next (as_fit map place entries)
filling_ends {map' = map'} {next} f = done (rw (take_none (length map' - next)) at f.going)

module _ {map map' : List ℕ} {place next : ℕ} {entries : List ℕ} (loaded : Loaded) where
  pub row_ends : (row column : ℕ) → Filling map place entries map' next (row_entries loaded row (752 - column) column) → 752 ≤ column
      → Wrote map map' place next (as_fit map place entries)
  unfolding row_entries
  row_ends row column f h = let e : 752 - column ≡ 0 = omega arith in filling_ends (rw e at f)

  pub map_ends : (row : ℕ) → Filling map place entries map' next (entries_from loaded (752 - row) row) → 752 ≤ row
      → Wrote map map' place next (as_fit map place entries)
  unfolding entries_from
  map_ends row f h = let e : 752 - row ≡ 0 = omega arith in filling_ends (rw e at f)
