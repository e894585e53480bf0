-- Laws of the atoms, as the code meets them. They assume nothing.
use mathlib.Core.Path.{◌≡◌, refl, sym, ap, ap₂, ◌∙◌}
use mathlib.Core.Bool.{Bool, not}
use mathlib.Core.List.{List, [], ◌∷◌, ◌++◌}
use Prim.Native.Nat.{ℕ, ◌-◌, ◌≤◌, ◌<◌}
use native.Mathlib.Omega.{arith}
use lib.Dec.{eqb, leb}
use lib.ListN.{length, get_or}
use borrow.Author.Tests.{le-ltb, lt-leb}
use Rattle.words.specs.Choice.{pick_false, pick_case}
use Rattle.correction.specs.Rows.{row_of, column_of}
use Rattle.correction.specs.declared.Leaving.{Leaving}
use Rattle.correction.specs.declared.Leaving.TheVariants.{Nothing, Kept, Replaced}
use Rattle.sensor.specs.Sensor.{defective_at, is_hot, expected_at}
use Rattle.frame.specs.Atoms.{bit_of, coming_atoms, wrong_at, leaving_atoms, going_atoms, atoms_at}

-- The atoms of the pixel that comes in.
pub coming_told : (tick pixel : ℕ) {row column x y z : ℕ} {hot bad : Bool} → tick < 360960 → row ≡ row_of tick → column ≡ column_of tick
    → bad ≡ defective_at row column → hot ≡ is_hot pixel → x ≡ bit_of hot → y ≡ bit_of (not bad) → z ≡ bit_of bad
    → x ∷ y ∷ z ∷ [] ≡ coming_atoms tick pixel
unfolding coming_atoms
coming_told tick pixel h r c d o x y z = rw (x, y, z, o, d, r, c) (sym (pick_false _ _ (lt-leb 360960 tick h)))

-- The atom that compares a value with what is to leave.
pub wrong_told : (tick value : ℕ) {row column expected r : ℕ} → row ≡ row_of tick → column ≡ column_of tick → expected ≡ expected_at row column
    → r ≡ bit_of (not (eqb value expected)) → r ≡ wrong_at tick value
unfolding wrong_at
wrong_told tick value r c e q = q ∙ rw (e, r, c) refl

-- The atoms of what leaves.
module _ (tick : ℕ) (leaving : Leaving) (h : 2 ≤ tick) where
  goes : {atoms : List ℕ} → atoms ≡ leaving_atoms (tick - 2) leaving → atoms ≡ going_atoms tick leaving
  unfolding going_atoms
  goes e = e ∙ sym (pick_false _ _ (le-ltb tick 2 h))

  pub nothing_goes : leaving ≡ Nothing → 0 ∷ 0 ∷ 0 ∷ [] ≡ going_atoms tick leaving
  unfolding leaving_atoms
  nothing_goes e = goes (rw e refl)

  module _ {value wrong : ℕ} (w : wrong ≡ wrong_at (tick - 2) value) where
    pub kept_goes : leaving ≡ Kept value → 0 ∷ 1 ∷ wrong ∷ [] ≡ going_atoms tick leaving
    unfolding leaving_atoms
    kept_goes e = goes (rw (e, w) refl)

    pub replaced_goes : leaving ≡ Replaced value → 1 ∷ 0 ∷ wrong ∷ [] ≡ going_atoms tick leaving
    unfolding leaving_atoms
    replaced_goes e = goes (rw (e, w) refl)

-- Three atoms, read one by one.
three : (atoms : List ℕ) → length atoms ≡ 3 → get_or atoms 0 0 ∷ get_or atoms 1 0 ∷ get_or atoms 2 0 ∷ [] ≡ atoms
three [] e = absurd (omega (arith, e))
three (x ∷ []) e = absurd (omega (arith, e))
three (x ∷ y ∷ []) e = absurd (omega (arith, e))
three (x ∷ y ∷ z ∷ []) e = refl
three (x ∷ y ∷ z ∷ w ∷ l) e = absurd (omega (arith, e))

coming_three : (tick pixel : ℕ) → length (coming_atoms tick pixel) ≡ 3
unfolding coming_atoms
coming_three tick pixel = pick_case (λ (l : List ℕ). length l ≡ 3) (leb 360960 tick) (λ _. refl) (λ _. refl)

leaving_three : (tick : ℕ) (leaving : Leaving) → length (leaving_atoms tick leaving) ≡ 3
unfolding leaving_atoms
leaving_three tick Nothing = refl
leaving_three tick (Kept value) = refl
leaving_three tick (Replaced value) = refl

going_three : (tick : ℕ) (leaving : Leaving) → length (going_atoms tick leaving) ≡ 3
unfolding going_atoms
going_three tick leaving = pick_case (λ (l : List ℕ). length l ≡ 3) _ (λ _. refl) (λ _. leaving_three (tick - 2) leaving)

-- All atoms of a tick.
pub all_atoms : (tick pixel : ℕ) (leaving : Leaving) {column x y : ℕ} {i o : List ℕ} → i ≡ coming_atoms tick pixel → o ≡ going_atoms tick leaving
    → column ≡ column_of tick → x ≡ bit_of (eqb column 0) → y ≡ bit_of (not (eqb column 0))
    → get_or i 0 0 ∷ get_or i 1 0 ∷ get_or i 2 0 ∷ x ∷ y ∷ get_or o 0 0 ∷ get_or o 1 0 ∷ get_or o 2 0 ∷ [] ≡ atoms_at tick pixel leaving
unfolding atoms_at
all_atoms tick pixel leaving {column} {i = i} {o} e f c x y =
    let start = eqb (column_of tick) 0 in
    rw (x, y, c)
    (ap₂ (λ (a b : List ℕ). a ++ (bit_of start ∷ bit_of (not start) ∷ []) ++ b)
    (three i (ap length e ∙ coming_three tick pixel) ∙ e)
    (three o (ap length f ∙ going_three tick leaving) ∙ f))
