-- What the assertions watch: the atoms of a tick, a byte each, 0 or 1. They are asked of the sensor and of what leaves; no map
-- plays a part.
-- Example: at tick 352 with the map transposed, row 0, column 350 leaves as it came: kept and wrong are 1.
use Rattle.std.specs.Prelude.{Bool, not, List, [], ◌∷◌, ◌++◌, ℕ, ◌-◌, eqb, ltb, leb}
use Rattle.words.specs.Choice.{pick}
use Rattle.correction.specs.Rows.{row_of, column_of}
use Rattle.correction.specs.declared.Leaving.{Leaving}
use Rattle.correction.specs.declared.Leaving.TheVariants.{Nothing, Kept, Replaced}
use Rattle.sensor.specs.Sensor.{defective_at, is_hot, expected_at}

-- A fact as an atom.
unfoldable pub bit_of : Bool → ℕ
bit_of fact = pick fact 1 0

-- The atoms of the pixel that comes in: it is hot, the sensor is not defective there, it is. None comes in after the frame.
unfoldable pub coming_atoms : ℕ → ℕ → List ℕ
coming_atoms tick pixel =
    let bad = defective_at (row_of tick) (column_of tick) in
    pick (leb 360960 tick) (0 ∷ 0 ∷ 0 ∷ []) (bit_of (is_hot pixel) ∷ bit_of (not bad) ∷ bit_of bad ∷ [])

-- The atom of a value and the tick at which its pixel came in: it is not the one that is to leave.
unfoldable pub wrong_at : ℕ → ℕ → ℕ
wrong_at tick value = bit_of (not (eqb value (expected_at (row_of tick) (column_of tick))))

-- The atoms of what leaves: it was replaced, it is as it came, it is wrong.
unfoldable pub leaving_atoms : ℕ → Leaving → List ℕ
leaving_atoms tick Nothing = 0 ∷ 0 ∷ 0 ∷ []
leaving_atoms tick (Kept value) = 0 ∷ 1 ∷ wrong_at tick value ∷ []
leaving_atoms tick (Replaced value) = 1 ∷ 0 ∷ wrong_at tick value ∷ []

-- What leaves came in two ticks before.
unfoldable pub going_atoms : ℕ → Leaving → List ℕ
going_atoms tick leaving = pick (ltb tick 2) (0 ∷ 0 ∷ 0 ∷ []) (leaving_atoms (tick - 2) leaving)

-- The atoms of a tick, by their numbers; in the middle, that a row begins, and that none does.
unfoldable pub atoms_at : ℕ → ℕ → Leaving → List ℕ
atoms_at tick pixel leaving =
    let start = eqb (column_of tick) 0 in
    coming_atoms tick pixel ++ (bit_of start ∷ bit_of (not start) ∷ []) ++ going_atoms tick leaving
