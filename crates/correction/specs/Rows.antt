-- The two kept rows, and the pixel that leaves. The pixel of a tick stands at the tick modulo 1,504: an even row first, an odd
-- row behind it, so that the pixel above stands 752 ticks back and the neighbour in the row one.
-- Example: at tick 754, row 1, column 2, the pixel above is that of tick 2.
use Rattle.std.specs.Prelude.{◌≡◌, List, ℕ, ◌+◌, ◌-◌, ◌/◌, ◌%◌, eqb, ltb, get_or, set}
use Rattle.words.specs.Choice.{pick}
use Rattle.correction.specs.Map.{names, Reached}
use Rattle.correction.specs.declared.Leaving.{Leaving}
use Rattle.correction.specs.declared.Leaving.TheVariants.{Nothing, Kept, Replaced}
use Rattle.correction.specs.declared.Output.{Output}

-- The row, the column and the place of the pixel that comes in at a tick.
abbrev pub row_of : ℕ → ℕ
row_of tick = tick / 752

abbrev pub column_of : ℕ → ℕ
column_of tick = tick % 752

abbrev pub place_of : ℕ → ℕ
place_of tick = tick % 1504

-- What the rows hold for the pixel of a tick.
abbrev pub pixel_at : List ℕ → ℕ → ℕ
pixel_at rows tick = get_or rows (place_of tick) 0

-- What replaces the pixel of a tick, of that row and column: the mean of its neighbour in the row and of the pixel above; at
-- the frame's edge the one of the two that is there; in the first corner 0.
unfoldable pub replacement_by : List ℕ → ℕ → ℕ → ℕ → ℕ
replacement_by rows tick row column =
    let left = pixel_at rows (tick - 1) in
    let above = pixel_at rows (tick - 752) in
    pick (eqb column 0) (pick (eqb row 0) 0 above) (pick (eqb row 0) left ((left + above) / 2))

abbrev pub replacement_in : List ℕ → ℕ → ℕ
replacement_in rows tick = replacement_by rows tick (row_of tick) (column_of tick)

-- What leaves of the pixel that came in at a tick.
unfoldable pub leaving_of : List ℕ → List ℕ → ℕ → Leaving
leaving_of map rows tick = pick (names map (row_of tick) (column_of tick)) (Replaced (replacement_in rows tick)) (Kept (pixel_at rows tick))

-- The rows after it left: a replaced pixel is kept as it left.
unfoldable pub rows_after : List ℕ → List ℕ → ℕ → List ℕ
rows_after map rows tick = pick (names map (row_of tick) (column_of tick)) (set rows (place_of tick) (replacement_in rows tick)) rows

-- The pixel of a tick left.
pub record Left (map before after : List ℕ) (tick : ℕ) (given : Output) : Type 0 where
  pub leaves : given.leaving ≡ leaving_of map before tick
  pub keeps : after ≡ rows_after map before tick
  pub reaches : Reached map given.reached (tick + 1)

-- A pixel came in, and from the third tick on the one of two ticks before left. What is reached serves the next tick.
pub record Stepped (map before after : List ℕ) (tick pixel : ℕ) (given : Output) : Type 0 where
  pub leaves : given.leaving ≡ pick (ltb tick 2) Nothing (leaving_of map (set before (place_of tick) pixel) (tick - 2))
  pub keeps : after ≡ pick (ltb tick 2) (set before (place_of tick) pixel) (rows_after map (set before (place_of tick) pixel) (tick - 2))
  pub reaches : Reached map given.reached (tick + 1 - 2)
