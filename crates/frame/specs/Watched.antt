-- What an assertion says of a frame: the sensor's picture comes in, corrected by a map, and the assertion's listing is ticked at
-- each tick until its first alarm. No kept row and no position in the map plays a part.
-- Example: with the map as made every assertion is quiet; with an entry lost, assertion 1 raises its alarm two ticks after that pixel
-- came in.
use Rattle.std.specs.Prelude.{Result, Ok, Err, List, ℕ, zero, suc, ◌+◌, ◌-◌, eqb, ltb, leb, replicate}
use Rattle.words.specs.Choice.{pick}
use Rattle.meaning.specs.Tick.{tick, next_after}
use Rattle.correction.specs.Rows.{row_of, column_of}
use Rattle.correction.specs.Picture.{to_leave}
use Rattle.correction.specs.declared.Leaving.{Leaving}
use Rattle.correction.specs.declared.Leaving.TheVariants.{Nothing}
use Rattle.sensor.specs.Sensor.{reads_at}
use Rattle.frame.specs.Atoms.{atoms_at}
use Rattle.frame.specs.Assertions.{tree_of, listed}
use Rattle.frame.specs.declared.Verdict.{Verdict}
use Rattle.frame.specs.declared.Verdict.TheVariants.{Quiet, Alarm, Refused}
use Rattle.meaning.specs.declared.refusal.TickRefusal.{TickRefusal}

-- What the sensor reads; 0 after the frame.
unfoldable pub picture : ℕ → ℕ → ℕ
picture row column = pick (leb 480 row) 0 (reads_at row column)

abbrev pub pixel_of : ℕ → ℕ
pixel_of t = picture (row_of t) (column_of t)

-- What leaves at a tick: from the third on the pixel of two ticks before, as the map has it leave.
unfoldable pub leaving_at : List ℕ → ℕ → Leaving
leaving_at map t = pick (ltb t 2) Nothing (to_leave map picture (row_of (t - 2)) (column_of (t - 2)))

-- The atoms of a tick of the frame with the map.
unfoldable pub atoms_of : List ℕ → ℕ → List ℕ
atoms_of map t = atoms_at t (pixel_of t) (leaving_at map t)

-- What a tick says: an alarm where its match bit is 1, else what the later ones say.
unfoldable pub said : Result ℕ TickRefusal → ℕ → Verdict → Verdict
said (Ok bit) t later = pick (eqb bit 1) (Alarm t) later
said (Err refusal) t later = Refused

-- What the listing says of so many ticks from a tick on, and from the registers before it.
unfoldable pub watched_from : (ℕ → List ℕ) → List ℕ → ℕ → ℕ → List ℕ → Verdict
watched_from atoms ws zero t registers = Quiet
watched_from atoms ws (suc ticks) t registers =
    let ticked = tick ws registers (atoms t) 64 64 in
    said ticked t (watched_from atoms ws ticks (t + 1) (next_after ticked ws registers (atoms t) registers))

-- A listing over a whole frame with the map, and the two ticks until its last pixel has left, from registers at zero.
unfoldable pub verdict_on : List ℕ → List ℕ → Verdict
verdict_on map ws = watched_from (atoms_of map) ws 360962 0 (replicate 64 0)

-- What the assertion of a number says.
unfoldable pub verdict_of : List ℕ → ℕ → Verdict
verdict_of map number = verdict_on map (listed (tree_of number) 1024 256)
