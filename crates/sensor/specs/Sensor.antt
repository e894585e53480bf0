-- What the sensor of a synthetic guide camera sees, and where it is defective: 752 columns by 480 rows.
-- Example: row 240, column 100 is ordinary and reads 20 + 60 + 12; a defective pixel reads 255.
use Rattle.std.specs.Prelude.{Bool, true, false, ℕ, ◌+◌, ◌*◌, ◌/◌, ◌%◌, eqb, ltb, leb}
use Rattle.words.specs.Choice.{pick}
use Rattle.correction.specs.Picture.{corrected}

-- The sky: brighter downwards, and half as fast to the right, so that it differs from its transpose.
abbrev pub sky_at : ℕ → ℕ → ℕ
sky_at row column = 20 + row / 4 + column / 8

-- Single defects, spread over the whole frame, its edges too.
abbrev pub single_at : ℕ → ℕ → Bool
single_at row column = eqb ((row * 29 + row / 16 * 101 + column * 307 + column / 32 * 31) % 937) 5

-- Sixteen neighbours, four by four.
unfoldable pub cluster_at : ℕ → ℕ → Bool
cluster_at row column = pick (ltb row 60) false (pick (ltb 63 row) false (pick (ltb column 120) false (leb column 123)))

-- The sensor is defective in both; nothing outside the frame is.
unfoldable pub defective_at : ℕ → ℕ → Bool
defective_at row column = pick (leb 480 row) false (pick (leb 752 column) false (pick (cluster_at row column) true (single_at row column)))

-- What the sensor reads.
unfoldable pub reads_at : ℕ → ℕ → ℕ
reads_at row column = pick (defective_at row column) 255 (sky_at row column)

-- A pixel is hot that is too bright to be sky.
abbrev pub is_hot : ℕ → Bool
is_hot pixel = ltb 240 pixel

-- What is to leave, from the sensor alone: the sky, corrected where the sensor is defective.
abbrev pub expected_at : ℕ → ℕ → ℕ
expected_at row column = corrected defective_at sky_at row column
