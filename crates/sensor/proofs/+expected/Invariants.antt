-- `expected` is the sky, corrected in the defects: case by case, and the row and the column together fall.
use Prim.Native.Nat.{◌+◌}
use Rattle.sensor.proofs.+expected.Given as goal

abbrev pub decreases-expected : goal.decreases-expected
decreases-expected l = l.row + l.column
