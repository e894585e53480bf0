-- `expected` is the sky, corrected in the defects: case by case, and the row and the column together fall.
use Rattle.sensor.proofs.Laws.{sky_is_expected, in_the_corner, in_the_first_column, in_the_first_row, inside_the_frame}
use Rattle.sensor.proofs.+expected.Goals as goal

pub returns-then-not-defective : goal.returns-then-not-defective
returns-then-not-defective t c = search sky_is_expected

pub returns-then-row-eq0 : goal.returns-then-row-eq0
returns-then-row-eq0 t c = search in_the_corner

pub returns-then-column-eq0 : goal.returns-then-column-eq0
returns-then-column-eq0 t c = search in_the_first_column

pub returns-then-row-eq0-2 : goal.returns-then-row-eq0-2
returns-then-row-eq0-2 t c = search in_the_first_row

pub returns : goal.returns
returns t c = search inside_the_frame
