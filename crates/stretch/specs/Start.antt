-- Where the stretch of a register begins (SPECIFICATION, "Stretch"), for a caller who takes the place of its first word and not the part.
-- Example: in a0 any seq0 a1 any seq1 r1 match the stretch of register 1 begins at the place 3.
use Rattle.std.specs.Prelude.{Result, Ok, Err, List, [], ◌∷◌, ℕ, ◌+◌, eqb}
use Rattle.words.specs.Choice.{pick}
use Rattle.meaning.specs.Listing.{is_store, argument}
use Rattle.meaning.specs.Check.{check}
use Rattle.meaning.specs.declared.refusal.Fault.{Fault}

-- The place behind the last store, up to the store of the register; `here` is the place of the next word.
unfoldable pub start_from : ℕ → ℕ → List ℕ → ℕ → ℕ
start_from since here [] r = 0
start_from since here (w ∷ ws) r =
    let fresh = start_from (here + 1) (here + 1) ws r in
    let more = start_from since (here + 1) ws r in
    pick (is_store w) (pick (eqb (argument w) r) since fresh) more

unfoldable pub start_if : Result (Unit {0}) Fault → List ℕ → ℕ → ℕ
start_if (Ok passed) ws r = start_from 0 0 ws r
start_if (Err fault) ws r = 0

-- 0 if tick's 21 would apply or no such register exists.
unfoldable pub stretch_start : List ℕ → ℕ → ℕ
stretch_start ws r = start_if (check ws) ws r
