-- What the pass over a listing gathers before a tick: whether the listing is as described, and what 22 and 23 ask of the lent
-- slices.
-- Example: of a0 any seq0 r0 a1 any and match, with the atoms 0 and 1, it wants 1 register, 2 atoms, a deepest stack of 2, and the atoms are bits.
use Rattle.std.specs.Prelude.{Option, Some, None, Result, Ok, Err, Bool, true, List, ℕ, ltb}
use Rattle.words.specs.Choice.{pick}
use Rattle.meaning.specs.Listing.{registers, deepest, atoms_named}
use Rattle.meaning.specs.Check.{check}
use Rattle.meaning.specs.Tick.{named_bits}
use Rattle.meaning.specs.declared.refusal.Fault.{Fault}
use Rattle.tick.specs.declared.Wanted.{Wanted}

-- What a listing wants of the slices that are lent to its tick.
abbrev pub wanted : List ℕ → List ℕ → Wanted
wanted ws lent = record { registers = registers ws; atoms = atoms_named ws; deepest = deepest ws; bits = named_bits lent ws }

-- What the survey finds, by the check's answer.
unfoldable pub surveyed_if : Result (Unit {0}) Fault → List ℕ → List ℕ → Option Wanted
surveyed_if (Ok passed) ws lent = Some (wanted ws lent)
surveyed_if (Err fault) ws lent = None

-- The pass's answer: what is wanted, or nothing where refusal 21 applies.
unfoldable pub surveyed : List ℕ → List ℕ → Option Wanted
surveyed ws lent = surveyed_if (check ws) ws lent

-- 22 by what is wanted: "now or next has fewer bytes than there are registers .. or the stack is shorter than the deepest stack".
unfoldable pub lacking : Wanted → ℕ → ℕ → ℕ → ℕ → Bool
lacking w cur atoms next stack =
    pick (ltb cur w.registers) true (pick (ltb next w.registers) true (pick (ltb atoms w.atoms) true (ltb stack w.deepest)))
