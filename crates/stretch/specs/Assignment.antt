-- A listing as a row of assignments, each the words of an expression and the store that ends it (SPECIFICATION, "The listing":
-- "an expression and the store that ends it"). Example: a0 any seq0 r0 a1 any and match has the assignment a0 any seq0 at the place 0; at the
-- place 3 stands the last, which ends in the match and drives no register.
use Rattle.std.specs.Prelude.{Bool, false, List, [], ◌∷◌, ℕ, eqb, ltb, length, drop}
use Rattle.words.specs.Choice.{pick}
use Rattle.meaning.specs.Listing.{is_store, argument}

-- The words up to the first store of a register, that store included; all of them where no store follows.
unfoldable pub assignment : List ℕ → List ℕ
assignment [] = []
assignment (w ∷ ws) = w ∷ pick (is_store w) [] (assignment ws)

-- Whether that store is the one of register r.
unfoldable pub drives : List ℕ → ℕ → Bool
drives [] r = false
drives (w ∷ ws) r = pick (is_store w) (eqb (argument w) r) (drives ws r)

-- The assignment that begins at the place.
unfoldable pub assignment_at : List ℕ → ℕ → List ℕ
assignment_at listing place = assignment (drop place listing)

-- Whether a word stands at the place, and the assignment that begins there does not drive register r.
unfoldable pub another_at : List ℕ → ℕ → ℕ → Bool
another_at listing place r = pick (drives (drop place listing) r) false (ltb place (length listing))
