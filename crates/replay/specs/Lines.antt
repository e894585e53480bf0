-- The lines of a text that have its cases: each behind the line with its name.
-- Example: of the lines "a", "#", "1", "", "b" and "2" they are "1" and "2".
use Rattle.std.specs.Prelude.{Bool, true, false, List, [], ◌∷◌, ℕ, eqb}
use Rattle.std.specs.List.{slice_split}
use Prim.Native.Char.{code}
use Rattle.words.specs.Choice.{pick}

-- An empty line and one that begins with # say nothing.
unfoldable pub skipped : List ℕ → Bool
skipped [] = true
skipped (b ∷ bs) = eqb b (code "#")

-- Of the other lines the first is a name, the next the case of this name, and so on; `named` says that a name stands in front.
unfoldable pub cases_from : Bool → List (List ℕ) → List (List ℕ)
cases_from named [] = []
cases_from named (line ∷ lines) =
    let other = pick named (line ∷ cases_from false lines) (cases_from true lines) in
    pick (skipped line) (cases_from named lines) other

abbrev pub case_lines : List ℕ → List (List ℕ)
case_lines text = cases_from false (slice_split (λ b. eqb b (code "\n")) text)
