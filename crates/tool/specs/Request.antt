-- What a command line asks for, and the status with which a program ends.
-- Example: a command line of one word, the program's name, asks for its work; `--help` behind the name asks for help.
use Rattle.std.specs.Prelude.{Bool, true, false, List, [], ◌∷◌, ℕ, eqb, ltb}
use Prim.Native.Char.{code}
use Rattle.words.specs.Choice.{pick}
use Rattle.tool.specs.declared.Request.{Request}
use Rattle.tool.specs.declared.Request.TheVariants.{Work, Help, Unknown}

-- Whether two words have the same bytes.
unfoldable pub same_bytes : List ℕ → List ℕ → Bool
same_bytes [] [] = true
same_bytes [] (y ∷ ys) = false
same_bytes (x ∷ xs) [] = false
same_bytes (x ∷ xs) (y ∷ ys) = let rest = same_bytes xs ys in pick (eqb x y) rest false

-- `--help`
abbrev pub help_word : List ℕ
help_word = code "-" ∷ code "-" ∷ code "h" ∷ code "e" ∷ code "l" ∷ code "p" ∷ []

-- Nothing behind the program's name asks for its work, `--help` alone for help; anything else is unknown.
unfoldable pub asked_by : ℕ → List ℕ → Request
asked_by words first = pick (ltb words 2) Work (pick (eqb words 2) (pick (same_bytes first help_word) Help Unknown) Unknown)

-- The program's own status where its output is out, else 2.
unfoldable pub status_after : Bool → ℕ → ℕ
status_after written status = pick written status 2
