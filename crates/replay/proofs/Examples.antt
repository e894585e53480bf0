-- The example of the definition, computed.
use mathlib.Core.Path.{◌≡◌, refl}
use mathlib.Core.List.{List, [], ◌∷◌}
use Prim.Native.Nat.{ℕ}
use Prim.Native.Char.{code}
use Rattle.words.specs.Choice.{pick}
use Rattle.replay.specs.Lines.{skipped, cases_from, case_lines}

-- "a\n#\n1\n\nb\n2": two names, and a case below each.
text : List ℕ
text = code "a" ∷ code "\n" ∷ code "#" ∷ code "\n" ∷ code "1" ∷ code "\n" ∷ code "\n" ∷ code "b" ∷ code "\n" ∷ code "2" ∷ []

two_cases : case_lines text ≡ (code "1" ∷ []) ∷ ((code "2" ∷ []) ∷ [])
unfolding text cases_from skipped pick
two_cases = refl
