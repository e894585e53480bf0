-- The examples of the definitions, computed.
use mathlib.Core.Path.{◌≡◌, refl}
use mathlib.Core.List.{List, [], ◌∷◌}
use Prim.Native.Nat.{ℕ}
use Prim.Native.Char.{code}
use Rattle.words.specs.Choice.{pick}
use Rattle.cases.specs.Lines.{bytes_before, next_place, with_digit, number_behind, numbers_of_word, numbers_from, numbers_of}

-- "12 x7 5"
line : List ℕ
line = code "1" ∷ code "2" ∷ code " " ∷ code "x" ∷ code "7" ∷ code " " ∷ code "5" ∷ []

-- From place 3 on a blank next stands at place 5, and a bar nowhere before the line's end.
the_next_blank : next_place line 3 (code " ") ≡ 5
unfolding line bytes_before pick
the_next_blank = refl

no_bar : next_place line 0 (code "|") ≡ 7
unfolding line bytes_before pick
no_bar = refl

-- A byte that is no digit is skipped.
the_numbers : numbers_of line ≡ 12 ∷ 7 ∷ 5 ∷ []
unfolding line numbers_from numbers_of_word number_behind with_digit pick
the_numbers = refl

-- 4294967299 is too large by 4.
the_largest : number_behind 429496729 (code "9" ∷ []) ≡ 4294967295
unfolding number_behind with_digit pick
the_largest = refl
