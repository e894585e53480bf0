-- What is read from the lines of a text: where a byte next stands, and decimal numbers with blanks between them.
-- Example: in "12 x7 5" a blank next stands at place 5 from place 3 on, and the numbers are `12 ∷ 7 ∷ 5 ∷ []`.
use Rattle.std.specs.Prelude.{List, [], ◌∷◌, ◌++◌, ℕ, suc, ◌+◌, ◌-◌, ◌*◌, min, eqb, ltb, drop}
use Prim.Native.Char.{code}
use Rattle.words.specs.Choice.{pick}

-- How many bytes stand in front of the first that is `byte`; all of them, where none is.
unfoldable pub bytes_before : ℕ → List ℕ → ℕ
bytes_before byte [] = 0
bytes_before byte (b ∷ bs) = let more = suc (bytes_before byte bs) in pick (eqb b byte) 0 more

-- The first place from `from` on where the byte stands, or the text's end.
abbrev pub next_place : List ℕ → ℕ → ℕ → ℕ
next_place text from byte = from + bytes_before byte (drop from text)

-- A number with one more digit, at most 4,294,967,295; a byte that is no digit changes nothing.
unfoldable pub with_digit : ℕ → ℕ → ℕ
with_digit value byte =
    pick (ltb byte (code "0")) value (pick (ltb (code "9") byte) value (min (value * 10 + (byte - code "0")) 4294967295))

-- The number that the digits among the bytes write, behind the digits of `value`.
unfoldable pub number_behind : ℕ → List ℕ → ℕ
number_behind value [] = value
number_behind value (b ∷ bs) = number_behind (with_digit value b) bs

-- The number that the digits among a word's bytes write; 0, where there are none.
abbrev pub number_of : List ℕ → ℕ
number_of word = number_behind 0 word

-- The one number of a word; none of a word without bytes, as between two blanks.
unfoldable pub numbers_of_word : List ℕ → List ℕ
numbers_of_word [] = []
numbers_of_word (b ∷ bs) = number_of (b ∷ bs) ∷ []

-- The numbers of a line from some byte on; `word` has the bytes since the blank before.
unfoldable pub numbers_from : List ℕ → List ℕ → List ℕ
numbers_from word [] = numbers_of_word word
numbers_from word (b ∷ bs) =
    let ended = numbers_of_word word ++ numbers_from [] bs in
    let longer = numbers_from (word ++ (b ∷ [])) bs in
    pick (eqb b (code " ")) ended longer

-- The numbers of a whole line.
abbrev pub numbers_of : List ℕ → List ℕ
numbers_of line = numbers_from [] line
