-- The text of an answer, byte by byte (SPECIFICATION, "The listing program"): the counts or the refusal on the first line, then a line for
-- each register and one for the match.
-- Example: for `a ##1 b` it is "ok 1 8 2\nseq 0 = a0 any\nmatch = r0 a1 any and\n".
use Rattle.std.specs.Prelude.{Result, Ok, Err, List, [], ◌∷◌, ◌++◌, ℕ, zero, suc, ◌+◌, ◌/◌, ◌%◌, eqb, leb, ltb, take}
use Prim.Native.Char.{code}
use Prim.Native.String.{String}
use Prim.Native.String as quoted
use Rattle.words.specs.Choice.{pick}
use Rattle.meaning.specs.Listing.{operation, argument}
use Rattle.meaning.specs.Answers.{number, place}
use Rattle.meaning.specs.declared.Listing.{Listing}
use Rattle.meaning.specs.declared.refusal.Refusal.{Refusal}

-- The bytes of a quoted text.
abbrev pub bytes : String → List ℕ
bytes quoted.[] = []
bytes (quoted.◌∷◌ letter rest) = code letter ∷ bytes rest

-- A number in decimal; of a number with more than `most` digits, the last ones.
unfoldable pub digits : ℕ → ℕ → List ℕ
digits zero n = []
digits (suc most) n =
    let front = digits most (n / 10) in
    pick (ltb n 10) ((code "0" + n) ∷ []) (front ++ ((code "0" + n % 10) ∷ []))

-- Twenty digits hold every number of 64 bits.
abbrev pub decimal : ℕ → List ℕ
decimal n = digits 20 n

-- The tokens of operations 1 to 8 (SPECIFICATION, "The listing").
unfoldable pub token_text : ℕ → List ℕ
token_text w =
    pick (eqb (operation w) 1)
    (code "a" ∷ decimal (argument w))
    (pick (eqb (operation w) 2)
    (code "r" ∷ decimal (argument w))
    (pick (eqb (operation w) 3)
    (bytes "0")
    (pick (eqb (operation w) 4)
    (bytes "1")
    (pick (eqb (operation w) 5)
    (bytes "any")
    (pick (eqb (operation w) 6) (bytes "not") (pick (eqb (operation w) 7) (bytes "and") (bytes "or")))))))

-- The tags of the stores, by the operation.
unfoldable pub tag_text : ℕ → List ℕ
tag_text o = pick (eqb o 9) (bytes "seq") (pick (eqb o 10) (bytes "arm") (pick (eqb o 11) (bytes "gto") (pick (eqb o 12) (bytes "ncx") (bytes "crl"))))

-- What a line begins with: `match`, or the tag and the register.
unfoldable pub line_start_text : ℕ → List ℕ
line_start_text w =
    pick (eqb (operation w) 14) (bytes "match =") (tag_text (operation w) ++ ((code " " ∷ decimal (argument w)) ++ bytes " ="))

-- The tokens of an expression's words, a space before each.
unfoldable pub tokens_text : List ℕ → List ℕ
tokens_text [] = []
tokens_text (w ∷ ws) = bytes " " ++ (token_text w ++ tokens_text ws)

-- "the store's tag, its register, =, and the tokens of the expression": the line of an expression's words and of the store, or the match, that ends them.
unfoldable pub line_text : List ℕ → ℕ → List ℕ
line_text expression store = line_start_text store ++ (tokens_text expression ++ bytes "\n")

-- A line for each store and for the match; `expression` has the words since the one before.
unfoldable pub lines_text : List ℕ → List ℕ → List ℕ
lines_text expression [] = []
lines_text expression (w ∷ ws) =
    let ended = line_text expression w ++ lines_text [] ws in
    let longer = lines_text (expression ++ (w ∷ [])) ws in
    pick (leb 9 (operation w)) ended longer

-- How many words stand before the next store or match.
unfoldable pub expression_length : List ℕ → ℕ
expression_length [] = 0
expression_length (w ∷ ws) = let more = suc (expression_length ws) in pick (leb 9 (operation w)) 0 more

-- A number and the byte behind it.
abbrev pub decimal_then : ℕ → ℕ → List ℕ
decimal_then end n = decimal n ++ (end ∷ [])

-- "The first line is ok, the registers, the words and the deepest stack; or refused, the number and the place."
unfoldable pub first_line_text : Result Listing Refusal → List ℕ
first_line_text (Ok listing) =
    bytes "ok " ++ (decimal_then (code " ") listing.registers ++ (decimal_then (code " ") listing.words ++ decimal_then (code "\n") listing.deepest))
first_line_text (Err refusal) = bytes "refused " ++ (decimal_then (code " ") (number refusal) ++ decimal_then (code "\n") (place refusal))

-- How many words of the output are the listing.
unfoldable pub words_listed : Result Listing Refusal → ℕ
words_listed (Ok listing) = listing.words
words_listed (Err refusal) = 0

-- The whole text of an answer: the first line, then the lines of the listing, which stands in front of the output.
unfoldable pub answer_text : Result Listing Refusal → List ℕ → List ℕ
answer_text answer out = first_line_text answer ++ lines_text [] (take (words_listed answer) out)
