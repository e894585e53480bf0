-- The starred rows of SPECIFICATION, "Cases": a table of trees with the answer and the words given there, and one statement about all of them.
use mathlib.Core.Path.{◌≡◌, refl}
use mathlib.Core.List.{List, [], ◌∷◌, ◌++◌, map}
use Prim.Native.Nat.{ℕ}
use lib.ListN.{replicate}
use Rattle.words.specs.Choice.{pick}
use Rattle.words.specs.Written.{written}
use Rattle.meaning.specs.Tree.{node_at, tree_at, unlimited}
use Rattle.meaning.specs.Kinds.{columns}
use Rattle.meaning.specs.Listing.{word, rows, row_of, deepest, deepest_from}
use Rattle.meaning.specs.Refusals.{lowest_failing, formed_node, uses_in, uses, range_node, table, limited, and_then, deep_enough, over_boolean, walk_in, walk, limited_within, walk_root, room_of, first_misplaced, misplaced}
use Rattle.std.specs.Prelude.{Result, Ok, Err}
use Rattle.meaning.specs.Answers.{number, place}
use Rattle.meaning.specs.declared.Listing.{Listing}
use Rattle.meaning.specs.declared.refusal.Refusal.{Refusal}
use Rattle.meaning.specs.Lower.{synth_of, words_of, fits, after_walk, after_table, after_nothing, lower, output_after}

-- An answer as a row has it: registers, words and the deepest stack, or a refusal's number and place.
pub data Outcome : Type 0 where
  counts : ℕ → ℕ → ℕ → Outcome
  refusal : ℕ → ℕ → Outcome

abbrev outcome : Result Listing Refusal → Outcome
outcome (Ok listing) = counts listing.registers listing.words listing.deepest
outcome (Err why) = refusal (number why) (place why)

-- A row: the tree's words, the answer, and the words that stand in the output.
pub record Starred : Type 0 where
  pub tree : List ℕ
  pub answer : Outcome
  pub words : List ℕ

-- A node of each kind, as its five words.
abbrev atom : ℕ → List ℕ
atom a = 1 ∷ a ∷ 0 ∷ 0 ∷ 0 ∷ []

abbrev delay : ℕ → ℕ → ℕ → ℕ → List ℕ
delay left right min max = 2 ∷ left ∷ right ∷ min ∷ max ∷ []

abbrev consec : ℕ → ℕ → ℕ → List ℕ
consec under min max = 3 ∷ under ∷ 0 ∷ min ∷ max ∷ []

abbrev goto : ℕ → ℕ → List ℕ
goto under count = 4 ∷ under ∷ 0 ∷ count ∷ count ∷ []

abbrev throughout : ℕ → ℕ → List ℕ
throughout condition under = 6 ∷ condition ∷ under ∷ 0 ∷ 0 ∷ []

abbrev within : ℕ → ℕ → List ℕ
within seq1 seq2 = 7 ∷ seq1 ∷ seq2 ∷ 0 ∷ 0 ∷ []

-- The listing's tokens.
abbrev a : ℕ → ℕ
a n = word 1 n

abbrev r : ℕ → ℕ
r n = word 2 n

abbrev zero : ℕ
zero = word 3 0

abbrev one : ℕ
one = word 4 0

abbrev any : ℕ
any = word 5 0

abbrev not : ℕ
not = word 6 0

abbrev and : ℕ
and = word 7 0

abbrev or : ℕ
or = word 8 0

abbrev match : ℕ
match = word 14 0

abbrev seq : ℕ → ℕ
seq n = word 9 n

abbrev arm : ℕ → ℕ
arm n = word 10 n

abbrev gto : ℕ → ℕ
gto n = word 11 n

abbrev accepted : List ℕ → ℕ → ℕ → ℕ → List ℕ → Starred
accepted t registers words deepest ws = record { tree = t; answer = counts registers words deepest; words = ws }

abbrev refused : List ℕ → ℕ → ℕ → Starred
refused t n p = record { tree = t; answer = refusal n p; words = [] }

-- a, b, c are the atoms 0, 1, 2; the rows stand in the specification's order.
pub starred : List Starred
starred =
    accepted (atom 0) 0 2 1 (a 0 ∷ match ∷ [])
    ∷ accepted (atom 0 ++ atom 1 ++ delay 0 1 0 0) 0 6 2 (a 0 ∷ any ∷ a 1 ∷ any ∷ and ∷ match ∷ [])
    ∷ accepted (atom 0 ++ atom 1 ++ delay 0 1 1 1) 1 8 2 (a 0 ∷ any ∷ seq 0 ∷ r 0 ∷ a 1 ∷ any ∷ and ∷ match ∷ [])
    ∷ accepted (atom 0 ++ atom 1 ++ delay 0 1 1 unlimited) 1 10 2
    (r 0 ∷ a 0 ∷ any ∷ or ∷ arm 0 ∷ r 0 ∷ a 1 ∷ any ∷ and ∷ match ∷ [])
    ∷ accepted (atom 0 ++ atom 1 ++ delay 0 1 0 unlimited) 1 13 2
    (r 0 ∷ a 0 ∷ any ∷ or ∷ arm 0 ∷ r 0 ∷ a 0 ∷ any ∷ or ∷ a 1 ∷ any ∷ and ∷ match ∷ [])
    ∷ accepted (atom 1 ++ goto 0 1) 1 15 3
    (r 0 ∷ one ∷ or ∷ a 1 ∷ any ∷ not ∷ and ∷ gto 0 ∷ a 1 ∷ any ∷ r 0 ∷ one ∷ or ∷ and ∷ match ∷ [])
    ∷ accepted (atom 0 ++ atom 1 ++ consec 1 0 0 ++ delay 0 2 2 2 ++ atom 2 ++ delay 3 4 1 1) 2 10 2
    (a 0 ∷ any ∷ seq 0 ∷ r 0 ∷ seq 1 ∷ r 1 ∷ a 2 ∷ any ∷ and ∷ match ∷ [])
    ∷ refused (atom 0 ++ consec 0 0 0) 12 0
    ∷ accepted (atom 0 ++ atom 1 ++ delay 0 1 1 1 ++ throughout 2 2) 1 14 2
    (a 0 ∷ any ∷ a 2 ∷ any ∷ and ∷ seq 0 ∷ r 0 ∷ a 2 ∷ any ∷ and ∷ a 1 ∷ any ∷ and ∷ match ∷ [])
    ∷ accepted (atom 0 ++ atom 1 ++ atom 2 ++ delay 1 2 1 1 ++ within 0 3) 2 16 3
    (a 1 ∷ any ∷ seq 0 ∷ a 0 ∷ any ∷ seq 1 ∷ r 0 ∷ a 2 ∷ any ∷ and ∷ a 0 ∷ any ∷ r 1 ∷ or ∷ and ∷ match ∷ [])
    ∷ accepted (atom 0 ++ atom 1 ++ delay 0 1 1 1 ++ atom 2 ++ within 2 3) 0 2 1 (zero ∷ match ∷ [])
    ∷ refused (atom 1 ++ atom 2 ++ delay 0 1 1 1 ++ goto 2 1) 6 3
    ∷ []

-- An answer, and what the output then holds.
pub record Answered : Type 0 where
  pub answer : Outcome
  pub output : List ℕ

abbrev answered : Outcome → List ℕ → Answered
answered answer output = record { answer = answer; output = output }

-- An output of 16 words, filled with what no listing has.
abbrev lent : List ℕ
lent = replicate 16 99

-- What the row says: its answer, and its words in front of what stood in the output.
abbrev stated : Starred → Answered
stated row = answered row.answer (written lent 0 row.words)

-- What lowering answers and writes, with room for 64 entries.
abbrev found : Starred → Answered
found row =
    let answer = lower row.tree 1024 16 0 in
    answered (outcome answer) (output_after answer row.tree 0 lent)

pub the_starred_rows_hold : map found starred ≡ map stated starred
unfolding starred lower after_nothing table lowest_failing formed_node uses_in uses range_node columns node_at tree_at after_table walk_root walk walk_in deep_enough limited and_then over_boolean limited_within room_of misplaced first_misplaced after_walk synth_of words_of fits rows row_of deepest deepest_from output_after written pick
the_starred_rows_hold = refl
