-- What is printed of the specification's example, of three bytes, and of none, computed.
use mathlib.Core.Path.{◌≡◌, refl}
use mathlib.Core.List.{List, [], ◌∷◌}
use Prim.Native.Nat.{ℕ}
use Rattle.words.specs.Choice.{pick}
use Rattle.meaning.specs.Tree.{node_at, tree_at}
use Rattle.meaning.specs.Kinds.{columns}
use Rattle.meaning.specs.Listing.{rows, row_of, deepest, deepest_from}
use Rattle.meaning.specs.Refusals.{lowest_failing, formed_node, uses_in, uses, range_node, table, limited, and_then, deep_enough, walk_in, walk, walk_root, room_of, first_misplaced, misplaced}
use Rattle.meaning.specs.Lower.{synth_of, words_of, fits, after_walk, after_table, after_nothing, lower}
use Rattle.text.specs.Text.{bytes, digits, token_text, tag_text, line_start_text, tokens_text, line_text, lines_text, first_line_text, words_listed, answer_text}
use Rattle.little_endian.specs.Bytes.{words_of_bytes}
use Rattle.lowered_text.specs.Page.{page_text, of_input, input_text}

-- The bytes of words below 256.
abbrev low_words : List ℕ → List ℕ
low_words [] = []
low_words (w ∷ ws) = w ∷ 0 ∷ 0 ∷ 0 ∷ low_words ws

-- "For the words 1,0,0,0,0, 1,1,0,0,0, 2,0,1,1,1 it prints all of".
the_example : input_text (low_words (1 ∷ 0 ∷ 0 ∷ 0 ∷ 0 ∷ 1 ∷ 1 ∷ 0 ∷ 0 ∷ 0 ∷ 2 ∷ 0 ∷ 1 ∷ 1 ∷ 1 ∷ []))
    ≡ bytes "ok 1 8 2\nseq 0 = a0 any\nmatch = r0 a1 any and\n"
unfolding input_text of_input page_text words_of_bytes lower after_nothing table lowest_failing columns formed_node uses_in uses range_node node_at tree_at after_table walk_root walk walk_in deep_enough limited and_then room_of misplaced first_misplaced after_walk synth_of words_of fits rows row_of deepest deepest_from answer_text words_listed first_line_text lines_text line_text tokens_text line_start_text tag_text token_text digits pick
the_example = refl

-- A piece of a word, and no node.
three_bytes : input_text (1 ∷ 0 ∷ 0 ∷ []) ≡ bytes "refused 1 0\n"
unfolding input_text of_input first_line_text digits pick
three_bytes = refl

no_byte : input_text [] ≡ bytes "refused 1 0\n"
unfolding input_text of_input page_text words_of_bytes lower after_nothing table answer_text words_listed first_line_text lines_text digits pick
no_byte = refl
