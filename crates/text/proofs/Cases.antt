-- The text of the specification's example, of a refusal, and of a line of each tag and token, computed.
use Rattle.std.specs.Prelude.{Err}
use mathlib.Core.Path.{◌≡◌, refl}
use mathlib.Core.List.{[], ◌∷◌}
use Rattle.words.specs.Choice.{pick}
use Rattle.meaning.specs.Listing.{word}
use Rattle.meaning.specs.Answers.{listed}
use Rattle.meaning.specs.declared.refusal.Refusal.TheVariants.{MisplacedEmpty}
use Rattle.text.specs.Text.{bytes, digits, token_text, tag_text, line_start_text, tokens_text, line_text, lines_text, first_line_text, words_listed, answer_text}

-- "it prints all of"; what stands behind the listing in the output is not printed.
the_example : answer_text (listed 1 8 2) (word 1 0 ∷ word 5 0 ∷ word 9 0 ∷ word 2 0 ∷ word 1 1 ∷ word 5 0 ∷ word 7 0 ∷ word 14 0 ∷ 7 ∷ [])
    ≡ bytes "ok 1 8 2\nseq 0 = a0 any\nmatch = r0 a1 any and\n"
unfolding answer_text words_listed first_line_text lines_text line_text tokens_text line_start_text tag_text token_text digits pick
the_example = refl

-- A refusal is one line.
a_refusal : answer_text (Err (MisplacedEmpty 4294967295)) (word 14 0 ∷ []) ≡ bytes "refused 12 4294967295\n"
unfolding answer_text words_listed first_line_text lines_text digits pick
a_refusal = refl

-- The lines with the tags and tokens that the specification's example lacks.
every_tag : lines_text []
    (word 3 0 ∷ word 10 7 ∷ word 4 0 ∷ word 6 0 ∷ word 11 10 ∷ word 1 65535 ∷ word 2 0 ∷ word 8 0 ∷ word 12 11 ∷ word 2 12 ∷ word 13 12 ∷ [])
    ≡ bytes "arm 7 = 0\ngto 10 = 1 not\nncx 11 = a65535 r0 or\ncrl 12 = r12\n"
unfolding lines_text line_text tokens_text line_start_text tag_text token_text digits pick
every_tag = refl
