-- How many words a within takes: refusal 14 is decided before a word is written. The texts are counted with an OR for each pair;
-- the first has none, so that the match is one word shorter than their sum, and one word where there is no pair.
-- Example: `a within (b ##1 c)` stores 3 + 3 words; its pair counts 10 words of text, and the match takes 9.
use Rattle.std.specs.Prelude.{List, [], ◌∷◌, ℕ, ◌+◌, ◌*◌, ◌-◌, ◌≤◌, eqb}
use Rattle.words.specs.Choice.{pick}
use Rattle.meaning.specs.Alternative.{SeqAlt}
use Rattle.sizes.specs.Sizes.{most_words}
use Rattle.sizes.specs.declared.Size.{Size}
use Rattle.pair.specs.Pairs.{Fitted}
use Rattle.pair.specs.Sizes.{size, size_in, pair_size, longest_pair_text}
use Rattle.within.specs.AllPairs.{beside}

-- Both together, text and stores apart.
unfoldable pub plus : Size → Size → Size
plus a b = size (a.text + b.text) (a.stores + b.stores)

-- The pairs of one alternative of seq2, whose text has so many words; one of seq2 with its pairs; and all of seq2's.
unfoldable pub pairs_size : ℕ → List Fitted → Size
pairs_size text [] = size 0 0
pairs_size text (f ∷ fs) = plus (pair_size text f) (pairs_size text fs)

unfoldable pub row_size : List SeqAlt → SeqAlt → Size
row_size xs y = plus (size 0 (size_in y).stores) (pairs_size (size_in y).text (beside xs y))

unfoldable pub all_size : List SeqAlt → List SeqAlt → Size
all_size xs [] = size 0 0
all_size xs (y ∷ ys) = plus (row_size xs y) (all_size xs ys)

-- The match, and the whole listing with the match's own word.
unfoldable pub match_size : ℕ → ℕ
match_size texts = pick (eqb texts 0) 1 (texts - 1)

unfoldable pub words_in : List SeqAlt → List SeqAlt → ℕ
words_in xs ys = (all_size xs ys).stores + (match_size (all_size xs ys).text + 1)

-- No more words than k pairs can take; a row by itself takes fewer than a pair.
pub record AtMost (k : ℕ) (z : Size) : Type 0 where
  pub text : z.text ≤ k * longest_pair_text
  pub stores : z.stores ≤ k * most_words

-- The texts of at most 256 pairs, and 256 rows.
abbrev pub longest_match : ℕ
longest_match = 512 * longest_pair_text
