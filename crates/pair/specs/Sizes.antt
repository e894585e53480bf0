-- How many words a pair takes. Its text is counted with the OR that joins it to the pairs before, also where none stands there.
-- Example: in `a within (b ##1 c)` the pair stores 3 words, and its text counts 4 + 2 + 2 + 2.
use Rattle.std.specs.Prelude.{ℕ, ◌+◌, ◌*◌, length}
use Rattle.meaning.specs.Alternative.{SeqAlt}
use Rattle.sizes.specs.Sizes.{delays_size}
use Rattle.sizes.specs.declared.Size.{Size}
use Rattle.alternative.specs.Alternatives.{stores_in, text_in}
use Rattle.pair.specs.Pairs.{Fitted}

abbrev pub size : ℕ → ℕ → Size
size text stores = record { text = text; stores = stores }

-- One alternative: as many words from any register on.
unfoldable pub size_in : SeqAlt → Size
size_in y = size (length (text_in y 0)) (length (stores_in y 0))

-- A pair with d further delays, from the words of seq1's alternative and of the text of seq2's; its AND and its OR are the two words more.
unfoldable pub pair_size_of : Size → ℕ → ℕ → Size
pair_size_of own two d = size (two + (own.text + (2 * d + 2))) (own.stores + delays_size 0 d own.text)

abbrev pub pair_size : ℕ → Fitted → Size
pair_size two f = pair_size_of (size_in f.alternative) two f.delays

-- An alternative's text, with a guard or without: it holds while each of at most 65,536 steps adds at most 16 words to the text before it, and a guard
-- is as short as `sizes` asks. A pair has two such texts, two words a delay and two more.
abbrev pub longest_text : ℕ
longest_text = 2097152

abbrev pub longest_pair_text : ℕ
longest_pair_text = 8388608
