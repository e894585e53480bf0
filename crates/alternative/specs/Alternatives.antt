-- What one alternative adds to the listing, as words: "each alternative has registers of its own". The choice at the root and the pairs of a within are
-- made of these.
-- Example: `a ##2 b` from register 5 on has 2 registers, the stores `a0 any seq5 r5 seq6`, and the text `r6 a1 any and`.
use Rattle.std.specs.Prelude.{List, ℕ, length}
use Rattle.meaning.specs.Expression.{Synth}
use Rattle.meaning.specs.Alternative.{SeqAlt}
use Rattle.meaning.specs.Pipeline.{synth_seq_pipeline}
use Rattle.meaning.specs.Listing.{expression_words, store_words}

-- The pipeline of an alternative, registers numbered from r on.
abbrev pub alternative_synth : SeqAlt → ℕ → Synth
alternative_synth y r = synth_seq_pipeline y.guard y.steps r

-- How many registers an alternative has: as many from any number on.
unfoldable pub registers_in : SeqAlt → ℕ
registers_in y = length (alternative_synth y 0).stores

-- The words of an alternative's assignments.
unfoldable pub stores_in : SeqAlt → ℕ → List ℕ
stores_in y r = store_words r (alternative_synth y r).stores

-- The words of an alternative's text.
unfoldable pub text_in : SeqAlt → ℕ → List ℕ
text_in y r = expression_words (alternative_synth y r).cur
