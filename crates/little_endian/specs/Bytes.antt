-- Little-endian words: four bytes a word, the lowest first.
-- Example: `words_of_bytes (1 ∷ 0 ∷ 0 ∷ 0 ∷ 0 ∷ 2 ∷ 0 ∷ 0 ∷ [])` is `1 ∷ 512 ∷ []`.
use Rattle.std.specs.Prelude.{List, [], ◌∷◌, ℕ, ◌+◌, ◌*◌}

abbrev pub word_of_bytes : ℕ → ℕ → ℕ → ℕ → ℕ
word_of_bytes a b c d = a + b * 256 + c * 65536 + d * 16777216

-- The words of whole groups of four bytes.
unfoldable pub words_of_bytes : List ℕ → List ℕ
words_of_bytes (a ∷ b ∷ c ∷ d ∷ rest) = word_of_bytes a b c d ∷ words_of_bytes rest
words_of_bytes [] = []
words_of_bytes (a ∷ []) = []
words_of_bytes (a ∷ b ∷ []) = []
words_of_bytes (a ∷ b ∷ c ∷ []) = []
