-- A guard as words that stand behind an expression: the guard's own, and the `and` of both. No words leave an expression as it is.
-- Example: the guard of `c throughout a` is `a2 any and`, so that `a0 any a2 any and` is the seed under it.
use Rattle.std.specs.Prelude.{List, [], ◌∷◌, ◌++◌, ℕ}
use Rattle.meaning.specs.Alternative.{Guard, unguarded, guard}
use Rattle.meaning.specs.Listing.{word, expression_words}

-- "ANDed to the seed and to the value behind each delay register of a fixed hop."
abbrev pub guard_words : Guard → List ℕ
guard_words unguarded = []
guard_words (guard x) = expression_words x ++ (word 7 0 ∷ [])
