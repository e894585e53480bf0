-- A guard as words (SPECIFICATION, "Alternatives": "their guards are ANDed, the left one first"): an AND tree, postfix.
-- With a closing `and`, guarding an expression is appending these words to it.
-- Example: the guard of `c throughout (d throughout a)` is `a3 any a2 any and`, closed `a3 any a2 any and and`.
use Rattle.std.specs.Prelude.{List, [], ◌∷◌, ℕ, eqb}
use Rattle.words.specs.Choice.{pick}
use Rattle.meaning.specs.Alternative.{Guard, unguarded, guard, SeqAlt}
use Rattle.meaning.specs.Listing.{word, expression_words}
use Rattle.term.specs.Guards.{guard_words}
use Rattle.expand.specs.ByNumber.{nth}

-- The words of a guard; none where there is none.
abbrev pub guard_expression : Guard → List ℕ
guard_expression unguarded = []
guard_expression (guard x) = expression_words x

-- The words of the i-th alternative's guard, and with the `and` of the expression that it guards.
unfoldable pub guard_text : List SeqAlt → ℕ → List ℕ
guard_text alts i = guard_expression (nth alts i).guard

unfoldable pub closed_guard : List SeqAlt → ℕ → List ℕ
closed_guard alts i = guard_words (nth alts i).guard

-- `and_opt`, told from the places between which two guards were written: an `and` where both wrote something.
unfoldable pub joining : ℕ → ℕ → ℕ → List ℕ
joining from middle end = pick (eqb from middle) [] (pick (eqb middle end) [] (word 7 0 ∷ []))
