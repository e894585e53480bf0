-- The choice at a root that is no within, alternative by alternative, so that code can write it with one alternative at hand.
-- Example: `a[*1:2]` has two alternatives. Their stores are `a0 any seq0`, of the second; their texts, each closed by what
-- joins it to those before, are `a0` `any` and `r0 a0 any and` `any or`.
use Rattle.std.specs.Prelude.{List, [], ◌∷◌, ◌++◌, ℕ, ◌+◌, ◌≤◌, Result, Ok, Err, eqb, length}
use Rattle.words.specs.Choice.{pick}
use Rattle.meaning.specs.Alternative.{SeqAlt}
use Rattle.meaning.specs.Root.{lone_or_pipeline}
use Rattle.meaning.specs.Listing.{word, expression_words}
use Rattle.meaning.specs.Refusals.{steps_fit, Found, at, nowhere}
use Rattle.meaning.specs.declared.refusal.Refusal.{Refusal}
use Rattle.meaning.specs.declared.refusal.Refusal.TheVariants.{MisplacedEmpty}
use Rattle.expand.specs.ByNumber.{alternatives_of}
use Rattle.alternative.specs.Alternatives.{registers_in, stores_in}
use Rattle.alternative.specs.Keeping.{Keepable}

-- The words of an alternative's match at the root. "a lone unguarded Bool stays the bare atom."
unfoldable pub root_text_in : SeqAlt → ℕ → List ℕ
root_text_in y r = expression_words (lone_or_pipeline y.guard y.steps r).cur

-- The registers and the words of the assignments of alternatives one after the other, "each alternative has registers of its own".
unfoldable pub all_registers : List SeqAlt → ℕ
all_registers [] = 0
all_registers (y ∷ ys) = registers_in y + all_registers ys

unfoldable pub all_stores : List SeqAlt → ℕ → List ℕ
all_stores [] r = []
all_stores (y ∷ ys) r = stores_in y r ++ all_stores ys (r + registers_in y)

-- "Of two or more, each is reduced by OR, and they are joined by OR from the left": what stands behind the i-th of so
-- many.
unfoldable pub closing : ℕ → ℕ → List ℕ
closing count i = pick (eqb count 1) [] (pick (eqb i 0) (word 5 0 ∷ []) (word 5 0 ∷ word 8 0 ∷ []))

-- The words of the match, from the i-th alternative on, of so many.
unfoldable pub all_texts : ℕ → ℕ → List SeqAlt → ℕ → List ℕ
all_texts count i [] r = []
all_texts count i (y ∷ ys) r = root_text_in y r ++ (closing count i ++ all_texts count (i + 1) ys (r + registers_in y))

-- The match with its own word, and all words of the choice.
unfoldable pub match_words : List SeqAlt → ℕ → List ℕ
match_words alts r = all_texts (length alts) 0 alts r ++ (word 14 0 ∷ [])

unfoldable pub choice_words : List SeqAlt → ℕ → List ℕ
choice_words alts r = all_stores alts r ++ match_words alts r

-- 12 of the lowest alternative from the i-th on; if there is none, the registers of them all, added to the total.
unfoldable pub survey_from : ℕ → List SeqAlt → ℕ → Result ℕ Refusal
survey_from i [] total = Ok total
survey_from i (y ∷ ys) total = let more = survey_from (i + 1) ys (total + registers_in y) in pick (steps_fit y.steps) more (Err (MisplacedEmpty i))

unfoldable pub survey_of : List SeqAlt → Result ℕ Refusal
survey_of alts = survey_from 0 alts 0

-- What a survey tells, from where 12 falls and from how many registers there are.
abbrev pub survey_by : Found → ℕ → Result ℕ Refusal
survey_by (at i) registers = Err (MisplacedEmpty i)
survey_by nowhere registers = Ok registers

-- The alternatives of node n can be kept in work one after the other, and their registers, from `first` on, are small enough for words.
pub record Numberable (t o : List ℕ) (n first work : ℕ) : Type 0 where
  pub keepable : Keepable t o n 0 work
  pub few : first + all_registers (alternatives_of t n) ≤ 65536
