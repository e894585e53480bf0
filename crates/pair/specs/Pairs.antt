-- A pair of a root within: one alternative of seq1 beside one of seq2, with so many further delays, and what the pair adds to the listing.
-- Seq1's registers are fresh in each pair; of seq2's alternative only its text is looked at. Once said of alternatives, once of what is kept of them.
-- Example: in `a within (b ##1 c)` the pair stores `a0 any seq1`, and its text is `r0 a2 any and a0 any r1 or and`.
use Rattle.std.specs.Prelude.{◌≡◌, List, [], ◌∷◌, ◌++◌, ℕ, zero, suc, ◌+◌, ◌≤◌, eqb}
use Rattle.words.specs.Choice.{pick}
use Rattle.words.specs.Written.{Wrote}
use Rattle.meaning.specs.Alternative.{SeqAlt}
use Rattle.step_text.specs.Text.{register_word, and_word, or_word}
use Rattle.term.specs.declared.Kept.{Kept}
use Rattle.current.specs.Text.{registers_before}
use Rattle.current.specs.Walk.{Placed}
use Rattle.pipeline.specs.Stores.{delay_store_words, alternative_store_words}
use Rattle.alternative.specs.Alternatives.{registers_in, stores_in, text_in}
use Rattle.alternative.specs.Keeping.{kept_text, Ended}
use Rattle.pair.specs.declared.Pair.{Pair}
use Rattle.pair.specs.declared.Mark.{Mark}

-- Each of the d registers from r on, ORed to the text before.
unfoldable pub delay_texts : ℕ → ℕ → List ℕ
delay_texts r zero = []
delay_texts r (suc d) = register_word r ∷ or_word ∷ delay_texts (suc r) d

-- What joins a pair's text to the pairs before it: an OR, unless no word of theirs stands there.
unfoldable pub joining : ℕ → List ℕ
joining before = pick (eqb before 0) [] (or_word ∷ [])

-- An alternative of seq1 that fits beside one of seq2, and its "l - k1 further delays".
pub record Fitted : Type 0 where
  pub alternative : SeqAlt
  pub delays : ℕ

-- Its pair: registers of its own, its delays, and its AND to the text of seq2's alternative, match-2, behind so many words of the match.
unfoldable pub pair_registers : Fitted → ℕ
pair_registers f = registers_in f.alternative + f.delays

unfoldable pub pair_stores : Fitted → ℕ → List ℕ
pair_stores f r =
    let y = f.alternative in
    stores_in y r ++ delay_store_words [] (r + registers_in y) f.delays (text_in y r)

unfoldable pub pair_text : ℕ → List ℕ → Fitted → ℕ → List ℕ
pair_text before match_2 f r =
    let y = f.alternative in
    match_2 ++ ((text_in y r ++ delay_texts (r + registers_in y) f.delays) ++ (and_word ∷ joining before))

-- The delays of a kept alternative's text in d registers from r on, and the text with each of them ORed to it.
abbrev pub slide_store_words : List ℕ → Kept → ℕ → ℕ → List ℕ
slide_store_words W a r d = delay_store_words [] r d (kept_text W a)

abbrev pub slid_text_words : List ℕ → Kept → ℕ → ℕ → List ℕ
slid_text_words W a r d = kept_text W a ++ delay_texts r d

-- A pair that is kept: how many registers it has, the first of its delays', its assignments and its text.
unfoldable pub kept_pair_registers : List ℕ → Pair → ℕ
kept_pair_registers W pair = registers_before W pair.one pair.one.steps + pair.delays

abbrev pub first_delay : List ℕ → Pair → ℕ
first_delay W pair = pair.one.register + registers_before W pair.one pair.one.steps

unfoldable pub kept_pair_stores : List ℕ → Pair → List ℕ
kept_pair_stores W pair = alternative_store_words W pair.one ++ slide_store_words W pair.one (first_delay W pair) pair.delays

unfoldable pub kept_pair_text : List ℕ → Pair → ℕ → List ℕ
kept_pair_text W pair before = kept_text W pair.two ++ (slid_text_words W pair.one (first_delay W pair) pair.delays ++ (and_word ∷ joining before))

-- A kept alternative and d delays, from r on: their registers are small enough for words.
pub record Slid (W : List ℕ) (a : Kept) (r d : ℕ) : Type 0 where
  pub ended : Ended W a r
  pub few : r + d ≤ 65536

-- So are those of a kept pair.
pub record PlacedPair (W : List ℕ) (pair : Pair) : Type 0 where
  pub placed : Placed W pair.one
  pub few : pair.one.register + kept_pair_registers W pair ≤ 65536

-- Words were put from the place on, and the next pair goes on with this register.
pub record Marked (before after : List ℕ) (place : ℕ) (m : Mark) (words : List ℕ) (register : ℕ) : Type 0 where
  pub wrote : Wrote before after place m.place words
  pub next : m.register ≡ register

-- No window is longer: at most 65,536 steps, each with a hop of at most 2^32 - 1 ticks, and one tick.
abbrev pub longest_window : ℕ
longest_window = 281474976710656

-- A pair has at most the registers of an alternative, and a delay for each tick of a window.
abbrev pub most_pair_registers : ℕ
most_pair_registers = 844424930131968
