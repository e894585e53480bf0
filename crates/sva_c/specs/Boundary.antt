-- What a C program sees of lowering, of a tick, of a stretch and of the matcher: a number for an enum, and plain memory for all else.
-- Example: for the words of `a ##1 b`, 32 words of work and 8 of output, the number is 0, registers, words and deepest are
-- 1, 8 and 2, and the place is 0. With 7 words of output the number is 14, and the counts and the place are 0.
-- Each field is an equation of a result, or of what lent memory holds after the call, to the definitions of `meaning`; of the matcher's answers
-- it is `Holds`, which says of each byte what it is.
use Rattle.std.specs.Prelude.{◌≡◌, Result, Ok, Err, List, ℕ, length, replicate}
use Rattle.meaning.specs.Check.{stretch}
use Rattle.meaning.specs.Lower.{lower, output_after}
use Rattle.meaning.specs.Tick.{tick, next_after, stack_left}
use Rattle.stretch.specs.Start.{stretch_start}
use Rattle.recording.specs.Refusals.{judged}
use Rattle.matches.specs.Answers.{Holds}
use Rattle.meaning.specs.Answers.{number, place, tick_number, tick_place}
use Rattle.meaning.specs.declared.Listing.{Listing}
use Rattle.meaning.specs.declared.refusal.Refusal.{Refusal}
use Rattle.meaning.specs.declared.refusal.TickRefusal.{TickRefusal}

-- The number of a lowering: 0, or the refusal's.
unfoldable pub lowered_number : Result Listing Refusal → ℕ
lowered_number (Ok listing) = 0
lowered_number (Err refusal) = number refusal

-- Its registers, its words and its deepest stack; zero on a refusal.
unfoldable pub lowered_registers : Result Listing Refusal → ℕ
lowered_registers (Ok listing) = listing.registers
lowered_registers (Err refusal) = 0

unfoldable pub lowered_words : Result Listing Refusal → ℕ
lowered_words (Ok listing) = listing.words
lowered_words (Err refusal) = 0

unfoldable pub lowered_deepest : Result Listing Refusal → ℕ
lowered_deepest (Ok listing) = listing.deepest
lowered_deepest (Err refusal) = 0

-- The refusal's place; zero for a listing.
unfoldable pub lowered_place : Result Listing Refusal → ℕ
lowered_place (Ok listing) = 0
lowered_place (Err refusal) = place refusal

-- What `sva_lower` returns and leaves.
pub record LowersForC (tree work out : List ℕ) (number : ℕ) (work_after out_after : List ℕ) (registers words deepest place : ℕ) : Type 0 where
  pub number_is : number ≡ lowered_number (lower tree (length work) (length out) 0)
  pub work_is : work_after ≡ replicate (length work) 0
  pub out_is : out_after ≡ output_after (lower tree (length work) (length out) 0) tree 0 out
  pub registers_are : registers ≡ lowered_registers (lower tree (length work) (length out) 0)
  pub words_are : words ≡ lowered_words (lower tree (length work) (length out) 0)
  pub deepest_is : deepest ≡ lowered_deepest (lower tree (length work) (length out) 0)
  pub place_is : place ≡ lowered_place (lower tree (length work) (length out) 0)

-- The number of a tick: 0, or the refusal's.
unfoldable pub ticked_number : Result ℕ TickRefusal → ℕ
ticked_number (Ok bit) = 0
ticked_number (Err refusal) = tick_number refusal

-- The match bit; what was held before, on a refusal.
unfoldable pub match_after : Result ℕ TickRefusal → ℕ → ℕ
match_after (Ok bit) held = bit
match_after (Err refusal) held = held

-- The refusal's place; zero for a match bit.
unfoldable pub ticked_place : Result ℕ TickRefusal → ℕ
ticked_place (Ok bit) = 0
ticked_place (Err refusal) = tick_place refusal

-- What `sva_tick` returns and leaves.
pub record TicksForC (listing cur atoms next stack : List ℕ) (held number : ℕ) (next_held stack_held : List ℕ) (match place : ℕ) : Type 0 where
  pub number_is : number ≡ ticked_number (tick listing cur atoms (length next) (length stack))
  pub next_is : next_held ≡ next_after (tick listing cur atoms (length next) (length stack)) listing cur atoms next
  pub stack_is : stack_held ≡ stack_left (tick listing cur atoms (length next) (length stack)) stack
  pub match_is : match ≡ match_after (tick listing cur atoms (length next) (length stack)) held
  pub place_is : place ≡ ticked_place (tick listing cur atoms (length next) (length stack))

-- What `sva_stretch` returns and leaves.
pub record StretchesForC (listing : List ℕ) (register size start : ℕ) : Type 0 where
  pub size_is : size ≡ length (stretch listing register)
  pub start_is : start ≡ stretch_start listing register

-- The number of a matcher's answer: 0, or the refusal's.
unfoldable pub matched_number : Result ℕ Refusal → ℕ
matched_number (Ok ticks) = 0
matched_number (Err refusal) = number refusal

-- Its ticks; zero on a refusal.
unfoldable pub matched_ticks : Result ℕ Refusal → ℕ
matched_ticks (Ok ticks) = ticks
matched_ticks (Err refusal) = 0

-- The refusal's place; zero where ticks were answered.
unfoldable pub matched_place : Result ℕ Refusal → ℕ
matched_place (Ok ticks) = 0
matched_place (Err refusal) = place refusal

-- What `sva_matches` returns and leaves.
pub record MatchesForC (tree rows : List ℕ) (width : ℕ) (answers work : List ℕ) (number : ℕ) (answers_after work_after : List ℕ) (ticks place : ℕ) : Type 0 where
  pub number_is : number ≡ matched_number (judged tree rows width (length answers) (length work))
  pub answers_hold : Holds (judged tree rows width (length answers) (length work)) tree rows width answers answers_after
  pub work_is : work_after ≡ replicate (length work) 0
  pub ticks_are : ticks ≡ matched_ticks (judged tree rows width (length answers) (length work))
  pub place_is : place ≡ matched_place (judged tree rows width (length answers) (length work))
