-- What is printed of a tree (SPECIFICATION, "The listing program"): the text of its answer, "with 16,384 words of work and as many of output"; and
-- what is printed of the bytes that hold its words.
-- Example: of `a ##1 b` it is "ok 1 8 2\nseq 0 = a0 any\nmatch = r0 a1 any and\n", of three bytes "refused 1 0\n".
use Rattle.std.specs.Prelude.{Result, Err, ◌≡◌, List, ℕ, ◌%◌, eqb, ltb, length}
use Rattle.words.specs.Choice.{pick}
use Rattle.words.specs.Written.{Wrote}
use Rattle.meaning.specs.Lower.{lower, words_of}
use Rattle.meaning.specs.declared.Listing.{Listing}
use Rattle.meaning.specs.declared.refusal.Refusal.{Refusal}
use Rattle.meaning.specs.declared.refusal.Refusal.TheVariants.{Malformed}
use Rattle.text.specs.Text.{first_line_text, answer_text}
use Rattle.little_endian.specs.Bytes.{words_of_bytes}
use Rattle.lowered_text.specs.declared.Shown.{Shown}

unfoldable pub page_text : List ℕ → List ℕ
page_text t = answer_text (lower t 16384 16384 0) (words_of t 0)

-- "An input of more than 40,960 bytes, or of a number of bytes that is no multiple of four, prints refused 1 0": what is made of no tree, and of a tree.
unfoldable pub of_input : {A : Type 0} → List ℕ → A → A → A
of_input input refused lowered = pick (ltb 40960 (length input)) refused (pick (eqb (length input % 4) 0) lowered refused)

-- The answer, and its text.
unfoldable pub input_answer : List ℕ → Result Listing Refusal
input_answer input = of_input input (Err (Malformed 0)) (lower (words_of_bytes input) 16384 16384 0)

unfoldable pub input_text : List ℕ → List ℕ
input_text input = of_input input (first_line_text (Err (Malformed 0))) (page_text (words_of_bytes input))

-- The answer is given, and its text stands in front of the page.
pub record Shows (answer : Result Listing Refusal) (text page : List ℕ) (r : Shown) (page' : List ℕ) : Type 0 where
  pub answers : r.answer ≡ answer
  pub stands : Wrote page page' 0 r.end text
