-- How `current` goes through the steps: back from the last one, writing prefixes, to a step whose text begins anew; then forth, writing suffixes.
-- Example: after `a ##[0:$] b` the walk writes `r0` going back, `a0 any` at the first step, and `or a1 any and` going forth.
use Rattle.std.specs.Prelude.{Bool, false, List, [], ◌++◌, ℕ, zero, suc, ◌+◌, ◌-◌, ◌<◌, ◌≤◌, eqb}
use Rattle.words.specs.Choice.{pick}
use Rattle.term.specs.declared.Kept.{Kept}
use Rattle.term.specs.Keeping.{step_of, guard_of, Whole}
use Rattle.step_text.specs.Text.{reach, hop_keeps, term_keeps, lead_text, step_suffix, step_base}
use Rattle.current.specs.Text.{registers_at, registers_before, text_at}

-- Whether the text after the k-th step holds the text before it.
unfoldable pub goes_on : List ℕ → Kept → ℕ → Bool
goes_on W a k = pick (eqb k 0) false (pick (hop_keeps (reach (step_of W a k))) (term_keeps (step_of W a k).term) false)

-- The text after a step that begins anew: the first step's, or a later one's.
unfoldable pub base_text : List ℕ → Kept → ℕ → ℕ → List ℕ
base_text W a k r = pick (eqb k 0) (lead_text r (step_of W a 0).term ++ guard_of W a) (step_base (guard_of W a) r (step_of W a k))

-- The suffixes of the count steps after the k-th, whose first register is r.
unfoldable pub suffixes_after : List ℕ → Kept → ℕ → ℕ → ℕ → List ℕ
suffixes_after W a k r zero = []
suffixes_after W a k r (suc count) =
    step_suffix (r + registers_at W a k) (step_of W a (suc k)) ++ suffixes_after W a (suc k) (r + registers_at W a k) count

-- The text before the k-th step, whose first register is r.
abbrev pub text_before : List ℕ → Kept → ℕ → ℕ → List ℕ
text_before W a k r = text_at W a (k - 1) (r - registers_at W a (k - 1))

-- The k-th step is there, and its registers, from r on, are small enough for a word.
pub record Piece (W : List ℕ) (a : Kept) (k r : ℕ) : Type 0 where
  pub whole : Whole W a
  pub among : k < a.steps
  pub high : r + registers_at W a k ≤ 65536

-- The steps up to the k-th, whose first register is r, are there, and their registers are small enough for words.
pub record Ready (W : List ℕ) (a : Kept) (k r : ℕ) : Type 0 where
  pub whole : Whole W a
  pub among : k < a.steps
  pub low : registers_before W a k ≤ r
  pub high : r + registers_at W a k ≤ 65536

-- The steps after the k-th, whose first register is r, up to the j-th are there, and their registers are small enough for words.
pub record Tail (W : List ℕ) (a : Kept) (k r j : ℕ) : Type 0 where
  pub whole : Whole W a
  pub order : k ≤ j
  pub among : j < a.steps
  pub high : r + registers_before W a (j + 1) ≤ 65536 + registers_before W a k

-- All registers of a kept alternative, from its own first on, are small enough for words.
pub record Placed (W : List ℕ) (a : Kept) : Type 0 where
  pub whole : Whole W a
  pub registers : a.register + registers_before W a a.steps ≤ 65536
