-- The cases behind a place of a text, line by line.
use Rattle.std.proofs.Common.{◌≡◌, refl, ◌∙◌, Bool, true, false, not, cond, List, [], ◌∷◌, ℕ, suc, ◌+◌, ◌-◌, ◌≤◌, arith, eqb, ltb, length, take, drop}
use borrow.Author.Tests.{ltb-true, ltb-false}
use Rattle.std.specs.List.{position_or_len, slice_split, onto_first}
use Rattle.std.proofs.lemmas.List.{drop_all}
use Rattle.std.proofs.lemmas.List.Splits.{slice_split_first}
use lib.Seq.{take_all, drop-drop}
use Rattle.words.specs.Choice.{pick, pick_true, pick_false}
use Rattle.cases.specs.Lines.{bytes_before, next_place}
use Rattle.cases.proofs.Laws.{search_passes}
use Rattle.replay.specs.Lines.{skipped, cases_from}

abbrev newline : ℕ → Bool
newline b = eqb b 10

-- The cases of the lines from a place on.
abbrev pub cases_left : Bool → List ℕ → ℕ → List (List ℕ)
cases_left named text from = cases_from named (slice_split (λ b. eqb b 10) (drop from text))

-- A text without an end of a line is one line.
one_line_by : (ends : Bool) (b : ℕ) (bs : List ℕ) (lines : List (List ℕ)) (n : ℕ) → suc (length bs) ≤ cond (not ends) (1 + n) 0
    → (length bs ≤ n → lines ≡ bs ∷ []) → cond ends ([] ∷ lines) (onto_first b lines) ≡ (b ∷ bs) ∷ []
one_line_by true b bs lines n h later = absurd (omega arith)
one_line_by false b bs lines n h later = rw (later (omega arith)) refl

one_line : (bs : List ℕ) → length bs ≤ position_or_len newline bs → slice_split newline bs ≡ bs ∷ []
one_line [] h = refl
one_line (b ∷ bs) h = one_line_by (newline b) b bs (slice_split newline bs) (position_or_len newline bs) h (one_line bs)

-- Nothing behind the last line says nothing.
end_says_nothing : (named : Bool) (line : List ℕ) → cases_from named (line ∷ []) ≡ cases_from named (line ∷ ([] ∷ []))
unfolding cases_from skipped pick
end_says_nothing named line = refl

-- The first line, and the others.
next_line_by : (b : Bool) (named : Bool) (bs : List ℕ) → (let k = position_or_len newline bs in
    ltb k (length bs) ≡ b → cases_from named (slice_split newline bs) ≡ cases_from named (take k bs ∷ slice_split newline (drop (k + 1) bs)))
next_line_by true named bs e = rw (slice_split_first newline bs 0 (ltb-true _ _ e)) refl
next_line_by false named bs e =
    let k : ℕ = position_or_len newline bs in
    let all : length bs ≤ k = ltb-false _ _ e in
    rw (one_line bs all, take_all k bs all, drop_all (k + 1) bs (omega arith)) (end_says_nothing named bs)

module _ (text : List ℕ) (from end : ℕ) (ends : end ≡ next_place text from 10) where
  next_line : (named : Bool) → cases_left named text from ≡ cases_from named (take (end - from) (drop from text) ∷ slice_split newline (drop (end + 1) text))
  next_line named =
      let rest : List ℕ = drop from text in
      let k : ℕ = position_or_len newline rest in
      let passed : bytes_before 10 rest ≡ k = search_passes 10 rest in
      let front : end - from ≡ k = omega arith in
      let behind : from + (k + 1) ≡ end + 1 = omega arith in
      rw (front, ← behind, ← drop-drop (k + 1) from text) (next_line_by (ltb k (length rest)) named rest refl)

  pub skipped_line : (named : Bool) → skipped (take (end - from) (drop from text)) ≡ true → cases_left named text from ≡ cases_left named text (end + 1)
  unfolding cases_from
  skipped_line named e = next_line named ∙ pick_true _ _ e

  pub name_line : {named : Bool} → named ≡ false → skipped (take (end - from) (drop from text)) ≡ false → cases_left named text from ≡ cases_left (not named) text (end + 1)
  unfolding cases_from
  name_line {named} n e = rw n (next_line false ∙ pick_false _ _ e ∙ pick_false _ _ refl)

  pub case_line : {named : Bool} → named ≡ true → skipped (take (end - from) (drop from text)) ≡ false
      → cases_left named text from ≡ take (end - from) (drop from text) ∷ cases_left (not named) text (end + 1)
  unfolding cases_from
  case_line {named} n e = rw n (next_line true ∙ pick_false _ _ e ∙ pick_true _ _ refl)

-- Behind the text there is no case.
pub none_left : (named : Bool) (text : List ℕ) (from : ℕ) → length text ≤ from → cases_left named text from ≡ []
unfolding cases_from skipped pick
none_left named text from h = rw (drop_all from text h) refl
