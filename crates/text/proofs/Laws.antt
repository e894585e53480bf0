-- Bytes written part by part, as the code meets them; and how many a part has at most, which is the room that its writer asks for.
use mathlib.Core.Bool.{Bool}
use mathlib.Core.Path.{◌≡◌, refl, sym}
use mathlib.Core.List.{List, [], ◌∷◌, ◌++◌, append-nil, append_assoc}
use Prim.Native.Nat.{ℕ, zero, suc, ◌+◌, ◌-◌, ◌*◌, ◌<◌, ◌≤◌, ◌/◌, ◌%◌}
use Prim.Native.Char.{code}
use native.Mathlib.Omega.{arith}
use Rattle.std.proofs.Common.{Result, Ok, Err}
use Rattle.std.proofs.lemmas.Bool.Decides.{nat_tests}
use lib.Dec.{eqb, ltb}
use lib.ListN.{length, get_or, take, length-append, length-take}
use Rattle.words.specs.Choice.{pick, pick_true, pick_false, pick_case}
use Rattle.words.specs.Written.{written, Wrote}
use Rattle.words.proofs.Laws.{two_parts, three_parts}
use Rattle.meaning.specs.Listing.{operation, argument}
use Rattle.meaning.specs.Answers.{number, place}
use Rattle.meaning.specs.declared.Listing.{Listing}
use Rattle.meaning.specs.declared.refusal.Refusal.{Refusal}
use Rattle.text.specs.Text.{bytes, digits, decimal, decimal_then, token_text, tag_text, line_start_text, tokens_text, line_text, first_line_text}

-- Which branch a choice takes.
pub ruleset choices = (pick_true, pick_false, nat_tests)

-- Words in two parts are written one part behind the other.
pub written_append : (o : List ℕ) (at : ℕ) (xs ys : List ℕ) → written o at (xs ++ ys) ≡ written (written o at xs) (at + length xs) ys
written_append o at xs ys =
    let front : Wrote o (written o at xs) at (at + length xs) xs = record { holds = refl; ends = refl } in
    let back : Wrote (written o at xs) (written (written o at xs) (at + length xs) ys) (at + length xs) (at + length xs + length ys) ys =
    record { holds = refl; ends = refl } in
    sym (two_parts front back).holds

pub written_byte : (o : List ℕ) (at x : ℕ) (ws : List ℕ) → written o at (x ∷ ws) ≡ written (written o at (x ∷ [])) (at + 1) ws
written_byte o at x ws = written_append o at (x ∷ []) ws

pub written_nothing : (o : List ℕ) (at : ℕ) → written o at [] ≡ o
unfolding written
written_nothing o at = refl

-- A choice has no more bytes than the longer branch.
pub pick_few : {k : ℕ} (b : Bool) (xs ys : List ℕ) → length xs ≤ k → length ys ≤ k → length (pick b xs ys) ≤ k
pick_few {k} b xs ys x y = pick_case (λ (ws : List ℕ). length ws ≤ k) b (λ e. x) λ e. y

-- A number of at most so many digits has no more bytes than that.
pub digits_few : (most n : ℕ) → length (digits most n) ≤ most
unfolding digits
digits_few zero n = omega arith
digits_few (suc most) n =
    let fewer = digits_few most (n / 10) in
    pick_few (ltb n 10) _ _ (omega arith) (simp length-append (omega arith))

-- A token has at most 21 bytes, a letter and twenty digits; a tag has three, and what stands before the tokens 26.
pub token_few : (w : ℕ) → length (token_text w) ≤ 21
unfolding token_text
token_few w =
    let lettered : suc (length (decimal (argument w))) ≤ 21 = omega (arith, digits_few 20 (argument w)) in
    pick_few (eqb (operation w) 1) _ _ lettered
    (pick_few (eqb (operation w) 2) _ _ lettered
    (pick_few (eqb (operation w) 3) _ _ (omega arith)
    (pick_few (eqb (operation w) 4) _ _ (omega arith)
    (pick_few (eqb (operation w) 5) _ _ (omega arith)
    (pick_few (eqb (operation w) 6) _ _ (omega arith) (pick_few (eqb (operation w) 7) _ _ (omega arith) (omega arith)))))))

pub tag_few : (o : ℕ) → length (tag_text o) ≤ 3
unfolding tag_text
tag_few o =
    pick_few (eqb o 9) _ _ (omega arith)
    (pick_few (eqb o 10) _ _ (omega arith)
    (pick_few (eqb o 11) _ _ (omega arith) (pick_few (eqb o 12) _ _ (omega arith) (omega arith))))

pub line_start_few : (w : ℕ) → length (line_start_text w) ≤ 26
unfolding line_start_text
line_start_few w =
    pick_few (eqb (operation w) 14) _ _ (omega arith)
    (simp length-append (omega (arith, tag_few (operation w), digits_few 20 (argument w))))

-- An expression has at most 22 bytes a word, and a line at most 27 more for its store.
pub tokens_few : (ws : List ℕ) → length (tokens_text ws) ≤ 22 * length ws
unfolding tokens_text
tokens_few [] = omega arith
tokens_few (w ∷ ws) = simp length-append (omega (arith, token_few w, tokens_few ws))

pub line_few : (ws : List ℕ) (w : ℕ) → length (line_text ws w) ≤ 22 * length ws + 27
unfolding line_text
line_few ws w = simp length-append (omega (arith, line_start_few w, tokens_few ws))

pub first_line_few : (answer : Result Listing Refusal) → length (first_line_text answer) ≤ 66
unfolding first_line_text
first_line_few (Ok listing) = simp length-append (omega (arith, digits_few 20 listing.registers, digits_few 20 listing.words, digits_few 20 listing.deepest))
first_line_few (Err refusal) = simp length-append (omega (arith, digits_few 20 (number refusal), digits_few 20 (place refusal)))

-- No digit is allowed; or one is enough, or the digits in front and then the last.
pub no_digits : (n : ℕ) → digits 0 n ≡ []
unfolding digits
no_digits n = refl

pub some_digits : (most n : ℕ) → 0 < most → digits most n ≡ pick (ltb n 10) ((48 + n) ∷ []) (digits (most - 1) (n / 10) ++ ((48 + n % 10) ∷ []))
unfolding digits
some_digits zero n h = absurd (omega arith)
some_digits (suc most) n h = let e : suc most - 1 ≡ most = omega arith in rw e

-- The tokens of no word, and of one word more.
pub no_tokens : tokens_text [] ≡ []
unfolding tokens_text
no_tokens = refl

pub tokens_more : (ws : List ℕ) (i : ℕ) → i < length ws → tokens_text (take (i + 1) ws) ≡ tokens_text (take i ws) ++ (32 ∷ token_text (get_or ws i 0))
unfolding tokens_text
tokens_more [] i h = absurd (omega arith)
tokens_more (w ∷ ws) zero h = rw append-nil
tokens_more (w ∷ ws) (suc i) h =
    let e : suc i + 1 ≡ suc (i + 1) = omega arith in
    let later = tokens_more ws i (omega arith) in
    rw e (simp (later, append_assoc))

-- For what is written part by part, with the room that each part takes.
pub ruleset parts = (
  written_append,
  written_byte,
  written_nothing,
  length-append,
  no_digits,
  some_digits,
  digits_few,
  token_few,
  tag_few,
  line_start_few,
  tokens_few,
  no_tokens,
  tokens_more,
  length-take,
  pick_true,
  pick_false,
  nat_tests,
)

-- The first line of a refusal.
pub refusal_line : {answer : Result Listing Refusal} {refusal : Refusal} {o o₁ o₂ o₃ : List ℕ} {at p q next n m : ℕ} → answer ≡ Err refusal
    → n ≡ number refusal → m ≡ place refusal → Wrote o o₁ at p (bytes "refused ") → Wrote o₁ o₂ p q (decimal_then (code " ") n)
    → Wrote o₂ o₃ q next (decimal_then (code "\n") m) → Wrote o o₃ at next (first_line_text answer)
unfolding first_line_text
refusal_line is e f refused numbered placed = rw (is, ← e, ← f) (three_parts refused numbered placed)
