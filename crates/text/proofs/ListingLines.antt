-- The lines of a listing: where the first store stands, what the loop over the lines keeps, and the whole text from its parts.
use mathlib.Core.Bool.{Bool, true, false, cond}
use mathlib.Core.Path.{◌≡◌, refl, ◌∙◌}
use mathlib.Core.List.{List, [], ◌∷◌, ◌++◌, append-nil, append_assoc}
use Prim.Native.Nat.{ℕ, suc, ◌+◌, ◌-◌, ◌*◌, ◌<◌, ◌≤◌, ◌/◌}
use Rattle.std.proofs.Common.{add-one, one-add, Some, None, Result}
use native.Mathlib.Omega.{arith}
use Rattle.std.specs.List.{position, position_or_len}
use Rattle.std.proofs.lemmas.Bool.Decides.{nat_tests}
use Rattle.std.proofs.lemmas.List.Recursion.{is_position_or_len}
use lib.Dec.{leb}
use lib.ListN.{length, get_or, take, drop, length-append, length-take, length-drop}
use lib.Seq.{take_all, length-take-le}
use Rattle.words.specs.Choice.{pick}
use Rattle.words.specs.Written.{Wrote}
use Rattle.words.proofs.Laws.{Going, begin, go, done, length-written, two_parts}
use Rattle.meaning.specs.Listing.{operation}
use Rattle.meaning.specs.declared.Listing.{Listing}
use Rattle.meaning.specs.declared.refusal.Refusal.{Refusal}
use Rattle.text.specs.Text.{line_text, lines_text, expression_length, words_listed, answer_text}
use Rattle.text.proofs.Laws.{written_append, pick_few, line_few, first_line_few}

-- An expression ends where the search for a store or a match does.
abbrev is_store : ℕ → Bool
is_store w = leb 9 (w / 16777216)

pick_is_cond : {A : Type 0} (b : Bool) (x y : A) → pick b x y ≡ cond b x y
unfolding pick
pick_is_cond true x y = refl
pick_is_cond false x y = refl

expression_ends : (ws : List ℕ) → expression_length ws ≡ position_or_len is_store ws
unfolding expression_length
expression_ends ws = is_position_or_len expression_length is_store refl (λ w vs. rw one-add (pick_is_cond (is_store w) 0 (suc (expression_length vs)))) ws

found : (ws : List ℕ) {end : ℕ} → Some end ≡ position is_store ws → (end ≡ expression_length ws) × (end < length ws)
found ws e = rw expression_ends (grind (arith, nat_tests))

found_none : (ws : List ℕ) → None ≡ position is_store ws → length ws ≤ expression_length ws
found_none ws e = rw expression_ends (grind (arith, nat_tests))

-- The line of the n words in front and of the word behind them, then the other lines.
abbrev LineFirst : List ℕ → List ℕ → ℕ → Type 0
LineFirst before ws n = lines_text before ws ≡ line_text (before ++ take n ws) (get_or ws n 0) ++ lines_text [] (drop (suc n) ws)

-- At a store the line ends; else its expression has a word more.
line_at : (b : Bool) (before : List ℕ) (w : ℕ) (ws : List ℕ) (n : ℕ) → leb 9 (operation w) ≡ b → pick b 0 (suc n) < suc (length ws)
    → (n < length ws → LineFirst (before ++ (w ∷ [])) ws n) → LineFirst before (w ∷ ws) (pick b 0 (suc n))
unfolding lines_text pick
line_at true before w ws n e h later = rw (e, append-nil) refl
line_at false before w ws n e h later = rw e (later (omega arith) ∙ rw append_assoc refl)

-- The first line is that of the words before the first store.
line_first : (before ws : List ℕ) → expression_length ws < length ws → LineFirst before ws (expression_length ws)
unfolding expression_length
line_first before [] h = absurd (omega arith)
line_first before (w ∷ ws) h =
    line_at (leb 9 (operation w)) before w ws (expression_length ws) refl h λ inside. line_first (before ++ (w ∷ [])) ws inside

-- Words without a store give no line.
no_line_at : (b : Bool) (before : List ℕ) (w : ℕ) (ws : List ℕ) (n : ℕ) → leb 9 (operation w) ≡ b → suc (length ws) ≤ pick b 0 (suc n)
    → (length ws ≤ n → lines_text (before ++ (w ∷ [])) ws ≡ []) → lines_text before (w ∷ ws) ≡ []
unfolding lines_text pick
no_line_at true before w ws n e h later = absurd (omega arith)
no_line_at false before w ws n e h later = rw e (later (omega arith))

no_line : (before ws : List ℕ) → length ws ≤ expression_length ws → lines_text before ws ≡ []
unfolding expression_length lines_text
no_line before [] h = refl
no_line before (w ∷ ws) h =
    no_line_at (leb 9 (operation w)) before w ws (expression_length ws) refl h λ none. no_line (before ++ (w ∷ [])) ws none

-- The loop of `lines`: those of the rest remain.
pub record Lining (listing o : List ℕ) (at : ℕ) (o' : List ℕ) (p : ℕ) (rest : List ℕ) : Type 0 where
  pub place : p + 27 * length rest ≤ at + 27 * length listing
  pub long : length o' ≡ length o
  pub going : Going o at (lines_text [] listing) o' p (lines_text [] rest)

pub lining_begins : (listing o : List ℕ) (at : ℕ) → Lining listing o at o at listing
lining_begins listing o at = record { place = omega arith; long = refl; going = begin o at (lines_text [] listing) }

module _ {listing o : List ℕ} {at : ℕ} {o' : List ℕ} {p : ℕ} {rest : List ℕ} (g : Lining listing o at o' p rest) where
  pub lining_on : {o'' : List ℕ} {q end : ℕ} → Some end ≡ position (λ w. leb 9 (w / 16777216)) rest
      → Wrote o' o'' p q (line_text (take end rest) (get_or rest end 0)) → Lining listing o at o'' q (take (length rest - (end + 1)) (drop (end + 1) rest))
  lining_on {end = end} is wrote =
      let (e, h) = found rest is in
      let line : lines_text [] rest ≡ line_text (take end rest) (get_or rest end 0) ++ lines_text [] (drop (end + 1) rest) =
      rw (add-one end, e) (line_first [] rest (rw (← e) h)) in
      let next = go (line_text (take end rest) (get_or rest end 0)) (lines_text [] (drop (end + 1) rest)) (rw line at g.going) wrote in
      let few = line_few (take end rest) (get_or rest end 0) in
      let words = length-take-le end rest (omega arith) in
      let left = length-drop (end + 1) rest in
      rw (take_all (length rest - (end + 1)) (drop (end + 1) rest) (omega arith))
      record { place = omega (arith, g.place, wrote.ends); long = next.long; going = next }

  pub lining_ends : None ≡ position (λ w. leb 9 (w / 16777216)) rest → Wrote o o' at p (lines_text [] listing)
  lining_ends is = done (rw (no_line [] rest (found_none rest is)) at g.going)

-- No words have no lines.
pub no_lines : (before : List ℕ) → lines_text before [] ≡ []
unfolding lines_text
no_lines before = refl

-- The text has no more bytes than the room that is asked for.
lines_few : (before ws : List ℕ) → length (lines_text before ws) ≤ 22 * length before + 27 * length ws
unfolding lines_text
lines_few before [] = omega arith
lines_few before (w ∷ ws) =
    pick_few (leb 9 (operation w)) _ _
    (simp length-append (omega (arith, line_few before w, lines_few [] ws)))
    (omega (arith, lines_few (before ++ (w ∷ [])) ws, length-append before (w ∷ [])))

pub answer_few : (answer : Result Listing Refusal) (out : List ℕ) → length (answer_text answer out) ≤ 128 + 32 * words_listed answer
unfolding answer_text
answer_few answer out =
    let words : length (take (words_listed answer) out) ≤ words_listed answer = simp length-take (omega arith) in
    simp length-append (omega (arith, first_line_few answer, lines_few [] (take (words_listed answer) out)))

-- For the whole text, from its first line and the lines of the listing.
pub ruleset whole = (written_append, no_lines, append-nil, length-append, length-take, length-written, first_line_few)
