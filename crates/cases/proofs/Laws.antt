-- A text is read from the front: what the three loops keep, and a word's number that is put where there is room.
use mathlib.Core.Bool.{Bool, true, false, cond, not}
use mathlib.Core.Path.{◌≡◌, refl, sym, ap, ◌∙◌}
use mathlib.Core.List.{List, [], ◌∷◌, ◌++◌, append-nil, append_assoc}
use Prim.Native.Nat.{ℕ, zero, suc, ◌+◌, ◌-◌, ◌<◌, ◌≤◌}
use Prim.Native.Char.{code}
use native.Mathlib.Nat.{sub-zero}
use native.Mathlib.Omega.{arith}
use Rattle.std.proofs.Common.{one-add, Some, None}
use Rattle.std.specs.List.{fold, position, position_or_len}
use Rattle.std.proofs.lemmas.List.Recursion.{is_position_or_len}
use Rattle.std.proofs.lemmas.Bool.Decides.{nat_tests}
use Rattle.std.proofs.lemmas.List.Sums.{prefix_len-le-length}
use lib.Dec.{eqb}
use lib.ListN.{length, take, drop, drop_of_length-le, length-take, length-drop}
use lib.Seq.{take_all, drop-drop, take-nil}
use Rattle.words.specs.Choice.{pick}
use Rattle.words.specs.Written.{written, Wrote}
use Rattle.words.proofs.Laws.{Going, begin, go, done, nothing_written}
use Rattle.cases.specs.Lines.{bytes_before, next_place, with_digit, number_behind, number_of, numbers_of_word, numbers_from, numbers_of}

pick_is_cond : {A : Type 0} (b : Bool) (x y : A) → pick b x y ≡ cond b x y
unfolding pick
pick_is_cond true x y = refl
pick_is_cond false x y = refl

-- As many bytes stand in front of the first that is `byte` as a search passes.
pub search_passes : (byte : ℕ) (bs : List ℕ) → bytes_before byte bs ≡ position_or_len (λ b. eqb b byte) bs
unfolding bytes_before
search_passes byte bs = is_position_or_len (bytes_before byte) (λ b. eqb b byte) refl (λ b rest. rw one-add (pick_is_cond (eqb b byte) 0 (suc (bytes_before byte rest)))) bs

-- The bytes from a place on.
rest_whole : (text : List ℕ) (from : ℕ) → take (length text - from) (drop from text) ≡ drop from text
rest_whole text from = take_all (length text - from) (drop from text) (simp length-drop (omega arith))

-- The two returns of `until`.
pub byte_found : (text : List ℕ) (from byte : ℕ) {passed : ℕ} → Some passed ≡ position (λ b. eqb b byte) (take (length text - from) (drop from text))
    → from + passed ≡ next_place text from byte
byte_found text from byte e =
    let whole = rw rest_whole at e in
    rw search_passes (grind (arith, nat_tests))

pub no_byte : (text : List ℕ) (from byte : ℕ) → from ≤ length text → None ≡ position (λ b. eqb b byte) (take (length text - from) (drop from text))
    → length text ≡ next_place text from byte
no_byte text from byte h e =
    let whole = rw rest_whole at e in
    let long = length-drop from text in
    let few = prefix_len-le-length (λ b. not (eqb b byte)) (drop from text) in
    rw search_passes (grind (arith, nat_tests))

-- The bytes are read from the first to the last.
pub number_folds : (value : ℕ) (bs : List ℕ) → number_behind value bs ≡ fold with_digit value bs
unfolding number_behind
number_folds value [] = refl
number_folds value (b ∷ bs) = number_folds (with_digit value b) bs

-- A word without bytes has no number, any other has one.
pub no_number : (word : List ℕ) → length word ≡ 0 → numbers_of_word word ≡ []
unfolding numbers_of_word
no_number [] h = refl
no_number (b ∷ bs) h = absurd (omega arith)

pub one_number : (word : List ℕ) → 0 < length word → numbers_of_word word ≡ number_of word ∷ []
unfolding numbers_of_word
one_number [] h = absurd (omega arith)
one_number (b ∷ bs) h = refl

-- It is put where there is room.
pub none_taken : (n : ℕ) (xs : List ℕ) → n ≡ 0 → take n xs ≡ []
none_taken n xs e = rw e

pub one_taken : (n x : ℕ) → 0 < n → take n (x ∷ []) ≡ x ∷ []
one_taken n x h = take_all n (x ∷ []) (omega arith)

pub nothing_put : (out : List ℕ) (place : ℕ) → written out place [] ≡ out
nothing_put out place = sym (nothing_written out place).holds

pub ruleset adding = (no_number, one_number, none_taken, one_taken, take-nil, nothing_put)

-- As many of two lists, one behind the other, as there is room for: of the second what the first leaves.
take_both : (room : ℕ) (xs ys : List ℕ) → take room (xs ++ ys) ≡ take room xs ++ take (room - length (take room xs)) ys
take_both zero xs ys = refl
take_both (suc room) [] ys = rw sub-zero
take_both (suc room) (x ∷ xs) ys =
    let e : suc room - suc (length (take room xs)) ≡ room - length (take room xs) = omega arith in
    rw e (ap (λ (l : List ℕ). x ∷ l) (take_both room xs ys))

-- A byte in front of a line either is a blank, which ends the word, or belongs to the word.
first_word_by : (blank : Bool) (b : ℕ) (word bs : List ℕ) → (let k = bytes_before (code " ") bs in
    numbers_from (word ++ (b ∷ [])) bs ≡ numbers_of_word ((word ++ (b ∷ [])) ++ take k bs) ++ numbers_from [] (drop (suc k) bs)
    → pick blank (numbers_of_word word ++ numbers_from [] bs) (numbers_from (word ++ (b ∷ [])) bs)
    ≡ numbers_of_word (word ++ take (pick blank 0 (suc k)) (b ∷ bs)) ++ numbers_from [] (drop (suc (pick blank 0 (suc k))) (b ∷ bs)))
unfolding pick
first_word_by true b word bs e = rw append-nil
first_word_by false b word bs e = e ∙ rw (append_assoc word (b ∷ []) (take (bytes_before (code " ") bs) bs)) refl

-- The numbers of a line are that of its first word and those behind the blank that ends it.
first_word : (word bs : List ℕ)
    → (let k = bytes_before (code " ") bs in numbers_from word bs ≡ numbers_of_word (word ++ take k bs) ++ numbers_from [] (drop (suc k) bs))
unfolding bytes_before numbers_from numbers_of_word
first_word word [] = rw (append-nil word, append-nil)
first_word word (b ∷ bs) = first_word_by (eqb b (code " ")) b word bs (first_word (word ++ (b ∷ [])) bs)

-- The loop of `numbers`: those of the line from the place `from` on remain, as far as there is room.
pub record Reading (line out out' : List ℕ) (count from : ℕ) : Type 0 where
  pub inside : count ≤ length out
  pub long : length out' ≡ length out
  pub going : Going out 0 (take (length out) (numbers_of line)) out' count (take (length out - count) (numbers_from [] (drop from line)))

-- Nothing is read yet, and there is room for as many as `out` has places.
pub reading_begins : (line out : List ℕ) → Reading line out out 0 0
reading_begins line out = record { inside = omega arith; long = refl; going = rw sub-zero (begin out 0 (take (length out) (numbers_of line))) }

module _ {line out out' : List ℕ} {count from : ℕ} (g : Reading line out out' count from) where
  -- A word is read up to the blank behind it, and its number put where there is room.
  pub reading_on : {end next : ℕ} {out'' : List ℕ} → end ≡ next_place line from 32
      → Wrote out' out'' count next (take (length out' - count) (numbers_of_word (take (end - from) (drop from line)))) → Reading line out out'' next (end + 1)
  reading_on {end} {next} {out''} e w =
      let k : ℕ = bytes_before 32 (drop from line) in
      let room : ℕ = length out - count in
      let first : List ℕ = numbers_of_word (take (end - from) (drop from line)) in
      let others : List ℕ = numbers_from [] (drop (end + 1) line) in
      let word_ends : end - from ≡ k = omega arith in
      let blank_passed : from + suc k ≡ end + 1 = omega arith in
      let parts : numbers_from [] (drop from line) ≡ first ++ others =
      rw (word_ends, ← blank_passed, ← drop-drop (suc k) from line) (first_word [] (drop from line)) in
      let put : Wrote out' out'' count next (take room first) = rw (← g.long) w in
      let room_left : room - length (take room first) ≡ length out - next = omega (arith, put.ends) in
      let both : take room (numbers_from [] (drop from line)) ≡ take room first ++ take (length out - next) others =
      rw (parts, ← room_left) (take_both room first others) in
      let going = go (take room first) (take (length out - next) others) (rw both at g.going) put in
      record { inside = omega (arith, put.ends, length-take room first, g.inside); long = going.long; going = going }

  -- The line is read.
  pub reading_ends : length line ≤ from → Wrote out out' 0 count (take (length out) (numbers_of line))
  unfolding numbers_from numbers_of_word
  reading_ends h = done (rw (drop_of_length-le line {i = from} h, take-nil) at g.going)
