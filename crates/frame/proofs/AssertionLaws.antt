-- Laws of the assertions, as the code meets them: nodes that are put one after the other, and what a tree lowers to. They assume
-- nothing.
use mathlib.Core.Path.{◌≡◌, refl, sym, ap, ◌∙◌}
use mathlib.Core.List.{List, ◌++◌}
use Prim.Native.Nat.{ℕ, ◌+◌, ◌≤◌, ◌<◌}
use native.Mathlib.Omega.{arith}
use native.Mathlib.Numerals.{add-one}
use lib.Dec.{eqb}
use lib.ListN.{length, get_or, take, drop, drop_of_length-le}
use lib.Seq.{drop-cons, length-take-le}
use borrow.Author.Tests.{eq-eqb, ne_eqb}
use Rattle.words.specs.Choice.{pick, pick_true, pick_false, pick_case}
use Rattle.words.specs.Written.{Wrote}
use Rattle.words.proofs.Laws.{Going, begin, go, done, same_words, still_long, front_written, nothing_written}
use Rattle.meaning.specs.Lower.{words_of, lower, output_after}
use Rattle.meaning.proofs.ListingAnswer.{a_listed_table_passed_all}
use Rattle.lower.specs.Answers.{Lowers}
use Rattle.frame.specs.Assertions.{node, hot_kept, good_replaced, wrong_in_row, wrong_at_start, words_in, tree_of, listed_by, listed}
use Rattle.std.specs.Prelude.{Result, Ok, Err}
use Rattle.meaning.specs.declared.Listing.{Listing}
use Rattle.meaning.specs.declared.refusal.Refusal.{Refusal}

-- The first n nodes are put; what remains is the others' words.
pub record Planting (nodes : List (List ℕ)) (o o' : List ℕ) (place n : ℕ) : Type 0 where
  pub inside : n ≤ length nodes
  pub going : Going o 0 (words_in nodes) o' place (words_in (drop n nodes))

pub planting_begins : (nodes : List (List ℕ)) (o : List ℕ) → Planting nodes o o 0 0
planting_begins nodes o = record { inside = omega arith; going = begin o 0 (words_in nodes) }

module _ {nodes : List (List ℕ)} {o o' : List ℕ} {place n : ℕ} (P : Planting nodes o o' place n) (h : n < length nodes) (none : List ℕ) where
  -- The node that is put next.
  here : List ℕ
  here = let v = get_or nodes n none in node (get_or v 0 0) (get_or v 1 0) (get_or v 2 0) (get_or v 3 0) (get_or v 4 0)

  in_two : words_in (drop n nodes) ≡ here ++ words_in (drop (n + 1) nodes)
  unfolding words_in here
  in_two = rw (drop-cons nodes n none h, add-one n) refl

  -- The node that is put next finds room.
  pub room_for_a_node : length (words_in nodes) ≤ length o → place + 5 ≤ length o'
  unfolding here
  room_for_a_node fits = omega (arith, P.going.place, P.going.long, ap length in_two)

  pub planting_on : {o'' : List ℕ} {next : ℕ}
      → Wrote o' o'' place next (let v = get_or nodes n none in node (get_or v 0 0) (get_or v 1 0) (get_or v 2 0) (get_or v 3 0) (get_or v 4 0))
      → Planting nodes o o'' next (n + 1)
  unfolding here
  planting_on w = record { inside = omega arith; going = go here (words_in (drop (n + 1) nodes)) (rw in_two at P.going) w }

pub planting_ends : {nodes : List (List ℕ)} {o o' : List ℕ} {place n : ℕ} → Planting nodes o o' place n → length nodes ≤ n
    → Wrote o o' 0 place (words_in nodes)
unfolding words_in
planting_ends {nodes} P h = done (rw (drop_of_length-le nodes h) at P.going)

-- The trees: each finds room in 25 words.
module _ {room : ℕ} (h : 25 ≤ room) where
  pub hot_kept_fits : length (words_in hot_kept) ≤ room
  unfolding words_in
  hot_kept_fits = omega arith

  pub good_replaced_fits : length (words_in good_replaced) ≤ room
  unfolding words_in
  good_replaced_fits = omega arith

  pub wrong_in_row_fits : length (words_in wrong_in_row) ≤ room
  unfolding words_in
  wrong_in_row_fits = omega arith

  pub wrong_at_start_fits : length (words_in wrong_at_start) ≤ room
  unfolding words_in
  wrong_at_start_fits = omega arith

  pub tree_fits : (number : ℕ) → length (tree_of number) ≤ room
  unfolding tree_of
  tree_fits number =
      pick_case Fits (eqb number 1) (λ _. hot_kept_fits)
      λ _. pick_case Fits (eqb number 2) (λ _. good_replaced_fits)
      λ _. pick_case Fits (eqb number 3) (λ _. wrong_in_row_fits) λ _. wrong_at_start_fits
    where
      Fits : List ℕ → Type 0
      Fits l = length l ≤ room

-- The tree of an assertion, by the assertion's number.
past_two : (number : ℕ) → (number ≡ 1 → ⊥) → (number ≡ 2 → ⊥) → tree_of number ≡ pick (eqb number 3) (words_in wrong_in_row) (words_in wrong_at_start)
unfolding tree_of
past_two number one two = pick_false _ _ (ne_eqb number 1 one) ∙ pick_false _ _ (ne_eqb number 2 two)

module _ (number : ℕ) {o o' : List ℕ} {words : ℕ} where
  pub first_tree : number ≡ 1 → Wrote o o' 0 words (words_in hot_kept) → Wrote o o' 0 words (tree_of number)
  unfolding tree_of
  first_tree e w = same_words (sym (pick_true _ _ (eq-eqb number 1 e))) w

  pub second_tree : number ≡ 2 → Wrote o o' 0 words (words_in good_replaced) → Wrote o o' 0 words (tree_of number)
  unfolding tree_of
  second_tree e w = same_words (sym (pick_false _ _ (ne_eqb number 1 (λ q. omega arith)) ∙ pick_true _ _ (eq-eqb number 2 e))) w

  pub third_tree : number ≡ 3 → Wrote o o' 0 words (words_in wrong_in_row) → Wrote o o' 0 words (tree_of number)
  third_tree e w = same_words (sym (past_two number (λ q. omega arith) (λ q. omega arith) ∙ pick_true _ _ (eq-eqb number 3 e))) w

  pub fourth_tree : (number ≡ 1 → ⊥) → (number ≡ 2 → ⊥) → (number ≡ 3 → ⊥) → Wrote o o' 0 words (words_in wrong_at_start) → Wrote o o' 0 words (tree_of number)
  fourth_tree one two e w = same_words (sym (past_two number one two ∙ pick_false _ _ (ne_eqb number 3 e))) w

-- A tree stands in front of the 25 words that it was put into.
module _ (number : ℕ) {o tree : List ℕ} {words : ℕ} (long : length o ≡ 25) (w : Wrote o tree 0 words (tree_of number)) where
  pub tree_inside : words ≤ length tree
  tree_inside = omega (arith, w.ends, still_long w, long, tree_fits {room = 25} (omega arith) number)

  pub tree_planted : take words tree ≡ tree_of number
  tree_planted = front_written w (omega (arith, long, tree_fits {room = 25} (omega arith) number))

  pub tree_as_long : words ≡ length (take words tree)
  tree_as_long = sym (length-take-le words tree tree_inside)

  -- What an assertion's tree lowers to is the assertion's listing.
  pub assertion_listed : (work : ℕ) {out out' : List ℕ} {count : ℕ} → Wrote out out' 0 count (listed (take words tree) work (length out))
      → Wrote out out' 0 count (listed (tree_of number) work (length out))
  assertion_listed work {out} v = same_words (ap (λ (t : List ℕ). listed t work (length out)) tree_planted) v

-- What a tree lowers to: nothing where it is refused, else the words of its listing, which find room.
module _ {t work out : List ℕ} {answer : Result Listing Refusal} {work' out' : List ℕ} (L : Lowers t 0 work out answer work' out') where
  pub nothing_listed : {refusal : Refusal} → answer ≡ Err refusal → Wrote out out' 0 0 (listed t (length work) (length out))
  unfolding listed listed_by output_after
  nothing_listed e = rw (← L.answers, L.holds, e) (nothing_written out 0)

  pub words_listed : {listing : Listing} → answer ≡ Ok listing → Wrote out out' 0 listing.words (listed t (length work) (length out))
  unfolding listed listed_by output_after words_of
  words_listed {listing} e =
      let fitting = (a_listed_table_passed_all t (length work) (length out) 0 listing.registers listing.words listing.deepest (sym L.answers ∙ e)).fitting in
      rw (← L.answers, L.holds, e) (record { holds = refl; ends = omega (arith, fitting.words_are) })

listed_few : (answer : Result Listing Refusal) (t : List ℕ) (work out : ℕ) → lower t work out 0 ≡ answer → length (listed_by answer t) ≤ out
unfolding listed_by words_of
listed_few (Ok listing) t work out e =
    let fitting = (a_listed_table_passed_all t work out 0 listing.registers listing.words listing.deepest e).fitting in
    omega (arith, fitting.words_are, fitting.long_enough)
listed_few (Err refusal) t work out e = omega arith

pub listed_fits : (t : List ℕ) (work out : ℕ) → length (listed t work out) ≤ out
unfolding listed
listed_fits t work out = listed_few (lower t work out 0) t work out refl
