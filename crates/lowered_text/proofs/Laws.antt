-- The listing stands in front of the output, and its text finds room on the page; bytes that are no tree give the text of a refusal.
use Rattle.std.proofs.Common.{◌≡◌, refl, sym, ◌∙◌, Result, Ok, Err, List, append-nil, ℕ, ◌≤◌, arith, length, take}
use Rattle.std.proofs.lemmas.Bool.Decides.{nat_tests}
use lib.Seq.{take_all, length-take-le}
use Rattle.words.specs.Choice.{pick_true, pick_false}
use Rattle.words.specs.Written.{Wrote}
use Rattle.words.proofs.Laws.{length-written, front_written, same_words}
use Rattle.meaning.specs.Lower.{words_of, lower, output_after}
use Rattle.meaning.specs.declared.Listing.{Listing}
use Rattle.meaning.specs.declared.refusal.Refusal.{Refusal}
use Rattle.meaning.proofs.ListingAnswer.{a_listed_table_passed_all}
use Rattle.lower.specs.Answers.{Lowers}
use Rattle.text.specs.Text.{words_listed, answer_text, first_line_text, lines_text}
use Rattle.text.proofs.ListingLines.{answer_few}
use Rattle.little_endian.specs.Bytes.{words_of_bytes}
use Rattle.little_endian.proofs.Laws.{words_take_four_bytes}
use Rattle.lowered_text.specs.declared.Shown.{Shown}
use Rattle.lowered_text.specs.Page.{page_text, Shows}

-- A text that has room stands on the page, and ends inside it.
pub ruleset showing = (pick_true, pick_false, nat_tests, answer_few, length-written)

-- A listing is as long as its answer says, and fits the output.
listed_fits : (answer : Result Listing Refusal) (t : List ℕ) (work out : ℕ) → lower t work out 0 ≡ answer → words_listed answer ≤ out
unfolding words_listed
listed_fits (Ok l) t work out e =
    let fitting = (a_listed_table_passed_all t work out 0 l.registers l.words l.deepest e).fitting in
    omega (arith, fitting.words_are, fitting.long_enough)
listed_fits (Err refusal) t work out e = omega arith

listed_in_front : (answer : Result Listing Refusal) (t : List ℕ) (work : ℕ) (out : List ℕ) → lower t work (length out) 0 ≡ answer
    → take (words_listed answer) (output_after answer t 0 out) ≡ take (words_listed answer) (words_of t 0)
unfolding words_listed output_after words_of
listed_in_front (Ok l) t work out e =
    let fitting = (a_listed_table_passed_all t work (length out) 0 l.registers l.words l.deepest e).fitting in
    front_written {o = out} {n = l.words} (record { holds = refl; ends = omega (arith, fitting.words_are) }) (omega (arith, fitting.long_enough))
    ∙ sym (take_all l.words (words_of t 0) (omega (arith, fitting.words_are)))
listed_in_front (Err refusal) t work out e = refl

length_output : (answer : Result Listing Refusal) (t out : List ℕ) → length (output_after answer t 0 out) ≡ length out
unfolding output_after
length_output (Ok l) t out = length-written out 0 (words_of t 0)
length_output (Err refusal) t out = refl

-- One call of lowering with both slices at their size: the words of the listing stand inside the output, and the text of the answer is that of the tree.
module _ {t work out : List ℕ} {answer : Result Listing Refusal} {work' out' : List ℕ} (lowered : Lowers t 0 work out answer work' out')
    (works : length work ≡ 16384) (outs : length out ≡ 16384) where
  text_few : words_listed answer ≤ 16384
  text_few = rw (← outs) (listed_fits answer t (length work) (length out) (sym lowered.answers))

  pub listing_fits : (words_listed answer ≤ length out') × (words_listed answer ≤ 16384)
  listing_fits =
      let out_long : length out' ≡ 16384 = rw lowered.holds (length_output answer t out) ∙ outs in
      (omega (arith, text_few), text_few)

  pub tree_shown : {page page' : List ℕ} {shown : Shown} → Shows answer (answer_text answer out') page shown page'
      → Shows (lower t 16384 16384 0) (page_text t) page shown page'
  unfolding answer_text page_text
  tree_shown s =
      let listed : take (words_listed answer) out' ≡ take (words_listed answer) (words_of t 0) =
      rw lowered.holds (listed_in_front answer t (length work) out (sym lowered.answers)) in
      let answered : answer ≡ lower t 16384 16384 0 = lowered.answers ∙ rw (works, outs) refl in
      record { answers = s.answers ∙ answered; stands = same_words (rw listed (rw answered refl)) s.stands }

-- The text of a refusal is its first line.
pub refusal_text : (refusal : Refusal) (out : List ℕ) → answer_text (Err refusal) out ≡ first_line_text (Err refusal)
unfolding answer_text words_listed lines_text
refusal_text refusal out = append-nil (first_line_text (Err refusal))

pub ruleset no_tree = (refusal_text, pick_true, pick_false, nat_tests)

-- The words of an input stand in front of 10,240.
module _ (input : List ℕ) (short : length input ≤ 40960) {zeros tree : List ℕ} {count : ℕ} (long : length zeros ≡ 10240)
    (read : Wrote zeros tree 0 count (words_of_bytes input)) where
  pub words_read : take count tree ≡ words_of_bytes input
  words_read = front_written read (omega (arith, long, words_take_four_bytes input))

  pub words_fit : count ≤ length tree
  words_fit =
      let kept : length tree ≡ length zeros = rw read.holds (length-written zeros 0 (words_of_bytes input)) in
      omega (arith, long, words_take_four_bytes input, read.ends)

  pub words_counted : count ≡ length (take count tree)
  words_counted = sym (length-take-le count tree words_fit)
