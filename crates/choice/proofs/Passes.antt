-- The passes over the alternatives as the code meets them: what is true before the i-th is that the rest of them gives what all give. Each law has
-- its premises in the order in which the code learns them.
use mathlib.Core.Bool.{Bool, true, not}
use mathlib.Core.Path.{◌≡◌, refl, sym, ap, ◌∙◌}
use mathlib.Core.List.{List, [], ◌∷◌, ◌++◌, append_assoc}
use Prim.Native.Nat.{ℕ, zero, suc, ◌+◌, ◌*◌, ◌≤◌, ◌<◌}
use native.Mathlib.Omega.{arith}
use lib.ListN.{length, drop, length-append, drop_of_length-le}
use borrow.Author.Tests.{not-true}
use Rattle.std.specs.Prelude.{Ok, Err}
use Rattle.words.specs.Choice.{pick_true, pick_false}
use Rattle.words.specs.Written.{Wrote}
use Rattle.words.proofs.Laws.{Going, begin, go, done, last, second_room, both_done}
use Rattle.meaning.specs.Alternative.{SeqAlt}
use Rattle.meaning.specs.Listing.{word}
use Rattle.meaning.specs.Refusals.{steps_fit}
use Rattle.meaning.specs.declared.refusal.Refusal.TheVariants.{MisplacedEmpty}
use Rattle.term.specs.declared.Kept.{Kept}
use Rattle.term.specs.Keeping.{steps_of}
use Rattle.outline.specs.Outline.{count_in}
use Rattle.expand.specs.ByNumber.{alternatives_of, nth}
use Rattle.expand.proofs.Index.{rest_of}
use Rattle.current.specs.Text.{registers_before, most_registers}
use Rattle.current.specs.Walk.{Placed}
use Rattle.pipeline.specs.Stores.{alternative_store_words}
use Rattle.sizes.specs.Sizes.{Countable, most_words}
use Rattle.alternative.specs.Alternatives.{registers_in, stores_in}
use Rattle.alternative.specs.Keeping.{chosen, Keepable, Keeps, Ended}
use Rattle.alternative.proofs.Keeping.{few_to_keep, all_counted}
use Rattle.alternative.proofs.Laws.{kept_registers, kept_stores, kept_fits, placed, next_in, kept_is_countable}
use Rattle.choice.specs.RootText.{kept_root_text, kept_root_size}
use Rattle.choice.specs.ChoiceWords.{root_text_in, all_registers, all_stores, closing, all_texts, match_words, choice_words, survey_from, survey_of, Numberable}
use Rattle.choice.proofs.RootTexts.{kept_root_texts, kept_root_sizes}
use Rattle.choice.proofs.Words.{as_long_all_stores, as_long_all_texts, length_of_a_choice, length_of_a_match}

-- The alternatives that are left, before the i-th and at the end.
module _ {t outline : List ℕ} {n at len count i : ℕ} (K : Keepable t outline n at len) (e : count ≡ count_in outline n) where
  pub among : i < count → i < length (alternatives_of t n)
  among h = omega (arith, all_counted K e)

  next_few : i < count → i + 1 ≤ 256
  next_few h = omega (arith, all_counted K e, few_to_keep K)

  here : i < count → drop i (alternatives_of t n) ≡ chosen t n i ∷ drop (i + 1) (alternatives_of t n)
  here h = rest_of (alternatives_of t n) i (among h)

  none_left : count ≤ i → drop i (alternatives_of t n) ≡ []
  none_left h = drop_of_length-le (alternatives_of t n) {i = i} (omega (arith, all_counted K e))

-- The first pass: 12, or the registers of the alternatives that are left, added to the total.
pub record Surveying (t : List ℕ) (n len : ℕ) (work : List ℕ) (total i : ℕ) : Type 0 where
  pub few : i ≤ 256
  pub low : total ≤ i * most_registers
  pub long : length work ≡ len
  pub rest : survey_of (alternatives_of t n) ≡ survey_from i (drop i (alternatives_of t n)) total

pub surveying_begins : (t : List ℕ) (n : ℕ) (work : List ℕ) → Surveying t n (length work) work 0 0
unfolding survey_of
surveying_begins t n work = record { few = omega arith; low = omega arith; long = refl; rest = refl }

module _ {t outline : List ℕ} {n len count total i : ℕ} {work : List ℕ} (K : Keepable t outline n 0 len) (e : count ≡ count_in outline n) (S : Surveying t n len work total i) where
  module _ {r : ℕ} {work₁ : List ℕ} {a : Kept} {fits : Bool} (h : i < count) (k : Keeps (chosen t n i) r work work₁ 0 a) (f : fits ≡ steps_fit (steps_of work₁ a)) where
    pub survey_stops : not fits ≡ true → Err (MisplacedEmpty i) ≡ survey_of (alternatives_of t n)
    unfolding survey_from
    survey_stops q = sym (S.rest ∙ rw (here K e h) (pick_false _ _ (sym (f ∙ kept_fits k.holds) ∙ not-true fits q)))

    pub surveying_on : {own : ℕ} → fits ≡ true → own ≡ registers_before work₁ a a.steps → own ≤ most_registers → Surveying t n len work₁ (total + own) (i + 1)
    unfolding survey_from
    surveying_on q o small = record {
      few = next_few K e h;
      low = omega (arith, S.low);
      long = k.long ∙ S.long;
      rest = S.rest ∙ rw (here K e h, o, kept_registers k.holds) (pick_true _ _ (sym (f ∙ kept_fits k.holds) ∙ q));
    }

  pub survey_ends : count ≤ i → Ok total ≡ survey_of (alternatives_of t n)
  unfolding survey_from
  survey_ends h = sym (S.rest ∙ rw (none_left K e h) refl)

-- The registers of one alternative are among those of all.
registers_among : (alts : List SeqAlt) (i : ℕ) → i < length alts → registers_in (nth alts i) ≤ all_registers alts
unfolding nth all_registers
registers_among [] i h = absurd (omega arith)
registers_among (y ∷ ys) zero h = omega arith
registers_among (y ∷ ys) (suc i) h = omega (arith, registers_among ys i (omega arith))

-- An alternative that a later pass has just kept can be counted.
pub now_countable : {t outline : List ℕ} {n first len count i r : ℕ} {before after : List ℕ} {a : Kept} → Numberable t outline n first len → count ≡ count_in outline n → i < count
    → Keeps (chosen t n i) r before after 0 a → Countable after a
now_countable {t} {n = n} {i = i} N e h k =
    let there = among N.keepable e h in
    kept_is_countable N.keepable there k (omega (arith, N.few, registers_among (alternatives_of t n) i there))

-- The second pass: the words of the alternatives that are left are still to be added.
pub record Sizing (t : List ℕ) (n len : ℕ) (work : List ℕ) (total i : ℕ) : Type 0 where
  pub few : i ≤ 256
  pub low : total ≤ i * (most_words + 2) + 1
  pub long : length work ≡ len
  pub sum : total + (length (all_stores (drop i (alternatives_of t n)) 0) + length (all_texts (length (alternatives_of t n)) i (drop i (alternatives_of t n)) 0))
      ≡ length (choice_words (alternatives_of t n) 0)

pub sizing_begins : (t : List ℕ) (n : ℕ) (work : List ℕ) → Sizing t n (length work) work 1 0
sizing_begins t n work =
    let alts = alternatives_of t n in
    record { few = omega arith; low = omega arith; long = refl; sum = omega (arith, length_of_a_choice alts 0, length_of_a_match alts 0) }

module _ {t outline : List ℕ} {n len count total i : ℕ} {work : List ℕ} (K : Keepable t outline n 0 len) (e : count ≡ count_in outline n) (S : Sizing t n len work total i) where
  pub sizing_on : {r own behind : ℕ} {work₁ : List ℕ} {a : Kept} → i < count → Keeps (chosen t n i) r work work₁ 0 a → own ≡ kept_root_size work₁ a → own ≤ most_words
      → behind ≡ length (closing count i) → behind ≤ 2 → Sizing t n len work₁ (total + (own + behind)) (i + 1)
  unfolding all_stores all_texts
  sizing_on h k o small b short =
      let y = chosen t n i in
      let many = length (alternatives_of t n) in
      let ys = drop (i + 1) (alternatives_of t n) in
      let texts = all_texts many (i + 1) ys (0 + registers_in y) in
      let sum = rw (here K e h) at S.sum in
      let stored = length-append (stores_in y 0) (all_stores ys (0 + registers_in y)) in
      let matched = length-append (root_text_in y 0) (closing many i ++ texts) in
      let closed = length-append (closing many i) texts in
      let same = ap (λ (c : ℕ). length (closing c i)) (all_counted K e) in
      record {
        few = next_few K e h;
        low = omega (arith, S.low);
        long = k.long ∙ S.long;
        sum = omega (arith, sum, kept_root_sizes k.holds, as_long_all_stores ys (0 + registers_in y), as_long_all_texts many (i + 1) ys (0 + registers_in y));
      }

  pub sizing_ends : count ≤ i → total ≡ length (choice_words (alternatives_of t n) 0)
  unfolding all_stores all_texts
  sizing_ends h = let sum = rw (none_left K e h) at S.sum in omega arith

-- The passes that write: r is the register at which the i-th alternative begins.
pub record Numbering (t : List ℕ) (n first len : ℕ) (work : List ℕ) (r i : ℕ) : Type 0 where
  pub long : length work ≡ len
  pub registers : r + all_registers (drop i (alternatives_of t n)) ≡ first + all_registers (alternatives_of t n)

numbering_begins : (t : List ℕ) (n first : ℕ) (work : List ℕ) → Numbering t n first (length work) work first 0
numbering_begins t n first work = record { long = refl; registers = refl }

module _ {t outline : List ℕ} {n first len count r i : ℕ} {work work₁ : List ℕ} {a : Kept} (N : Numberable t outline n first len) (e : count ≡ count_in outline n)
    (P : Numbering t n first len work r i) (h : i < count) (k : Keeps (chosen t n i) r work work₁ 0 a) where
  pub now_placed : Placed work₁ a
  unfolding all_registers
  now_placed =
      let left = ap all_registers (here N.keepable e h) in
      placed k.holds (omega (arith, P.registers, N.few))

  pub now_ended : {next : ℕ} → next ≡ a.register + registers_before work₁ a a.steps → Ended work₁ a next
  now_ended f = record { placed = now_placed; behind = f }

  next_register : {next : ℕ} → next ≡ a.register + registers_before work₁ a a.steps → next ≡ r + registers_in (chosen t n i)
  next_register f = next_in k.holds f

  numbering_on : {next : ℕ} → next ≡ a.register + registers_before work₁ a a.steps → Numbering t n first len work₁ next (i + 1)
  unfolding all_registers
  numbering_on f =
      let left = ap all_registers (here N.keepable e h) in
      record { long = k.long ∙ P.long; registers = omega (arith, P.registers, next_register f) }

-- The third pass: the assignments of the alternatives that are left are still to be put.
pub record Storing (t : List ℕ) (n first len : ℕ) (out₀ work out : List ℕ) (p r i : ℕ) : Type 0 where
  pub numbering : Numbering t n first len work r i
  pub going : Going out₀ 0 (all_stores (alternatives_of t n) first) out p (all_stores (drop i (alternatives_of t n)) r)

module _ {t outline : List ℕ} {n first len count p r i : ℕ} {out₀ work out : List ℕ} (N : Numberable t outline n first len) (e : count ≡ count_in outline n)
    (S : Storing t n first len out₀ work out p r i) where
  module _ {work₁ : List ℕ} {a : Kept} (h : i < count) (k : Keeps (chosen t n i) r work work₁ 0 a) where
    remaining_stores : all_stores (drop i (alternatives_of t n)) r ≡ alternative_store_words work₁ a ++ all_stores (drop (i + 1) (alternatives_of t n)) (r + registers_in (chosen t n i))
    unfolding all_stores
    remaining_stores = rw (here N.keepable e h, kept_stores k.holds) refl

    pub stores_fit : length (all_stores (alternatives_of t n) first) ≤ length out₀ → p + length (alternative_store_words work₁ a) ≤ length out
    stores_fit room =
        let parts = length-append (alternative_store_words work₁ a) (all_stores (drop (i + 1) (alternatives_of t n)) (r + registers_in (chosen t n i))) in
        omega (arith, room, ap length remaining_stores, S.going.place, S.going.long)

    pub storing_on : {out₁ : List ℕ} {q next : ℕ} → Wrote out out₁ p q (alternative_store_words work₁ a) → next ≡ a.register + registers_before work₁ a a.steps
        → Storing t n first len out₀ work₁ out₁ q next (i + 1)
    storing_on w f = record {
      numbering = numbering_on N e S.numbering h k f;
      going = rw (next_register N e S.numbering h k f) (go (alternative_store_words work₁ a) _ (rw remaining_stores at S.going) w);
    }

  pub storing_ends : count ≤ i → Wrote out₀ out 0 p (all_stores (alternatives_of t n) first)
  unfolding all_stores
  storing_ends h = done (rw (none_left N.keepable e h) at S.going)

-- The fourth pass: the texts of the alternatives that are left are still to be put, and the match's own word.
pub record Joining (t : List ℕ) (n first len : ℕ) (out₀ : List ℕ) (at : ℕ) (work out : List ℕ) (p r i : ℕ) : Type 0 where
  pub numbering : Numbering t n first len work r i
  pub going : Going out₀ at (match_words (alternatives_of t n) first) out p (all_texts (length (alternatives_of t n)) i (drop i (alternatives_of t n)) r ++ (word 14 0 ∷ []))

pub joining_begins : (t : List ℕ) (n first : ℕ) (work out : List ℕ) (at : ℕ) → Joining t n first (length work) out at work out at first 0
unfolding match_words
joining_begins t n first work out at = record { numbering = numbering_begins t n first work; going = begin out at _ }

module _ {t outline : List ℕ} {n first len count at p r i : ℕ} {out₀ work out : List ℕ} (N : Numberable t outline n first len) (e : count ≡ count_in outline n)
    (S : Joining t n first len out₀ at work out p r i) where
  module _ {work₁ : List ℕ} {a : Kept} (h : i < count) (k : Keeps (chosen t n i) r work work₁ 0 a) where
    abbrev later_texts : List ℕ
    later_texts = all_texts (length (alternatives_of t n)) (i + 1) (drop (i + 1) (alternatives_of t n)) (r + registers_in (chosen t n i)) ++ (word 14 0 ∷ [])

    texts_going : Going out₀ at (match_words (alternatives_of t n) first) out p (kept_root_text work₁ a ++ (closing count i ++ later_texts))
    unfolding all_texts
    texts_going = rw (kept_root_texts k.holds, all_counted N.keepable e) (simp append_assoc at (rw (here N.keepable e h) at S.going))

    module _ (room : at + length (match_words (alternatives_of t n) first) ≤ length out₀) where
      pub text_fits : p + length (kept_root_text work₁ a) ≤ length out
      text_fits =
          let parts = length-append (kept_root_text work₁ a) (closing count i ++ later_texts) in
          omega (arith, room, texts_going.place, texts_going.long)

      pub closing_fits : {out₁ : List ℕ} {q : ℕ} → Wrote out out₁ p q (kept_root_text work₁ a) → q + length (closing count i) ≤ length out₁
      closing_fits w =
          let more = go (kept_root_text work₁ a) (closing count i ++ later_texts) texts_going w in
          let parts = length-append (closing count i) later_texts in
          omega (arith, room, more.place, more.long)

    pub joining_on : {out₁ out₂ : List ℕ} {q s next : ℕ} → Wrote out out₁ p q (kept_root_text work₁ a) → Wrote out₁ out₂ q s (closing count i)
        → next ≡ a.register + registers_before work₁ a a.steps → Joining t n first len out₀ at work₁ out₂ s next (i + 1)
    joining_on w v f = record {
      numbering = numbering_on N e S.numbering h k f;
      going = rw (next_register N e S.numbering h k f) (go (closing count i) later_texts (go (kept_root_text work₁ a) (closing count i ++ later_texts) texts_going w) v);
    }

  module _ (h : count ≤ i) where
    only_the_match : Going out₀ at (match_words (alternatives_of t n) first) out p (word 14 0 ∷ [])
    unfolding all_texts
    only_the_match = rw (none_left N.keepable e h) at S.going

    pub joining_ends : {out₁ : List ℕ} {q : ℕ} → Wrote out out₁ p q (word 14 0 ∷ []) → Wrote out₀ out₁ at q (match_words (alternatives_of t n) first)
    joining_ends w = last only_the_match w

-- The two passes that write come one after the other. Work is as long as it was, so the second finds what the first found.
pub numberable_again : {t outline : List ℕ} {n first len len₁ : ℕ} → Numberable t outline n first len → len₁ ≡ len → Numberable t outline n first len₁
numberable_again N same = rw same N

module _ (alts : List SeqAlt) (first : ℕ) (out : List ℕ) where
  in_two_parts : choice_words alts first ≡ all_stores alts first ++ match_words alts first
  unfolding choice_words
  in_two_parts = refl

  module _ (room : length (choice_words alts first) ≤ length out) where
    pub room_for_stores : length (all_stores alts first) ≤ length out
    room_for_stores = omega (arith, room, length_of_a_choice alts first)

    pub room_for_match : {out₁ : List ℕ} {at : ℕ} → Wrote out out₁ 0 at (all_stores alts first) → at + length (match_words alts first) ≤ length out₁
    room_for_match w = second_room (all_stores alts first) (match_words alts first) in_two_parts (omega (arith, room)) w

  pub both_written : {out₁ out₂ : List ℕ} {at end : ℕ} → Wrote out out₁ 0 at (all_stores alts first) → Wrote out₁ out₂ at end (match_words alts first)
      → Wrote out out₂ 0 end (choice_words alts first)
  both_written w v = both_done in_two_parts w v
