-- A pair that is kept, as the code meets it: its assignments, its delays and its text, part by part; and that these are the pair's of the
-- alternatives that are kept. Each law has its premises in the order in which the code learns them.
use mathlib.Core.Path.{◌≡◌, refl, sym, ap}
use mathlib.Core.List.{List, [], ◌∷◌, ◌++◌}
use Prim.Native.Nat.{ℕ, ◌+◌, ◌*◌, ◌-◌, ◌<◌, ◌≤◌}
use native.Mathlib.Omega.{arith}
use mir.Val.{Fits}
use mir.Syntax.{w32}
use lib.ListN.{length}
use borrow.Author.Tests.{eq-eqb, ne_eqb}
use Rattle.words.specs.Choice.{pick_true, pick_false}
use Rattle.words.specs.Written.{Wrote}
use Rattle.words.proofs.Laws.{same_words, first_room, second_room, both_done, third_room, three_done}
use Rattle.meaning.specs.Alternative.{SeqAlt}
use Rattle.meaning.specs.Expression.{seq}
use Rattle.term.specs.declared.Kept.{Kept}
use Rattle.step_text.specs.Text.{and_word, or_word, store_word}
use Rattle.pipeline.specs.Stores.{more_delays, alternative_store_words}
use Rattle.pipeline.proofs.Laws.{fixed_rest_room, fixed_done}
use Rattle.alternative.specs.Alternatives.{registers_in}
use Rattle.alternative.specs.Keeping.{Holds, kept_text}
use Rattle.alternative.proofs.Laws.{kept_registers, kept_stores, kept_texts, placed}
use Rattle.pair.specs.declared.Pair.{Pair}
use Rattle.pair.specs.Pairs.{Fitted, delay_texts, joining, pair_registers, pair_stores, pair_text, slide_store_words, slid_text_words, kept_pair_registers, first_delay, kept_pair_stores, kept_pair_text, Slid, PlacedPair, Marked}
use Rattle.pair.proofs.Delays.{length-ored}

-- The delays of a text have no guard.
module _ (W : List ℕ) (a : Kept) (r : ℕ) {d : ℕ} (some : d ≡ 0 → ⊥) {at u v : ℕ} {o o₁ o₂ : List ℕ} (x : Wrote o o₁ at u (kept_text W a))
    (y : Wrote o₁ o₂ u v (store_word seq r ∷ [])) where
  pub slide_rest_room : at + length (slide_store_words W a r d) ≤ length o → v + length (more_delays [] (r + 1) (d - 1)) ≤ length o₂
  slide_rest_room h = fixed_rest_room [] r (kept_text W a) some h x y

  pub slide_done : {p : ℕ} {o₃ : List ℕ} → Wrote o₂ o₃ v p (more_delays [] (r + 1) (d - 1)) → Wrote o o₃ at p (slide_store_words W a r d)
  slide_done z = fixed_done [] r (kept_text W a) some x y z

-- The text of an alternative with the registers behind its own ORed to it.
module _ (W : List ℕ) (a : Kept) (r d : ℕ) where
  pub slid_text_room : (at : ℕ) {n : ℕ} → at + length (slid_text_words W a r d) ≤ n → at + length (kept_text W a) ≤ n
  slid_text_room at h = first_room at (kept_text W a) (delay_texts r d) refl h

  pub slid_ored_room : {at u : ℕ} {o o₁ : List ℕ} → at + length (slid_text_words W a r d) ≤ length o → Wrote o o₁ at u (kept_text W a) → u + 2 * d ≤ length o₁
  slid_ored_room h x = omega (arith, second_room (kept_text W a) (delay_texts r d) refl h x, length-ored r d)

  pub slid_done : {at u p : ℕ} {o o₁ o₂ : List ℕ} → Wrote o o₁ at u (kept_text W a) → Wrote o₁ o₂ u p (delay_texts r d) → Wrote o o₂ at p (slid_text_words W a r d)
  slid_done x y = both_done refl x y

-- The end of a pair's text.
module _ (before : ℕ) where
  pub joins_none : {at u : ℕ} {o o₁ : List ℕ} → before ≡ 0 → Wrote o o₁ at u (and_word ∷ []) → Wrote o o₁ at u (and_word ∷ joining before)
  unfolding joining
  joins_none e x = same_words (ap (λ (ws : List ℕ). and_word ∷ ws) (sym (pick_true _ _ (eq-eqb before 0 e)))) x

  module _ (some : before ≡ 0 → ⊥) where
    joins_one : and_word ∷ joining before ≡ (and_word ∷ []) ++ (or_word ∷ [])
    unfolding joining
    joins_one = ap (λ (ws : List ℕ). and_word ∷ ws) (pick_false _ _ (ne_eqb before 0 some))

    pub joining_room : {at u : ℕ} {o o₁ : List ℕ} → at + length (and_word ∷ joining before) ≤ length o → Wrote o o₁ at u (and_word ∷ []) → u < length o₁
    joining_room h x = omega (arith, second_room (and_word ∷ []) (or_word ∷ []) joins_one h x)

    pub joined_done : {at u p : ℕ} {o o₁ o₂ : List ℕ} → Wrote o o₁ at u (and_word ∷ []) → Wrote o₁ o₂ u p (or_word ∷ []) → Wrote o o₂ at p (and_word ∷ joining before)
    joined_done x y = both_done joins_one x y

-- A kept pair, whose delays begin with r: its registers are small enough for words.
module _ {W : List ℕ} {pair : Pair} (P : PlacedPair W pair) where
  pub pair_delays_fit : Fits w32 pair.delays
  unfolding kept_pair_registers
  pair_delays_fit = omega (arith, P.few)

  module _ {r : ℕ} (e : r ≡ first_delay W pair) where
    pub pair_next_fits : Fits w32 (r + pair.delays)
    unfolding kept_pair_registers
    pair_next_fits = omega (arith, P.few)

    pub pair_slid : Slid W pair.one r pair.delays
    unfolding kept_pair_registers
    pair_slid = record { ended = record { placed = P.placed; behind = e }; few = omega (arith, P.few) }

-- Its assignments: those of seq1's alternative, then of its delays.
module _ (W : List ℕ) (pair : Pair) where
  pub own_stores_room : (at : ℕ) {n : ℕ} → at + length (kept_pair_stores W pair) ≤ n → at + length (alternative_store_words W pair.one) ≤ n
  unfolding kept_pair_stores
  own_stores_room at h = first_room at (alternative_store_words W pair.one) _ refl h

  module _ {r : ℕ} (e : r ≡ first_delay W pair) where
    pub slide_stores_room : {at u : ℕ} {o o₁ : List ℕ} → at + length (kept_pair_stores W pair) ≤ length o → Wrote o o₁ at u (alternative_store_words W pair.one)
        → u + length (slide_store_words W pair.one r pair.delays) ≤ length o₁
    unfolding kept_pair_stores
    slide_stores_room h x = rw e (second_room (alternative_store_words W pair.one) _ refl h x)

    next_register : r + pair.delays ≡ pair.one.register + kept_pair_registers W pair
    unfolding kept_pair_registers
    next_register = omega (arith, e)

    pub pair_stores_done : {at u p : ℕ} {o o₁ o₂ : List ℕ} → Wrote o o₁ at u (alternative_store_words W pair.one)
        → Wrote o₁ o₂ u p (slide_store_words W pair.one r pair.delays)
        → Marked o o₂ at (record { place = p; register = r + pair.delays }) (kept_pair_stores W pair) (pair.one.register + kept_pair_registers W pair)
    unfolding kept_pair_stores
    pair_stores_done x y = record { wrote = both_done refl x (rw e at y); next = next_register }

    -- Its text: that of seq2's alternative, of seq1's with its delays, and what closes it.
    module _ (before : ℕ) where
      module _ (at : ℕ) (o : List ℕ) (h : at + length (kept_pair_text W pair before) ≤ length o) {u : ℕ} {o₁ : List ℕ} (x : Wrote o o₁ at u (kept_text W pair.two)) where
        pub one_text_room : u + length (slid_text_words W pair.one r pair.delays) ≤ length o₁
        unfolding kept_pair_text
        one_text_room =
            rw e (first_room u (slid_text_words W pair.one _ pair.delays) (and_word ∷ joining before) refl (second_room (kept_text W pair.two) _ refl h x))

        pub closing_room : {v : ℕ} {o₂ : List ℕ} → Wrote o₁ o₂ u v (slid_text_words W pair.one r pair.delays) → v + length (and_word ∷ joining before) ≤ length o₂
        unfolding kept_pair_text
        closing_room y = third_room (kept_text W pair.two) (slid_text_words W pair.one _ pair.delays) (and_word ∷ joining before) refl h x (rw e at y)

      pub pair_text_done : {at u v p : ℕ} {o o₁ o₂ o₃ : List ℕ} → Wrote o o₁ at u (kept_text W pair.two)
          → Wrote o₁ o₂ u v (slid_text_words W pair.one r pair.delays) → Wrote o₂ o₃ v p (and_word ∷ joining before)
          → Marked o o₃ at (record { place = p; register = r + pair.delays }) (kept_pair_text W pair before) (pair.one.register + kept_pair_registers W pair)
      unfolding kept_pair_text
      pair_text_done x y z = record { wrote = three_done refl x (rw e at y) z; next = next_register }

  pub two_text_room : (before at : ℕ) {n : ℕ} → at + length (kept_pair_text W pair before) ≤ n → at + length (kept_text W pair.two) ≤ n
  unfolding kept_pair_text
  two_text_room before at h = first_room at (kept_text W pair.two) _ refl h

-- What is kept of a pair is the pair of the alternative y of seq1, whose registers begin with r.
module _ {W : List ℕ} (pair : Pair) {y : SeqAlt} {r : ℕ} (H : Holds W pair.one y r) where
  abbrev fits : Fitted
  fits = record { alternative = y; delays = pair.delays }

  pub registers_of_pair : kept_pair_registers W pair ≡ pair_registers fits
  unfolding kept_pair_registers pair_registers
  registers_of_pair = ap (λ (k : ℕ). k + pair.delays) (kept_registers H)

  delays_begin : first_delay W pair ≡ r + registers_in y
  delays_begin = omega (arith, H.register, kept_registers H)

  pub stores_of_pair : kept_pair_stores W pair ≡ pair_stores fits r
  unfolding kept_pair_stores pair_stores
  stores_of_pair = rw (kept_stores H, kept_texts H, delays_begin) refl

  pub text_of_pair : (before : ℕ) → kept_pair_text W pair before ≡ pair_text before (kept_text W pair.two) fits r
  unfolding kept_pair_text pair_text
  text_of_pair before = rw (kept_texts H, delays_begin) refl

  pub placed_pair : r + pair_registers fits ≤ 65536 → PlacedPair W pair
  unfolding pair_registers
  placed_pair small = record { placed = placed H (omega arith); few = omega (arith, H.register, registers_of_pair) }
