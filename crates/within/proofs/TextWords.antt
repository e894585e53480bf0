-- The pass that puts the match: the text of a pair behind those before it, and over all of them all; and 0 where there is none.
use mathlib.Core.Path.{◌≡◌, refl, sym, ap, ◌∙◌}
use mathlib.Core.List.{List, [], ◌∷◌, ◌++◌}
use Prim.Native.Nat.{ℕ, ◌+◌, ◌-◌, ◌<◌, ◌≤◌}
use native.Mathlib.Omega.{arith}
use lib.Dec.{eqb}
use lib.ListN.{length}
use borrow.Author.Tests.{eq-eqb, eqb-true}
use Rattle.words.specs.Choice.{pick_true, pick_case}
use Rattle.words.specs.Written.{Wrote}
use Rattle.words.proofs.Laws.{begin, go, last, same_words, still_long}
use Rattle.meaning.specs.Alternative.{SeqAlt}
use Rattle.meaning.specs.Listing.{word}
use Rattle.term.specs.declared.Kept.{Kept}
use Rattle.current.specs.Text.{registers_before}
use Rattle.alternative.specs.Alternatives.{registers_in, text_in}
use Rattle.alternative.specs.Keeping.{Ended}
use Rattle.alternative.proofs.Laws.{next_in, ended}
use Rattle.pair.specs.declared.Pair.{Pair}
use Rattle.pair.specs.declared.Mark.{Mark}
use Rattle.pair.specs.Pairs.{Fitted, pair_registers, kept_pair_registers, kept_pair_text, Marked}
use Rattle.within.specs.declared.TextsPut.{TextsPut}
use Rattle.within.specs.AllPairs.{beside, pairs_registers, pairs_texts, row_registers, row_texts, all_registers, all_texts, or_zero}
use Rattle.within.specs.Walk.{RowDone, PairGiven, PairDone, over_pairs, over_rows, TakesPairs, TakesRows}
use Rattle.within.specs.Passes.{MarkRoom, begun_at, worded, text_here, text_steps}
use Rattle.within.proofs.KeptPairs.{held_next, held_text}
use Rattle.within.proofs.Marks.{none_marked, one_marked, both_marked, is_moved, first_fits, rest_fits}
use Rattle.within.proofs.PairByPair.{words_stay}

pub row_begun : {work : List ℕ} {two : Kept} (s : TextsPut × List ℕ) {next : ℕ} → next ≡ two.register + registers_before work two two.steps
    → RowDone text_steps work two s (begun_at next s.0, s.1)
row_begun s e = record { goes = λ y H. ap (λ (n : ℕ). (begun_at n s.0, s.1)) (next_in H e); small = λ y H. tt }

pub row_ended : {work : List ℕ} {pair : Pair} {s : TextsPut × List ℕ} → PairGiven text_steps work pair s → Ended work pair.two s.0.begin
row_ended G = ended G.held.two (omega (arith, G.takes.behind, G.takes.small)) G.takes.behind

abbrev pub put_on : TextsPut × List ℕ → Mark × List ℕ → TextsPut × List ℕ
put_on s p = (record { start = s.0.start; begin = s.0.begin; mark = p.0 }, p.1)

pub pair_worded : {work o₁ : List ℕ} {pair : Pair} (s : TextsPut × List ℕ) {m : Mark}
    → Marked s.1 o₁ s.0.mark.place m (kept_pair_text work pair (s.0.mark.place - s.0.start)) (pair.one.register + kept_pair_registers work pair)
    → PairDone text_steps work pair s (put_on s (m, o₁))
pair_worded s M = record { goes = λ y f H. ap (put_on s) (is_moved s.0.mark (pair_registers f) (rw (held_text H (s.0.mark.place - s.0.start)) at M) (held_next H)); small = λ y f H. tt }

-- So many words of the match stand before.
abbrev before : TextsPut × List ℕ → ℕ
before s = s.0.mark.place - s.0.start

-- Words of the match were put, and registers taken.
record Worded (s s' : TextsPut × List ℕ) (words : List ℕ) (register : ℕ) : Type 0 where
  pub marked : Marked s.1 s'.1 s.0.mark.place s'.0.mark words register
  pub start : s'.0.start ≡ s.0.start

further : {s s' : TextsPut × List ℕ} {ws : List ℕ} {r : ℕ} → Worded s s' ws r → s.0.start ≤ s.0.mark.place → before s' ≡ before s + length ws
further W h = omega (arith, W.marked.wrote.ends, W.start)

still_begun : {s s' : TextsPut × List ℕ} {ws : List ℕ} {r : ℕ} → Worded s s' ws r → s.0.start ≤ s.0.mark.place → s'.0.start ≤ s'.0.mark.place
still_begun W h = omega (arith, W.marked.wrote.ends, W.start)

-- Over the pairs of a row, and over all rows.
over_pairs_worded : (y : SeqAlt) (r : ℕ) (fs : List Fitted) (s : TextsPut × List ℕ) {b : ℕ} → s.0.start ≤ s.0.mark.place → before s ≡ b
    → Worded s (over_pairs text_steps y r fs s) (pairs_texts b (text_in y r) fs s.0.mark.register) (s.0.mark.register + pairs_registers fs)
unfolding over_pairs pairs_texts pairs_registers
over_pairs_worded y r [] s h e = record { marked = none_marked s.1 s.0.mark; start = refl }
over_pairs_worded y r (f ∷ fs) s h e =
    let here = text_here y r f s.0 in
    let rest = over_pairs_worded y r fs (worded s here (pair_registers f)) {b = before s + length here} (omega arith) (omega arith) in
    rw (← e) (record { marked = both_marked (one_marked s.1 s.0.mark here (pair_registers f)) rest.marked (omega arith); start = rest.start })

row_worded : (xs : List SeqAlt) (y : SeqAlt) (s : TextsPut × List ℕ) → s.0.start ≤ s.0.mark.place
    → (let at = s.0.mark.register in
    Worded s (over_pairs text_steps y at (beside xs y) (begun_at (at + registers_in y) s.0, s.1)) (row_texts (before s) xs y at) (at + row_registers xs y))
unfolding row_texts row_registers
row_worded xs y s h =
    let row = over_pairs_worded y s.0.mark.register (beside xs y) (begun_at (s.0.mark.register + registers_in y) s.0, s.1) h refl in
    record { marked = record { wrote = row.marked.wrote; next = omega (arith, row.marked.next) }; start = row.start }

over_rows_worded : (xs ys : List SeqAlt) (s : TextsPut × List ℕ) {b r : ℕ} → s.0.start ≤ s.0.mark.place → before s ≡ b → s.0.mark.register ≡ r
    → Worded s (over_rows text_steps xs ys s) (all_texts b xs ys r) (r + all_registers xs ys)
unfolding over_rows all_texts all_registers
over_rows_worded xs [] s h e q = rw (← q) (record { marked = none_marked s.1 s.0.mark; start = refl })
over_rows_worded xs (y ∷ ys) s h e q =
    let row = row_worded xs y s h in
    let rest = over_rows_worded xs ys _ (still_begun row h) (further row h) row.marked.next in
    rw (← e, ← q) (record { marked = both_marked row.marked rest.marked (omega arith); start = rest.start ∙ row.start })

-- There is room for each, and the numbers are small.
pairs_taken : (y : SeqAlt) (r : ℕ) (fs : List Fitted) (Then : TextsPut × List ℕ → Type 0) (s : TextsPut × List ℕ) {b : ℕ} → s.0.start ≤ s.0.mark.place
    → s.0.begin ≡ r + registers_in y → s.0.begin ≤ 65536 → before s ≡ b
    → MarkRoom s.0.mark (pairs_texts b (text_in y r) fs s.0.mark.register) (pairs_registers fs) s.1 → Then (over_pairs text_steps y r fs s)
    → TakesPairs text_steps y r fs Then s
unfolding TakesPairs over_pairs pairs_texts pairs_registers
pairs_taken y r [] Then s h behind small e room then = then
pairs_taken y r (f ∷ fs) Then s h behind small e room then =
    let here = text_here y r f s.0 in
    let both = rw (← e) at room in (
      record { begun = h; behind = behind; small = small; mark = first_fits here _ _ _ both },
      λ none.
          pairs_taken y r fs Then (worded s here (pair_registers f)) {b = before s + length here} (omega arith) behind small (omega arith) (rest_fits here _ _ _ both (one_marked s.1 s.0.mark here (pair_registers f))) then,
    )

rows_taken : (xs ys : List SeqAlt) (s : TextsPut × List ℕ) {b r : ℕ} → s.0.start ≤ s.0.mark.place → before s ≡ b → s.0.mark.register ≡ r
    → MarkRoom s.0.mark (all_texts b xs ys r) (all_registers xs ys) s.1 → TakesRows text_steps xs ys s
unfolding TakesRows all_texts all_registers row_texts row_registers
rows_taken xs [] s h e q room = tt
rows_taken xs (y ∷ ys) s h e q room =
    let at = s.0.mark.register in
    let row = row_worded xs y s h in
    let whole = rw (← e, ← q) at room in
    let here = first_fits (row_texts (before s) xs y at) _ (row_registers xs y) _ whole in (
      omega (arith, here.few),
      λ none.
          pairs_taken y at (beside xs y) (TakesRows text_steps xs ys) _ h refl (omega (arith, here.few)) refl (record { few = omega (arith, here.few); room = here.room })
          (rows_taken xs ys _ (still_begun row h) (further row h) row.marked.next
          (rest_fits (row_texts (before s) xs y at) _ (row_registers xs y) _ whole row.marked)),
    )

-- "without a pair that fits the match is 0": nothing was written.
nil_of : (ws : List ℕ) → length ws ≡ 0 → ws ≡ []
nil_of [] e = refl
nil_of (w ∷ ws) e = absurd (omega arith)

module _ (texts : List ℕ) where
  no_words : length texts ≡ 0 → or_zero texts ≡ word 3 0 ∷ []
  unfolding or_zero
  no_words e = pick_true _ _ (eq-eqb (length texts) 0 e)

  texts_room : (at : ℕ) {size : ℕ} → at + length (or_zero texts) ≤ size → at + length texts ≤ size
  unfolding or_zero
  texts_room at {size} =
      pick_case (λ (ws : List ℕ). at + length ws ≤ size → at + length texts ≤ size) (eqb (length texts) 0)
      (λ e room. let none : length texts ≡ 0 = eqb-true (length texts) 0 e in omega arith) (λ e room. room)

  module _ {o o₁ : List ℕ} {at p : ℕ} (w : Wrote o o₁ at p texts) where
    zero_room : at + length (or_zero texts) ≤ length o → p ≡ at → p < length o₁
    zero_room room e = omega (arith, ap length (no_words (omega (arith, w.ends))), still_long w)

    zero_done : {q : ℕ} {o₂ : List ℕ} → p ≡ at → Wrote o₁ o₂ p q (word 3 0 ∷ []) → Wrote o o₂ at q (or_zero texts)
    zero_done e u =
        let none : length texts ≡ 0 = omega (arith, w.ends) in
        same_words (ap (λ (ws : List ℕ). ws ++ (word 3 0 ∷ [])) (nil_of texts none) ∙ sym (no_words none))
        (last (go texts (word 3 0 ∷ []) (begin o at (texts ++ (word 3 0 ∷ []))) w) u)

    pairs_done : (p ≡ at → ⊥) → Wrote o o₁ at p (or_zero texts)
    pairs_done some = same_words (sym (words_stay texts (omega (arith, w.ends)))) w

-- `put_match`: the pass begins where the match does.
abbrev pub starting : Mark → TextsPut
starting m = record { start = m.place; begin = m.register; mark = m }

module _ (xs ys : List SeqAlt) (m : Mark) (o : List ℕ) where
  abbrev texts : List ℕ
  texts = all_texts 0 xs ys m.register

  pub texts_taken : m.register + all_registers xs ys ≤ 65536 → m.place + length (or_zero texts) ≤ length o → TakesRows text_steps xs ys (starting m, o)
  texts_taken few room =
      rows_taken xs ys (starting m, o) (omega arith) (omega arith) refl (record { few = few; room = texts_room texts m.place room })

  module _ {p : TextsPut} {o₁ : List ℕ} (e : (p, o₁) ≡ over_rows text_steps xs ys (starting m, o)) where
    texts_put : Wrote o o₁ m.place p.mark.place texts
    texts_put = (rw (← e) at (over_rows_worded xs ys (starting m, o) {b = 0} (omega arith) (omega arith) refl)).marked.wrote

    pub match_zero_room : m.place + length (or_zero texts) ≤ length o → p.mark.place ≡ m.place → p.mark.place < length o₁
    match_zero_room room same = zero_room texts texts_put room same

    pub match_zero : {q : ℕ} {o₂ : List ℕ} → p.mark.place ≡ m.place → Wrote o₁ o₂ p.mark.place q (word 3 0 ∷ []) → Wrote o o₂ m.place q (or_zero texts)
    match_zero same u = zero_done texts texts_put same u

    pub match_done : (p.mark.place ≡ m.place → ⊥) → Wrote o o₁ m.place p.mark.place (or_zero texts)
    match_done some = pairs_done texts texts_put some
