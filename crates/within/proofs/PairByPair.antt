-- The words of a within, pair by pair: its assignments, then its match; and its registers, added up. From the definitions of the source's
-- functions on expressions, where no alternative has a guard: 9 came first.
use mathlib.Core.Path.{◌≡◌, refl, sym, ap, ap₂, ◌∙◌}
use mathlib.Core.Bool.{Bool, true, false}
use mathlib.Core.List.{List, [], ◌∷◌, ◌++◌, append-nil, append_assoc}
use Prim.Native.Nat.{ℕ, zero, suc, ◌+◌, ◌<◌}
use native.Mathlib.Nat.{add-zero}
use native.Mathlib.Omega.{arith}
use lib.Dec.{leb}
use lib.ListN.{length, length-append}
use borrow.Author.Tests.{ne_eqb, not-true}
use Rattle.words.specs.Choice.{pick, pick_false, pick_cong}
use Rattle.words.proofs.Taken.{both_hold, false_is_not_true}
use Rattle.meaning.specs.Expression.{Expr, r·, and·, or·, seq, Synth, synth, chained}
use Rattle.meaning.specs.Alternative.{Guard, unguarded, guard, SeqAlt}
use Rattle.meaning.specs.Refusals.{has_guard, plain, guarded, within_fits}
use Rattle.meaning.specs.Root.{Signals, signals, window_len, slide, pairs, all_pairs, or_all, one_of, synth_within}
use Rattle.meaning.specs.Listing.{word, expression_words, store_words}
use Rattle.meaning.proofs.Emitted.{some_words, store_words_append}
use Rattle.meaning.proofs.Uses.{Each}
use Rattle.step_text.specs.Text.{register_word, and_word, or_word, store_word}
use Rattle.pipeline.specs.Stores.{delay_store_words}
use Rattle.alternative.specs.Alternatives.{alternative_synth, stores_in, text_in}
use Rattle.alternative.proofs.Laws.{as_many_registers}
use Rattle.pair.specs.Pairs.{Fitted, delay_texts, joining, pair_registers, pair_stores, pair_text}
use Rattle.within.specs.AllPairs.{fit, fitting, pairs_registers, pairs_stores, pairs_texts, beside, row_registers, row_stores, row_texts, all_registers, all_stores, all_texts, or_zero, within_words}

-- No alternative has a guard.
abbrev pub Bare : SeqAlt → Type 0
Bare y = y.guard ≡ unguarded

no_guard : (g : Guard) {more : Bool} → pick (has_guard g) true more ≡ false → (g ≡ unguarded) × (more ≡ false)
unfolding pick
no_guard unguarded e = (refl, e)
no_guard (guard x) e = absurd (false_is_not_true (sym e))

each_bare : (ys : List SeqAlt) → guarded ys ≡ false → Each Bare ys
each_bare [] e = tt
each_bare (y ∷ ys) e = let (here, more) = no_guard y.guard e in (here, each_bare ys more)

pub all_bare : (ys : List SeqAlt) → within_fits ys ≡ true → Each Bare ys
all_bare ys e = each_bare ys (not-true (guarded ys) (both_hold (plain ys) e).1)

-- The delays of a pair: how many registers, their assignments, and their registers ORed to what is delayed.
slide_count : (r d : ℕ) (acc cur : Expr) → length (slide r d acc cur).stores ≡ d
slide_count r zero acc cur = refl
slide_count r (suc d) acc cur = ap suc (slide_count (suc r) d (or· acc (r· r)) (r· r))

slide_stores : (r d : ℕ) (acc cur : Expr) → store_words r (slide r d acc cur).stores ≡ delay_store_words [] r d (expression_words cur)
unfolding delay_store_words
slide_stores r zero acc cur = refl
slide_stores r (suc d) acc cur =
    ap (λ (ws : List ℕ). expression_words cur ++ (store_word seq r ∷ ws)) (slide_stores (suc r) d (or· acc (r· r)) (r· r))

slide_text : (r d : ℕ) (acc cur : Expr) → expression_words (slide r d acc cur).cur ≡ expression_words acc ++ delay_texts r d
unfolding delay_texts
slide_text r zero acc cur = sym (append-nil (expression_words acc))
slide_text r (suc d) acc cur =
    slide_text (suc r) d (or· acc (r· r)) (r· r) ∙ append_assoc (expression_words acc) (register_word r ∷ or_word ∷ []) (delay_texts (suc r) d)

-- A pair.
abbrev pair_synth : Expr → Fitted → ℕ → Synth
pair_synth match_2 f r =
    let o = chained r (alternative_synth f.alternative r) (λ next match-1. slide next f.delays match-1 match-1) in
    synth o.stores (and· match_2 o.cur)

module _ (match_2 : Expr) (f : Fitted) (r : ℕ) where
  abbrev own : Synth
  own = alternative_synth f.alternative r

  registers_of_a_pair : length (pair_synth match_2 f r).stores ≡ pair_registers f
  unfolding pair_registers
  registers_of_a_pair =
      length-append own.stores _
      ∙ ap₂ (λ (i j : ℕ). i + j) (as_many_registers f.alternative r) (slide_count (r + length own.stores) f.delays own.cur own.cur)

  stores_of_a_pair : store_words r (pair_synth match_2 f r).stores ≡ pair_stores f r
  unfolding pair_stores stores_in text_in
  stores_of_a_pair =
      store_words_append r own.stores _
      ∙ ap (λ (ws : List ℕ). store_words r own.stores ++ ws)
      (slide_stores (r + length own.stores) f.delays own.cur own.cur
      ∙ ap (λ (k : ℕ). delay_store_words [] (r + k) f.delays (expression_words own.cur)) (as_many_registers f.alternative r))

  text_of_a_pair : (before : ℕ) → expression_words (pair_synth match_2 f r).cur ++ joining before ≡ pair_text before (expression_words match_2) f r
  unfolding pair_text text_in
  text_of_a_pair before =
      ap (λ (ws : List ℕ). (expression_words match_2 ++ (ws ++ (and_word ∷ []))) ++ joining before)
      (slide_text (r + length own.stores) f.delays own.cur own.cur
      ∙ ap (λ (k : ℕ). expression_words own.cur ++ delay_texts (r + k) f.delays) (as_many_registers f.alternative r))
      ∙ simp append_assoc

-- The pairs of one alternative of seq2: those that the source takes are those that fit.
pairs_synth : Expr → List Fitted → ℕ → Signals
pairs_synth match_2 [] r = signals [] []
pairs_synth match_2 (f ∷ fs) r =
    let o = pair_synth match_2 f r in
    let more = pairs_synth match_2 fs (r + length o.stores) in
    signals (o.stores ++ more.stores) (o.cur ∷ more.curs)

taken_or_not : (match_2 : Expr) (b : Bool) (f : Fitted) (fs : List Fitted) (r : ℕ)
    → pick b (pairs_synth match_2 (f ∷ fs) r) (pairs_synth match_2 fs r) ≡ pairs_synth match_2 (pick b (f ∷ fs) fs) r
unfolding pick
taken_or_not match_2 true f fs r = refl
taken_or_not match_2 false f fs r = refl

the_pairs_that_fit : (l : ℕ) (match_2 : Expr) (ys : List SeqAlt) (r : ℕ) → Each Bare ys → pairs l match_2 ys r ≡ pairs_synth match_2 (fitting l ys) r
unfolding fitting pairs_synth
the_pairs_that_fit l match_2 [] r B = refl
the_pairs_that_fit l match_2 (y ∷ ys) r B =
    pick_cong (leb (window_len y.steps) l)
    (λ yes. rw (← B.0, the_pairs_that_fit l match_2 ys _ B.1) refl)
    (λ no. the_pairs_that_fit l match_2 ys r B.1)
    ∙ taken_or_not match_2 (leb (window_len y.steps) l) (fit l y) (fitting l ys) r

registers_of_pairs : (match_2 : Expr) (fs : List Fitted) (r : ℕ) → length (pairs_synth match_2 fs r).stores ≡ pairs_registers fs
unfolding pairs_registers pairs_synth
registers_of_pairs match_2 [] r = refl
registers_of_pairs match_2 (f ∷ fs) r =
    length-append (pair_synth match_2 f r).stores _ ∙ ap₂ (λ (i j : ℕ). i + j) (registers_of_a_pair match_2 f r) (registers_of_pairs match_2 fs _)

stores_of_pairs : (match_2 : Expr) (fs : List Fitted) (r : ℕ) → store_words r (pairs_synth match_2 fs r).stores ≡ pairs_stores fs r
unfolding pairs_stores pairs_synth
stores_of_pairs match_2 [] r = refl
stores_of_pairs match_2 (f ∷ fs) r =
    store_words_append r (pair_synth match_2 f r).stores _
    ∙ ap₂ (λ (vs ws : List ℕ). vs ++ ws) (stores_of_a_pair match_2 f r)
    (stores_of_pairs match_2 fs _ ∙ ap (λ (k : ℕ). pairs_stores fs (r + k)) (registers_of_a_pair match_2 f r))

-- The texts of several pairs, each joined to those before, of which so many words stand there already.
joined : ℕ → List Expr → List ℕ
joined before [] = []
joined before (e ∷ es) = let here = expression_words e ++ joining before in here ++ joined (before + length here) es

joined_append : (before : ℕ) (es fs : List Expr) → joined before (es ++ fs) ≡ joined before es ++ joined (before + length (joined before es)) fs
unfolding joined
joined_append before [] fs = ap (λ (k : ℕ). joined k fs) (sym (add-zero before))
joined_append before (e ∷ es) fs =
    let here = expression_words e ++ joining before in
    ap (λ (ws : List ℕ). here ++ ws) (joined_append (before + length here) es fs)
    ∙ sym (append_assoc here _ _)
    ∙ ap (λ (k : ℕ). (here ++ joined (before + length here) es) ++ joined k fs)
    (omega (arith, length-append here (joined (before + length here) es)))

texts_of_pairs : (before : ℕ) (match_2 : Expr) (fs : List Fitted) (r : ℕ)
    → joined before (pairs_synth match_2 fs r).curs ≡ pairs_texts before (expression_words match_2) fs r
unfolding pairs_texts pairs_synth joined
texts_of_pairs before match_2 [] r = refl
texts_of_pairs before match_2 (f ∷ fs) r =
    let next = r + length (pair_synth match_2 f r).stores in
    let here = pair_text before (expression_words match_2) f r in
    ap (λ (ws : List ℕ). ws ++ joined (before + length ws) (pairs_synth match_2 fs next).curs) (text_of_a_pair match_2 f r before)
    ∙ ap (λ (ws : List ℕ). here ++ ws)
    (texts_of_pairs (before + length here) match_2 fs next
    ∙ ap (λ (k : ℕ). pairs_texts (before + length here) (expression_words match_2) fs (r + k)) (registers_of_a_pair match_2 f r))

-- One alternative of seq2 and its pairs; then all of seq2's.
module _ (xs : List SeqAlt) (X : Each Bare xs) where
  abbrev row_synth : SeqAlt → ℕ → Signals
  row_synth y r = let o = alternative_synth y r in pairs_synth o.cur (beside xs y) (r + length o.stores)

  rows_are : (y : SeqAlt) (ys : List SeqAlt) (r : ℕ) → Bare y
      → all_pairs xs (y ∷ ys) r
      ≡ (let o = alternative_synth y r in
      let p = row_synth y r in
      let q = all_pairs xs ys (r + length o.stores + length p.stores) in
      signals (o.stores ++ (p.stores ++ q.stores)) (p.curs ++ q.curs))
  rows_are y ys r bare = rw (← bare, the_pairs_that_fit (window_len y.steps) _ xs _ X) refl

  row_count : (y : SeqAlt) (r : ℕ) → r + length (alternative_synth y r).stores + length (row_synth y r).stores ≡ r + row_registers xs y
  unfolding row_registers
  row_count y r = omega (arith, as_many_registers y r, registers_of_pairs (alternative_synth y r).cur (beside xs y) (r + length (alternative_synth y r).stores))

  count_of_rows : (ys : List SeqAlt) (r : ℕ) → Each Bare ys → length (all_pairs xs ys r).stores ≡ all_registers xs ys
  unfolding all_registers
  count_of_rows [] r B = refl
  count_of_rows (y ∷ ys) r B =
      let o = alternative_synth y r in
      let p = row_synth y r in
      ap (λ (s : Signals). length s.stores) (rows_are y ys r B.0)
      ∙ length-append o.stores _
      ∙ ap (λ (k : ℕ). length o.stores + k) (length-append p.stores _)
      ∙ omega (arith, row_count y r, count_of_rows ys (r + length o.stores + length p.stores) B.1)

  stores_of_rows : (ys : List SeqAlt) (r : ℕ) → Each Bare ys → store_words r (all_pairs xs ys r).stores ≡ all_stores xs ys r
  unfolding all_stores row_stores stores_in
  stores_of_rows [] r B = refl
  stores_of_rows (y ∷ ys) r B =
      let o = alternative_synth y r in
      let k = r + length o.stores in
      let p = row_synth y r in
      ap (λ (s : Signals). store_words r s.stores) (rows_are y ys r B.0)
      ∙ store_words_append r o.stores _
      ∙ ap (λ (ws : List ℕ). store_words r o.stores ++ ws)
      (store_words_append k p.stores _ ∙ ap₂ (λ (vs ws : List ℕ). vs ++ ws) (stores_of_pairs o.cur (beside xs y) k) (stores_of_rows ys (k + length p.stores) B.1))
      ∙ sym (append_assoc (store_words r o.stores) _ _)
      ∙ ap₂ (λ (i j : ℕ). (store_words r o.stores ++ pairs_stores (beside xs y) i) ++ all_stores xs ys j)
      (ap (λ (i : ℕ). r + i) (as_many_registers y r))
      (row_count y r)

  texts_of_rows : (before : ℕ) (ys : List SeqAlt) (r : ℕ) → Each Bare ys → joined before (all_pairs xs ys r).curs ≡ all_texts before xs ys r
  unfolding all_texts row_texts text_in joined
  texts_of_rows before [] r B = refl
  texts_of_rows before (y ∷ ys) r B =
      let o = alternative_synth y r in
      let k = r + length o.stores in
      let p = row_synth y r in
      let here = pairs_texts before (expression_words o.cur) (beside xs y) k in
      ap (λ (s : Signals). joined before s.curs) (rows_are y ys r B.0)
      ∙ joined_append before p.curs _
      ∙ ap (λ (ws : List ℕ). ws ++ joined (before + length ws) (all_pairs xs ys (k + length p.stores)).curs) (texts_of_pairs before o.cur (beside xs y) k)
      ∙ ap (λ (ws : List ℕ). here ++ ws) (texts_of_rows (before + length here) ys (k + length p.stores) B.1)
      ∙ ap₂ (λ (i j : ℕ). let w = pairs_texts before (expression_words o.cur) (beside xs y) i in w ++ all_texts (before + length w) xs ys j)
      (ap (λ (i : ℕ). r + i) (as_many_registers y r))
      (row_count y r)

-- Behind some words every pair is joined by an OR.
joins : (before : ℕ) → 0 < before → joining before ≡ or_word ∷ []
unfolding joining
joins before some = pick_false _ _ (ne_eqb before 0 (λ e. omega arith))

or_all_words : (before : ℕ) (acc : Expr) (es : List Expr) → 0 < before → expression_words (or_all acc es) ≡ expression_words acc ++ joined before es
unfolding joined
or_all_words before acc [] some = sym (append-nil (expression_words acc))
or_all_words before acc (e ∷ es) some =
    let here = expression_words e ++ joining before in
    or_all_words (before + length here) (or· acc e) es (omega arith)
    ∙ append_assoc (expression_words acc) (expression_words e ++ (or_word ∷ [])) _
    ∙ ap (λ (ws : List ℕ). expression_words acc ++ ((expression_words e ++ ws) ++ joined (before + length here) es)) (sym (joins before some))

-- Some words are not replaced by 0.
pub words_stay : (ws : List ℕ) → 0 < length ws → or_zero ws ≡ ws
unfolding or_zero
words_stay ws some = pick_false _ _ (ne_eqb (length ws) 0 (λ e. omega arith))

one_of_words : (es : List Expr) → expression_words (one_of es) ≡ or_zero (joined 0 es)
unfolding joined or_zero joining pick
one_of_words [] = refl
one_of_words (e ∷ es) =
    let first = expression_words e in
    let whole : joined 0 (e ∷ es) ≡ first ++ joined (length first) es = rw (append-nil) (ap (λ (k : ℕ). first ++ joined k es) (omega arith)) in
    or_all_words (length first) e es (some_words e)
    ∙ sym (ap or_zero whole ∙ words_stay (first ++ joined (length first) es) (omega (arith, length-append first (joined (length first) es), some_words e)))

-- A within: its registers, and its whole listing: assignments, match, and the match's own word.
module _ (xs ys : List SeqAlt) (one : within_fits xs ≡ true) (two : within_fits ys ≡ true) (r : ℕ) where
  pub the_registers_of_a_within : length (synth_within xs ys r).stores ≡ all_registers xs ys
  the_registers_of_a_within = count_of_rows xs (all_bare xs one) ys r (all_bare ys two)

  pub the_listing_of_a_within : within_words xs ys r ≡ all_stores xs ys r ++ (or_zero (all_texts 0 xs ys r) ++ (word 14 0 ∷ []))
  unfolding within_words
  the_listing_of_a_within =
      rw (
        stores_of_rows xs (all_bare xs one) ys r (all_bare ys two),
        one_of_words (all_pairs xs ys r).curs,
        texts_of_rows xs (all_bare xs one) 0 ys r (all_bare ys two),
      )
      refl
