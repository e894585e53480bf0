-- The words of a within have the sizes that are counted, from any register on.
use mathlib.Core.Path.{◌≡◌, refl, sym, ap, ◌∙◌}
use mathlib.Core.Bool.{true}
use mathlib.Core.List.{List, [], ◌∷◌, ◌++◌}
use Prim.Native.Nat.{ℕ, zero, suc, ◌+◌, ◌<◌}
use native.Mathlib.Nat.{add-zero}
use native.Mathlib.Omega.{arith}
use lib.Dec.{eqb}
use lib.ListN.{length, length-append}
use borrow.Author.Tests.{ne_eqb}
use Rattle.words.specs.Choice.{pick, pick_false}
use Rattle.meaning.specs.Alternative.{SeqAlt}
use Rattle.meaning.specs.Refusals.{within_fits}
use Rattle.meaning.specs.Listing.{word}
use Rattle.alternative.specs.Alternatives.{registers_in, stores_in, text_in}
use Rattle.alternative.proofs.Laws.{as_long_stores, as_long_a_text}
use Rattle.pair.specs.Pairs.{Fitted, joining, pair_registers, pair_stores, pair_text}
use Rattle.pair.specs.Sizes.{size_in, pair_size}
use Rattle.pair.proofs.Sizes.{length-pair_stores, length-pair_text, two_words_more}
use Rattle.within.specs.AllPairs.{pairs_stores, pairs_texts, beside, row_registers, row_stores, row_texts, all_stores, all_texts, or_zero, within_match, within_words}
use Rattle.within.specs.AllSizes.{plus, pairs_size, row_size, all_size, match_size, words_in}
use Rattle.within.proofs.PairByPair.{words_stay, the_listing_of_a_within}

-- The assignments of a row's pairs, and of all rows.
length-pairs_stores : (text : ℕ) (fs : List Fitted) (r : ℕ) → length (pairs_stores fs r) ≡ (pairs_size text fs).stores
unfolding pairs_stores pairs_size plus
length-pairs_stores text [] r = refl
length-pairs_stores text (f ∷ fs) r =
    length-append (pair_stores f r) _ ∙ omega (arith, length-pair_stores text f r, length-pairs_stores text fs (r + pair_registers f))

length-all_stores : (xs ys : List SeqAlt) (r : ℕ) → length (all_stores xs ys r) ≡ (all_size xs ys).stores
unfolding all_stores all_size row_stores row_size plus size_in
length-all_stores xs [] r = refl
length-all_stores xs (y ∷ ys) r =
    let theirs = pairs_stores (beside xs y) (r + registers_in y) in
    length-append (stores_in y r ++ theirs) _
    ∙ omega (
      arith,
      length-append (stores_in y r) theirs,
      as_long_stores y r,
      length-pairs_stores (length (text_in y 0)) (beside xs y) (r + registers_in y),
      length-all_stores xs ys (r + row_registers xs y),
    )

-- So many words of the match, counted with one OR for each of their pairs: the first pair's is not there.
with_first_or : ℕ → ℕ
with_first_or k = pick (eqb k 0) 0 (k + 1)

none_with_or : with_first_or 0 ≡ 0
unfolding with_first_or pick
none_with_or = refl

some_with_or : (k : ℕ) → 0 < k → with_first_or k ≡ k + 1
unfolding with_first_or
some_with_or k some = pick_false _ _ (ne_eqb k 0 (λ e. omega arith))

-- What a pair adds to the match, then a row's pairs, and all rows.
length-text : (before : ℕ) (match_2 : List ℕ) (f : Fitted) (r : ℕ)
    → with_first_or (before + length (pair_text before match_2 f r)) ≡ with_first_or before + (pair_size (length match_2) f).text
unfolding joining pick
length-text zero match_2 f r =
    let here = length-pair_text zero match_2 f r in
    let more = two_words_more (length match_2) f in
    some_with_or (0 + length (pair_text zero match_2 f r)) (omega (arith, here, more)) ∙ omega (arith, none_with_or, here)
length-text (suc b) match_2 f r =
    let here = length-pair_text (suc b) match_2 f r in
    let joins : length (joining (suc b)) ≡ 1 = ap length (pick_false _ _ (ne_eqb (suc b) 0 (λ e. omega arith))) in
    some_with_or (suc b + length (pair_text (suc b) match_2 f r)) (omega arith) ∙ omega (arith, some_with_or (suc b) (omega arith), here, joins)

-- Words in two parts.
with_both : (before : ℕ) (here more : List ℕ) → with_first_or (before + length (here ++ more)) ≡ with_first_or (before + length here + length more)
with_both before here more = ap with_first_or (omega (arith, length-append here more))

length-pairs_texts : (before : ℕ) (match_2 : List ℕ) (fs : List Fitted) (r : ℕ)
    → with_first_or (before + length (pairs_texts before match_2 fs r)) ≡ with_first_or before + (pairs_size (length match_2) fs).text
unfolding pairs_texts pairs_size plus
length-pairs_texts before match_2 [] r = rw add-zero (omega arith)
length-pairs_texts before match_2 (f ∷ fs) r =
    let here = pair_text before match_2 f r in
    with_both before here _
    ∙ omega (arith, length-pairs_texts (before + length here) match_2 fs (r + pair_registers f), length-text before match_2 f r)

length-all_texts : (before : ℕ) (xs ys : List SeqAlt) (r : ℕ)
    → with_first_or (before + length (all_texts before xs ys r)) ≡ with_first_or before + (all_size xs ys).text
unfolding all_texts all_size row_texts row_size plus size_in
length-all_texts before xs [] r = rw add-zero (omega arith)
length-all_texts before xs (y ∷ ys) r =
    let here = row_texts before xs y r in
    let row : with_first_or (before + length here) ≡ with_first_or before + (pairs_size (length (text_in y 0)) (beside xs y)).text =
    length-pairs_texts before (text_in y r) (beside xs y) (r + registers_in y)
    ∙ ap (λ (k : ℕ). with_first_or before + (pairs_size k (beside xs y)).text) (as_long_a_text y r) in
    with_both before here _ ∙ omega (arith, length-all_texts (before + length here) xs ys (r + row_registers xs y), row)

-- The match: one word less than the texts with all ORs, or 0.
length_match : (texts : List ℕ) → length (or_zero texts) ≡ match_size (with_first_or (length texts))
unfolding or_zero match_size with_first_or pick
length_match [] = refl
length_match (w ∷ ws) =
    let k = length (w ∷ ws) in
    ap length (words_stay (w ∷ ws) (omega arith))
    ∙ sym (ap match_size (some_with_or k (omega arith)) ∙ pick_false _ _ (ne_eqb (k + 1) 0 (λ e. omega arith)) ∙ omega arith)

-- All words of a within's listing: as many from any register on.
module _ (xs ys : List SeqAlt) (one : within_fits xs ≡ true) (two : within_fits ys ≡ true) where
  pub the_words_of_a_within : (r : ℕ) → length (within_words xs ys r) ≡ words_in xs ys
  unfolding words_in
  the_words_of_a_within r =
      let texts : with_first_or (length (all_texts 0 xs ys r)) ≡ (all_size xs ys).text =
      ap with_first_or (omega arith) ∙ length-all_texts 0 xs ys r ∙ omega (arith, none_with_or) in
      ap length (the_listing_of_a_within xs ys one two r)
      ∙ length-append (all_stores xs ys r) _
      ∙ omega (
        arith,
        length-all_stores xs ys r,
        length-append (within_match xs ys r) (word 14 0 ∷ []),
        length_match (all_texts 0 xs ys r) ∙ ap match_size texts,
      )

  pub as_many_words : (r : ℕ) → length (within_words xs ys r) ≡ length (within_words xs ys 0)
  as_many_words r = the_words_of_a_within r ∙ sym (the_words_of_a_within 0)
