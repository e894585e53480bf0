-- A root within, pair by pair: "goes through the alternatives of seq2, and with each of them through those of seq1". So code can write its listing with
-- one alternative of seq2 and one of seq1 at hand.
-- Example: `(a ##2 b) within (a ##1 c)` has no pair. Seq2's alternative still stores `a0 any seq0`, and the match is 0.
use Rattle.std.specs.Prelude.{List, [], ◌∷◌, ◌++◌, ℕ, ◌+◌, ◌-◌, eqb, leb, length}
use Rattle.words.specs.Choice.{pick}
use Rattle.meaning.specs.Alternative.{SeqAlt}
use Rattle.meaning.specs.Root.{window_len, synth_within}
use Rattle.meaning.specs.Listing.{listing}
use Rattle.step_text.specs.Text.{zero_word}
use Rattle.alternative.specs.Alternatives.{registers_in, stores_in, text_in}
use Rattle.pair.specs.Pairs.{Fitted, pair_registers, pair_stores, pair_text}

-- Each alternative of seq1 whose window k1 is not above l, with l - k1 further delays.
abbrev pub fit : ℕ → SeqAlt → Fitted
fit l y = record { alternative = y; delays = l - window_len y.steps }

unfoldable pub fitting : ℕ → List SeqAlt → List Fitted
fitting l [] = []
fitting l (y ∷ ys) = let more = fitting l ys in pick (leb (window_len y.steps) l) (fit l y ∷ more) more

-- The pairs of one alternative of seq2, whose text is match-2; so many words of the match stand before.
unfoldable pub pairs_registers : List Fitted → ℕ
pairs_registers [] = 0
pairs_registers (f ∷ fs) = pair_registers f + pairs_registers fs

unfoldable pub pairs_stores : List Fitted → ℕ → List ℕ
pairs_stores [] r = []
pairs_stores (f ∷ fs) r = pair_stores f r ++ pairs_stores fs (r + pair_registers f)

unfoldable pub pairs_texts : ℕ → List ℕ → List Fitted → ℕ → List ℕ
pairs_texts before match_2 [] r = []
pairs_texts before match_2 (f ∷ fs) r =
    let here = pair_text before match_2 f r in
    here ++ pairs_texts (before + length here) match_2 fs (r + pair_registers f)

-- One alternative of seq2, built once and before its pairs: "its registers are there even where nothing fits into it".
abbrev pub beside : List SeqAlt → SeqAlt → List Fitted
beside xs y = fitting (window_len y.steps) xs

unfoldable pub row_registers : List SeqAlt → SeqAlt → ℕ
row_registers xs y = registers_in y + pairs_registers (beside xs y)

unfoldable pub row_stores : List SeqAlt → SeqAlt → ℕ → List ℕ
row_stores xs y r = stores_in y r ++ pairs_stores (beside xs y) (r + registers_in y)

unfoldable pub row_texts : ℕ → List SeqAlt → SeqAlt → ℕ → List ℕ
row_texts before xs y r = pairs_texts before (text_in y r) (beside xs y) (r + registers_in y)

-- All of seq2's alternatives.
unfoldable pub all_registers : List SeqAlt → List SeqAlt → ℕ
all_registers xs [] = 0
all_registers xs (y ∷ ys) = row_registers xs y + all_registers xs ys

unfoldable pub all_stores : List SeqAlt → List SeqAlt → ℕ → List ℕ
all_stores xs [] r = []
all_stores xs (y ∷ ys) r = row_stores xs y r ++ all_stores xs ys (r + row_registers xs y)

unfoldable pub all_texts : ℕ → List SeqAlt → List SeqAlt → ℕ → List ℕ
all_texts before xs [] r = []
all_texts before xs (y ∷ ys) r =
    let here = row_texts before xs y r in
    here ++ all_texts (before + length here) xs ys (r + row_registers xs y)

-- The match: "without a pair that fits the match is 0".
unfoldable pub or_zero : List ℕ → List ℕ
or_zero texts = pick (eqb (length texts) 0) (zero_word ∷ []) texts

abbrev pub within_match : List SeqAlt → List SeqAlt → ℕ → List ℕ
within_match xs ys r = or_zero (all_texts 0 xs ys r)

-- The whole listing, registers numbered from r on.
unfoldable pub within_words : List SeqAlt → List SeqAlt → ℕ → List ℕ
within_words xs ys r = listing r (synth_within xs ys r)
