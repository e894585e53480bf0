-- The words of a pair have the sizes that are counted, from any register on, and what is counted fits into 64 bits.
use mathlib.Core.Path.{◌≡◌, refl, ap, ap₂, ◌∙◌}
use mathlib.Core.List.{List, [], ◌∷◌, ◌++◌}
use Prim.Native.Nat.{ℕ, ◌+◌, ◌≤◌}
use native.Mathlib.Omega.{arith}
use mir.Val.{Fits}
use mir.Syntax.{w64}
use lib.ListN.{length, length-append}
use Rattle.meaning.specs.Alternative.{SeqAlt}
use Rattle.step_text.specs.Text.{and_word}
use Rattle.sizes.specs.Sizes.{delays_size, most_store_words, most_words}
use Rattle.sizes.specs.declared.Size.{Size}
use Rattle.sizes.proofs.Laws.{delays_small}
use Rattle.sizes.proofs.Lengths.{delays_length}
use Rattle.term.specs.declared.Kept.{Kept}
use Rattle.alternative.specs.Alternatives.{registers_in, stores_in, text_in}
use Rattle.alternative.specs.Keeping.{Holds, kept_size}
use Rattle.alternative.proofs.Laws.{kept_stores, kept_texts, as_long_stores, as_long_a_text}
use Rattle.pair.specs.Pairs.{Fitted, delay_texts, joining, pair_stores, pair_text}
use Rattle.pair.specs.Sizes.{size_in, pair_size_of, pair_size, longest_text}
use Rattle.pair.proofs.Delays.{length-ored}

-- One alternative.
pub size_of_kept : {W : List ℕ} {a : Kept} {y : SeqAlt} → Holds W a y 0 → kept_size W a ≡ size_in y
unfolding kept_size size_in
size_of_kept H = rw (kept_texts H, kept_stores H) refl

-- A pair.
pub length-pair_stores : (two : ℕ) (f : Fitted) (r : ℕ) → length (pair_stores f r) ≡ (pair_size two f).stores
unfolding pair_stores pair_size_of size_in
length-pair_stores two f r =
    let y = f.alternative in
    length-append (stores_in y r) _
    ∙ ap₂ (λ (i j : ℕ). i + j) (as_long_stores y r)
    (delays_length [] (r + registers_in y) f.delays (text_in y r) ∙ ap (delays_size 0 f.delays) (as_long_a_text y r))

pub length-pair_text : (before : ℕ) (match_2 : List ℕ) (f : Fitted) (r : ℕ)
    → length (pair_text before match_2 f r) + 1 ≡ (pair_size (length match_2) f).text + length (joining before)
unfolding pair_text pair_size_of size_in
length-pair_text before match_2 f r =
    let y = f.alternative in
    let slid = text_in y r ++ delay_texts (r + registers_in y) f.delays in
    omega (
      arith,
      length-append match_2 (slid ++ (and_word ∷ joining before)),
      length-append slid (and_word ∷ joining before),
      length-append (text_in y r) (delay_texts (r + registers_in y) f.delays),
      length-ored (r + registers_in y) f.delays,
      as_long_a_text y r,
    )

pub two_words_more : (two : ℕ) (f : Fitted) → 2 ≤ (pair_size two f).text
unfolding pair_size_of
two_words_more two f = omega arith

-- The assignments of an alternative and of its delays, counted together.
module _ (own : Size) {d z : ℕ} (e : z ≡ delays_size 0 d own.text) (few : d ≤ 65536) (short : own.text ≤ longest_text) (low : own.stores ≤ most_store_words) where
  pub delayed_stores_fit : Fits w64 (own.stores + z)
  delayed_stores_fit = omega (arith, delays_small 0 d own.text (omega arith) few)

  pub delayed_stores_small : own.stores + z ≤ most_words
  delayed_stores_small = omega (arith, delays_small 0 d own.text (omega arith) few)
