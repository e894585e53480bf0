-- The pass that counts words: what it adds at a row and at a pair is theirs, and over all of them their sum, which fits into 64 bits.
use mathlib.Core.Path.{◌≡◌, refl, sym, ap, ap₂, ◌∙◌}
use mathlib.Core.List.{List, [], ◌∷◌}
use Prim.Native.Nat.{ℕ, ◌+◌, ◌*◌, ◌≤◌}
use native.Mathlib.Omega.{arith}
use lib.ListN.{length}
use Rattle.meaning.specs.Alternative.{SeqAlt}
use Rattle.term.specs.declared.Kept.{Kept}
use Rattle.sizes.specs.Sizes.{Countable, most_store_words, most_words}
use Rattle.sizes.specs.declared.Size.{Size}
use Rattle.expand.specs.ByNumber.{alternatives_of}
use Rattle.alternative.specs.Keeping.{kept_size, Holds}
use Rattle.alternative.proofs.Laws.{few_stores, short_text}
use Rattle.pair.specs.declared.Pair.{Pair}
use Rattle.pair.specs.Pairs.{Fitted, pair_registers}
use Rattle.pair.specs.Sizes.{size, size_in, pair_size_of, longest_text, longest_pair_text}
use Rattle.pair.proofs.Sizes.{size_of_kept, delayed_stores_small}
use Rattle.within.specs.declared.SizeSum.{SizeSum}
use Rattle.within.specs.AllPairs.{beside, pairs_registers, row_registers, all_registers, within_words}
use Rattle.within.specs.AllSizes.{plus, pairs_size, row_size, all_size, match_size, words_in, AtMost}
use Rattle.within.specs.Rows.{Numberable}
use Rattle.within.specs.Walk.{RowDone, PairGiven, PairDone, over_pairs, over_rows, TakesPairs, TakesRows}
use Rattle.within.specs.Passes.{Sized, size_steps}
use Rattle.within.proofs.Rows.{few_rows_and_pairs}
use Rattle.within.proofs.KeptPairs.{few_beside}
use Rattle.within.proofs.Lengths.{the_words_of_a_within}

-- What was kept with registers from 0 on has the words of its alternative.
module _ {work : List ℕ} {a : Kept} (C : Countable work a) {own : Size} (e : own ≡ kept_size work a) where
  pub own_text : own.text ≤ longest_text
  unfolding kept_size
  own_text = rw e (short_text C)

  pub own_stores : own.stores ≤ most_store_words
  unfolding kept_size
  own_stores = rw e (few_stores C)

  module _ {y : SeqAlt} (H : Holds work a y 0) where
    own_is : own ≡ size_in y
    own_is = e ∙ size_of_kept H

    sized : Sized y
    sized = record { text = rw own_is at own_text; stores = rw own_is at own_stores }

abbrev pub with_row : SizeSum × List ℕ → Size → SizeSum × List ℕ
with_row s own = (record { total = size s.0.total.text (s.0.total.stores + own.stores); text = own.text }, s.1)

pub row_sized : {work : List ℕ} {two : Kept} (s : SizeSum × List ℕ) {own : Size} → Countable work two → own ≡ kept_size work two
    → RowDone size_steps work two s (with_row s own)
row_sized s C e = record { goes = λ y H. ap (with_row s) (own_is C e H); small = λ y H. sized C e H }

pub pair_countable : {work : List ℕ} {pair : Pair} {s : SizeSum × List ℕ} → PairGiven size_steps work pair s → Countable work pair.one
unfolding pair_registers
pair_countable G = G.countable (omega (arith, G.takes.0))

pub few_delays : {work : List ℕ} {pair : Pair} {s : SizeSum × List ℕ} → PairGiven size_steps work pair s → pair.delays ≤ 65536
unfolding pair_registers
few_delays G = omega (arith, G.takes.0, G.held.delays)

abbrev pub with_pair : SizeSum × List ℕ → Size → SizeSum × List ℕ
with_pair s more = (record { total = size (s.0.total.text + more.text) (s.0.total.stores + more.stores); text = s.0.text }, s.1)

pub pair_sized : {work : List ℕ} {pair : Pair} (s : SizeSum × List ℕ) {own more : Size} → Countable work pair.one → own ≡ kept_size work pair.one
    → more ≡ pair_size_of own s.0.text pair.delays → PairDone size_steps work pair s (with_pair s more)
unfolding plus
pair_sized s C e q = record {
  goes = λ y f H. ap (with_pair s) (q ∙ rw (own_is C e H.one, H.delays) refl);
  small = λ y f H. sized C e H.one;
}

-- Over the pairs of a row, and over all rows.
plus_none : (z : Size) → z ≡ plus z (size 0 0)
unfolding plus
plus_none z = ap₂ size (omega arith) (omega arith)

plus_assoc : (a b c : Size) → plus (plus a b) c ≡ plus a (plus b c)
unfolding plus
plus_assoc a b c = ap₂ size (omega arith) (omega arith)

over_pairs_sized : (y : SeqAlt) (r : ℕ) (fs : List Fitted) (s : SizeSum × List ℕ)
    → over_pairs size_steps y r fs s ≡ (record { total = plus s.0.total (pairs_size s.0.text fs); text = s.0.text }, s.1)
unfolding over_pairs pairs_size
over_pairs_sized y r [] s = ap (λ (z : Size). (record { total = z; text = s.0.text }, s.1)) (plus_none s.0.total)
over_pairs_sized y r (f ∷ fs) s =
    over_pairs_sized y r fs _ ∙ ap (λ (z : Size). (record { total = z; text = s.0.text }, s.1)) (plus_assoc s.0.total _ _)

over_rows_sized : (xs ys : List SeqAlt) (s : SizeSum × List ℕ) → (over_rows size_steps xs ys s).0.total ≡ plus s.0.total (all_size xs ys)
unfolding over_rows all_size row_size plus
over_rows_sized xs [] s = plus_none s.0.total
over_rows_sized xs (y ∷ ys) s =
    ap (λ (s' : SizeSum × List ℕ). (over_rows size_steps xs ys s').0.total) (over_pairs_sized y 0 (beside xs y) _)
    ∙ over_rows_sized xs ys _
    ∙ ap₂ size (omega arith) (omega arith)

-- The sums of so many more pairs and rows are low.
record Low (k : ℕ) (z : Size) : Type 0 where
  pub text : z.text + k * longest_pair_text ≤ 512 * longest_pair_text
  pub stores : z.stores + k * most_words ≤ 512 * most_words

low_now : {k : ℕ} {z : Size} → Low k z → AtMost 512 z
low_now {k} L = record { text = omega (arith, L.text); stores = omega (arith, L.stores) }

pairs_taken : (y : SeqAlt) (r : ℕ) (fs : List Fitted) (Then : SizeSum × List ℕ → Type 0) (k : ℕ) (s : SizeSum × List ℕ) → pairs_registers fs ≤ 65536
    → s.0.text ≤ longest_text → Low (length fs + k) s.0.total → ((s' : SizeSum × List ℕ) → Low k s'.0.total → Then s')
    → TakesPairs size_steps y r fs Then s
unfolding TakesPairs pairs_registers pair_registers plus pair_size_of
pairs_taken y r [] Then k s few short low go = go s (record { text = omega (arith, low.text); stores = omega (arith, low.stores) })
pairs_taken y r (f ∷ fs) Then k s few short low go = (
  (omega arith, short, low_now low),
  λ small.
      pairs_taken y r fs Then k _ (omega arith) short
      (record {
        text = omega (arith, low.text, small.text);
        stores = omega (arith, low.stores, delayed_stores_small (size_in f.alternative) {d = f.delays} refl (omega arith) small.text small.stores);
      })
      go,
)

rows_taken : (xs ys : List SeqAlt) (s : SizeSum × List ℕ) → all_registers xs ys ≤ 65536 → Low (length ys * (length xs + 1)) s.0.total
    → TakesRows size_steps xs ys s
unfolding TakesRows all_registers row_registers
rows_taken xs [] s few low = low_now low
rows_taken xs (y ∷ ys) s few low = (
  (omega arith, low_now low),
  λ small.
      pairs_taken y 0 (beside xs y) (TakesRows size_steps xs ys) (length ys * (length xs + 1)) _ (omega arith) small.text
      (record { text = omega (arith, low.text, few_beside xs y); stores = omega (arith, low.stores, small.stores, few_beside xs y) })
      (λ s' low'. rows_taken xs ys s' (omega arith) low'),
)

-- `word_count`: the pass begins with nothing, and all words are the assignments, the match, and the match's own word.
abbrev pub nothing : SizeSum
nothing = record { total = size 0 0; text = 0 }

module _ {t o : List ℕ} {one two work : ℕ} (N : Numberable t o one two 0 work) where
  abbrev xs : List SeqAlt
  xs = alternatives_of t one

  abbrev ys : List SeqAlt
  ys = alternatives_of t two

  pub sizes_taken : (out : List ℕ) → TakesRows size_steps xs ys (nothing, out)
  sizes_taken out =
      rows_taken xs ys (nothing, out) (omega (arith, N.few))
      (record { text = omega (arith, few_rows_and_pairs N.paired); stores = omega (arith, few_rows_and_pairs N.paired) })

  pub words_counted : (out : List ℕ) {out' : List ℕ} {s : SizeSum} {match : ℕ} → (s, out') ≡ over_rows size_steps xs ys (nothing, out) → match ≡ match_size s.total.text
      → s.total.stores + (match + 1) ≡ length (within_words xs ys 0)
  unfolding words_in plus
  words_counted out {s = s} e q =
      let sums : s.total ≡ all_size xs ys = ap (λ (p : SizeSum × List ℕ). p.0.total) e ∙ over_rows_sized xs ys _ ∙ ap₂ size (omega arith) (omega arith) in
      rw (q, sums) (sym (the_words_of_a_within xs ys N.paired.pairs.one N.paired.pairs.two 0))
