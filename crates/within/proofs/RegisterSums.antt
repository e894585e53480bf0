-- The pass that counts registers: what it adds at a row and at a pair is theirs, and over all of them their sum, which fits into 64 bits.
use mathlib.Core.Path.{◌≡◌, ap, ◌∙◌}
use mathlib.Core.List.{List, [], ◌∷◌}
use Prim.Native.Nat.{ℕ, ◌+◌, ◌*◌, ◌≤◌}
use native.Mathlib.Omega.{arith}
use lib.ListN.{length}
use Rattle.meaning.specs.Alternative.{SeqAlt}
use Rattle.term.specs.declared.Kept.{Kept}
use Rattle.current.specs.Text.{registers_before, most_registers}
use Rattle.expand.specs.ByNumber.{alternatives_of}
use Rattle.alternative.proofs.Laws.{kept_registers}
use Rattle.pair.specs.declared.Pair.{Pair}
use Rattle.pair.specs.Pairs.{Fitted, kept_pair_registers, most_pair_registers}
use Rattle.within.specs.declared.RegisterSum.{RegisterSum}
use Rattle.within.specs.AllPairs.{beside, pairs_registers, row_registers, all_registers}
use Rattle.within.specs.Rows.{Paired}
use Rattle.within.specs.Walk.{RowDone, PairDone, over_pairs, over_rows, TakesPairs, TakesRows}
use Rattle.within.specs.Passes.{register_steps}
use Rattle.within.proofs.Rows.{few_rows_and_pairs}
use Rattle.within.proofs.KeptPairs.{held_registers, few_beside}

-- A sum that started with n.
abbrev pub counted : RegisterSum × List ℕ → ℕ → RegisterSum × List ℕ
counted s n = (record { total = s.0.total + n }, s.1)

pub row_counted : {work : List ℕ} {two : Kept} (s : RegisterSum × List ℕ) {own : ℕ} → own ≡ registers_before work two two.steps → own ≤ most_registers
    → RowDone register_steps work two s (counted s own)
row_counted s e low = record { goes = λ y H. ap (counted s) (e ∙ kept_registers H); small = λ y H. omega (arith, e, low, kept_registers H) }

pub pair_counted : {work : List ℕ} {pair : Pair} (s : RegisterSum × List ℕ) {own : ℕ} → own ≡ kept_pair_registers work pair → own ≤ most_pair_registers
    → PairDone register_steps work pair s (counted s own)
pair_counted s e low = record { goes = λ y f H. ap (counted s) (e ∙ held_registers H); small = λ y f H. omega (arith, e, low, held_registers H) }

-- Over the pairs of a row, and over all rows.
over_pairs_counted : (y : SeqAlt) (r : ℕ) (fs : List Fitted) (s : RegisterSum × List ℕ) → over_pairs register_steps y r fs s ≡ counted s (pairs_registers fs)
unfolding over_pairs pairs_registers
over_pairs_counted y r [] s = ap (λ (n : ℕ). (record { total = n }, s.1)) (omega arith)
over_pairs_counted y r (f ∷ fs) s = over_pairs_counted y r fs _ ∙ ap (λ (n : ℕ). (record { total = n }, s.1)) (omega arith)

over_rows_counted : (xs ys : List SeqAlt) (s : RegisterSum × List ℕ) → over_rows register_steps xs ys s ≡ counted s (all_registers xs ys)
unfolding over_rows all_registers row_registers
over_rows_counted xs [] s = ap (λ (n : ℕ). (record { total = n }, s.1)) (omega arith)
over_rows_counted xs (y ∷ ys) s =
    ap (over_rows register_steps xs ys) (over_pairs_counted y 0 (beside xs y) _)
    ∙ over_rows_counted xs ys _
    ∙ ap (λ (n : ℕ). (record { total = n }, s.1)) (omega arith)

-- The sum of so many more is low.
pairs_taken : (y : SeqAlt) (r : ℕ) (fs : List Fitted) (Then : RegisterSum × List ℕ → Type 0) (k : ℕ) (s : RegisterSum × List ℕ)
    → s.0.total + (length fs + k) * most_pair_registers ≤ 512 * most_pair_registers
    → ((s' : RegisterSum × List ℕ) → s'.0.total + k * most_pair_registers ≤ 512 * most_pair_registers → Then s') → TakesPairs register_steps y r fs Then s
unfolding TakesPairs
pairs_taken y r [] Then k s low go = go s (omega arith)
pairs_taken y r (f ∷ fs) Then k s low go = (omega arith, λ small. pairs_taken y r fs Then k _ (omega arith) go)

rows_taken : (xs ys : List SeqAlt) (s : RegisterSum × List ℕ) → s.0.total + length ys * (length xs + 1) * most_pair_registers ≤ 512 * most_pair_registers
    → TakesRows register_steps xs ys s
unfolding TakesRows
rows_taken xs [] s low = tt
rows_taken xs (y ∷ ys) s low = (
  omega arith,
  λ small.
      pairs_taken y 0 (beside xs y) (TakesRows register_steps xs ys) (length ys * (length xs + 1)) _ (omega (arith, few_beside xs y)) (rows_taken xs ys),
)

-- `registers`: the pass begins with nothing.
module _ {t o : List ℕ} {one two work : ℕ} (R : Paired t o one two work) where
  pub registers_taken : (out : List ℕ) → TakesRows register_steps (alternatives_of t one) (alternatives_of t two) (record { total = 0 }, out)
  registers_taken out = rows_taken (alternatives_of t one) (alternatives_of t two) (record { total = 0 }, out) (omega (arith, few_rows_and_pairs R))

pub registers_counted : (xs ys : List SeqAlt) (out : List ℕ) {out' : List ℕ} {s : RegisterSum} → (s, out') ≡ over_rows register_steps xs ys (record { total = 0 }, out)
    → s.total ≡ all_registers xs ys
registers_counted xs ys out e = ap (λ (p : RegisterSum × List ℕ). p.0.total) (e ∙ over_rows_counted xs ys _) ∙ omega arith
