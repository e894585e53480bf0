-- The pass that puts assignments: those of a row and of a pair, one behind the other, and over all of them all.
use mathlib.Core.Path.{◌≡◌, refl, ap}
use mathlib.Core.List.{List, [], ◌∷◌}
use Prim.Native.Nat.{ℕ, ◌+◌, ◌≤◌}
use native.Mathlib.Omega.{arith}
use lib.ListN.{length}
use Rattle.words.specs.Written.{Wrote}
use Rattle.meaning.specs.Alternative.{SeqAlt}
use Rattle.term.specs.declared.Kept.{Kept}
use Rattle.current.specs.Text.{registers_before}
use Rattle.pipeline.specs.Stores.{alternative_store_words}
use Rattle.alternative.specs.Alternatives.{registers_in, stores_in}
use Rattle.alternative.proofs.Laws.{kept_stores, next_in}
use Rattle.pair.specs.declared.Pair.{Pair}
use Rattle.pair.specs.declared.Mark.{Mark}
use Rattle.pair.specs.Pairs.{Fitted, pair_registers, pair_stores, kept_pair_registers, kept_pair_stores, Marked}
use Rattle.within.specs.declared.StoresPut.{StoresPut}
use Rattle.within.specs.AllPairs.{beside, pairs_registers, pairs_stores, row_registers, row_stores, all_registers, all_stores}
use Rattle.within.specs.Walk.{RowDone, PairDone, over_pairs, over_rows, TakesPairs, TakesRows}
use Rattle.within.specs.Passes.{MarkRoom, stored, store_steps}
use Rattle.within.proofs.KeptPairs.{held_next, held_stores}
use Rattle.within.proofs.Marks.{none_marked, one_marked, both_marked, is_moved, first_fits, rest_fits}

abbrev pub put_on : Mark × List ℕ → StoresPut × List ℕ
put_on p = (record { mark = p.0 }, p.1)

pub row_stored : {work o₁ : List ℕ} {two : Kept} (s : StoresPut × List ℕ) {p next : ℕ} → Wrote s.1 o₁ s.0.mark.place p (alternative_store_words work two)
    → next ≡ two.register + registers_before work two two.steps
    → RowDone store_steps work two s (put_on (record { place = p; register = next }, o₁))
row_stored {work} {o₁} s {p} {next} w e = record {
  goes = λ y H. ap put_on (is_moved s.0.mark (registers_in y) (rw (kept_stores H) at (one w)) (next_in H e));
  small = λ y H. tt;
}
  where
    one : {ws : List ℕ} → Wrote s.1 o₁ s.0.mark.place p ws → Marked s.1 o₁ s.0.mark.place (record { place = p; register = next }) ws next
    one v = record { wrote = v; next = refl }

pub pair_stored : {work o₁ : List ℕ} {pair : Pair} (s : StoresPut × List ℕ) {m : Mark}
    → Marked s.1 o₁ s.0.mark.place m (kept_pair_stores work pair) (pair.one.register + kept_pair_registers work pair)
    → PairDone store_steps work pair s (put_on (m, o₁))
pair_stored s M = record { goes = λ y f H. ap put_on (is_moved s.0.mark (pair_registers f) (rw (held_stores H) at M) (held_next H)); small = λ y f H. tt }

-- Over the pairs of a row, and over all rows.
over_pairs_stored : (y : SeqAlt) (r : ℕ) (fs : List Fitted) (s : StoresPut × List ℕ)
    → (let s' = over_pairs store_steps y r fs s in
    Marked s.1 s'.1 s.0.mark.place s'.0.mark (pairs_stores fs s.0.mark.register) (s.0.mark.register + pairs_registers fs))
unfolding over_pairs pairs_stores pairs_registers
over_pairs_stored y r [] s = none_marked s.1 s.0.mark
over_pairs_stored y r (f ∷ fs) s =
    both_marked (one_marked s.1 s.0.mark (pair_stores f s.0.mark.register) (pair_registers f)) (over_pairs_stored y r fs _) (omega arith)

row_marked : (xs : List SeqAlt) (y : SeqAlt) (s : StoresPut × List ℕ)
    → (let s' = over_pairs store_steps y s.0.mark.register (beside xs y) (stored s (stores_in y s.0.mark.register) (registers_in y)) in
    Marked s.1 s'.1 s.0.mark.place s'.0.mark (row_stores xs y s.0.mark.register) (s.0.mark.register + row_registers xs y))
unfolding row_stores row_registers
row_marked xs y s =
    both_marked (one_marked s.1 s.0.mark (stores_in y s.0.mark.register) (registers_in y)) (over_pairs_stored y s.0.mark.register (beside xs y) _) (omega arith)

over_rows_stored : (xs ys : List SeqAlt) (s : StoresPut × List ℕ) {r : ℕ} → s.0.mark.register ≡ r
    → (let s' = over_rows store_steps xs ys s in Marked s.1 s'.1 s.0.mark.place s'.0.mark (all_stores xs ys r) (r + all_registers xs ys))
unfolding over_rows all_stores all_registers
over_rows_stored xs [] s e = rw (← e) (none_marked s.1 s.0.mark)
over_rows_stored xs (y ∷ ys) s e =
    let row = row_marked xs y s in
    rw (← e) (both_marked row (over_rows_stored xs ys _ row.next) (omega arith))

pub stores_put : (xs ys : List SeqAlt) {o o' : List ℕ} (m : Mark) {p : StoresPut} → (p, o') ≡ over_rows store_steps xs ys (record { mark = m }, o)
    → Wrote o o' m.place p.mark.place (all_stores xs ys m.register)
stores_put xs ys {o} m e = (rw (← e) at (over_rows_stored xs ys (record { mark = m }, o) refl)).wrote

-- There is room for each, and the numbers are small.
pairs_taken : (y : SeqAlt) (r : ℕ) (fs : List Fitted) (Then : StoresPut × List ℕ → Type 0) (s : StoresPut × List ℕ)
    → MarkRoom s.0.mark (pairs_stores fs s.0.mark.register) (pairs_registers fs) s.1 → Then (over_pairs store_steps y r fs s)
    → TakesPairs store_steps y r fs Then s
unfolding TakesPairs over_pairs pairs_stores pairs_registers
pairs_taken y r [] Then s room then = then
pairs_taken y r (f ∷ fs) Then s room then =
    let here = pair_stores f s.0.mark.register in
    (first_fits here _ _ _ room, λ small. pairs_taken y r fs Then _ (rest_fits here _ _ _ room (one_marked s.1 s.0.mark here (pair_registers f))) then)

rows_taken : (xs ys : List SeqAlt) (s : StoresPut × List ℕ) {r : ℕ} → s.0.mark.register ≡ r → MarkRoom s.0.mark (all_stores xs ys r) (all_registers xs ys) s.1
    → TakesRows store_steps xs ys s
unfolding TakesRows all_stores all_registers row_stores row_registers
rows_taken xs [] s e room = tt
rows_taken xs (y ∷ ys) s e room =
    let own = stores_in y s.0.mark.register in
    let row = row_marked xs y s in
    let whole = rw (← e) at room in
    let both = first_fits (row_stores xs y s.0.mark.register) _ (row_registers xs y) _ whole in (
      first_fits own _ _ _ both,
      λ small.
          pairs_taken y s.0.mark.register (beside xs y) (TakesRows store_steps xs ys) _
          (rest_fits own _ _ _ both (one_marked s.1 s.0.mark own (registers_in y)))
          (rows_taken xs ys _ row.next (rest_fits (row_stores xs y s.0.mark.register) _ (row_registers xs y) _ whole row)),
    )

pub stores_taken : (xs ys : List SeqAlt) (o : List ℕ) (m : Mark) → m.register + all_registers xs ys ≤ 65536
    → m.place + length (all_stores xs ys m.register) ≤ length o → TakesRows store_steps xs ys (record { mark = m }, o)
stores_taken xs ys o m few room = rows_taken xs ys _ refl (record { few = few; room = room })
