-- The walk over rows and pairs, as the code meets it: what is left of it gives what all of it gives, and the pass can take what is left.
use mathlib.Core.Path.{◌≡◌, refl, sym, ap, subst, ◌∙◌}
use mathlib.Core.Bool.{Bool, true, false}
use mathlib.Core.List.{List, ◌∷◌}
use Prim.Native.Nat.{ℕ, ◌+◌, ◌<◌, ◌≤◌}
use native.Mathlib.Omega.{arith}
use lib.Dec.{leb}
use lib.ListN.{length, drop, get_or, drop_of_length-le}
use Rattle.words.specs.Choice.{pick_true, pick_false}
use Rattle.meaning.specs.Alternative.{SeqAlt}
use Rattle.meaning.specs.Root.{window_len}
use Rattle.outline.specs.Outline.{count_in}
use Rattle.sizes.specs.Sizes.{Countable}
use Rattle.expand.proofs.Index.{rest_of}
use Rattle.alternative.specs.Alternatives.{registers_in}
use Rattle.alternative.specs.Keeping.{chosen, Holds}
use Rattle.alternative.proofs.Keeping.{all_counted}
use Rattle.alternative.proofs.Laws.{kept_is_countable}
use Rattle.pair.specs.declared.Pair.{Pair}
use Rattle.pair.specs.Pairs.{Fitted}
use Rattle.within.specs.declared.Row.{Row}
use Rattle.within.specs.declared.Operands.{Operands}
use Rattle.within.specs.AllPairs.{fit, fitting}
use Rattle.within.specs.Rows.{Windows, Ready, Rowed, Beside, ones, twos}
use Rattle.within.specs.Walk.{Steps, RowGiven, RowDone, PairHeld, PairGiven, PairDone, over_pairs, over_rows, TakesPairs, TakesRows}
use Rattle.within.proofs.Rows.{one_keepable, two_keepable, still_ready, still_rowed}

-- The i-th alternative of seq2, and the pairs that fit into a window, from the j-th alternative of seq1 on.
abbrev pub its_row : Operands → ℕ → SeqAlt
its_row w i = chosen w.tree.now w.two i

abbrev pub left : Operands → ℕ → ℕ → List Fitted
left w l j = fitting l (drop j (ones w))

-- Before the i-th row.
pub record AtRow {S : Type 0} (P : Steps S) (w : Operands) (work : List ℕ) (s₀ s : S × List ℕ) (i : ℕ) : Type 0 where
  pub ready : Ready w (length work)
  pub takes : TakesRows P (ones w) (drop i (twos w)) s
  pub goes : over_rows P (ones w) (twos w) s₀ ≡ over_rows P (ones w) (drop i (twos w)) s

-- Beside the i-th row, before the j-th alternative of seq1.
pub record AtPair {S : Type 0} (P : Steps S) (w : Operands) (row : Row) (work : List ℕ) (s₀ s : S × List ℕ) (i j : ℕ) : Type 0 where
  pub ready : Ready w (length work)
  pub rowed : Rowed w (its_row w i) row.two.register work row
  pub takes : TakesPairs P (its_row w i) row.two.register (left w row.window j) (TakesRows P (ones w) (drop (i + 1) (twos w))) s
  pub goes : over_rows P (ones w) (twos w) s₀
      ≡ over_rows P (ones w) (drop (i + 1) (twos w)) (over_pairs P (its_row w i) row.two.register (left w row.window j) s)

-- How many there are is read from the outline.
module _ {w : Operands} {work : ℕ} (R : Ready w work) where
  rows_counted : {n : ℕ} → n ≡ count_in w.outline.now w.two → n ≡ length (twos w)
  rows_counted c = all_counted (two_keepable R.paired) c

  module _ {n : ℕ} (c : n ≡ count_in w.outline.now w.one) where
    pairs_counted : n ≡ length (ones w)
    pairs_counted = all_counted (one_keepable R.paired) c

    pub pair_there : {j : ℕ} → j < n → j < length (ones w)
    pair_there h = omega (arith, pairs_counted)

    pub window_there : {j : ℕ} → j < n → j < length w.windows.now
    window_there h = omega (arith, pairs_counted, R.measured.long)

module _ {S : Type 0} {P : Steps S} {w : Operands} {s₀ : S × List ℕ} where
  pub walk_begins : {work : List ℕ} → Ready w (length work) → TakesRows P (ones w) (twos w) s₀ → AtRow P w work s₀ s₀ 0
  walk_begins R T = record { ready = R; takes = T; goes = refl }

  module _ {work : List ℕ} {s : S × List ℕ} {i : ℕ} (A : AtRow P w work s₀ s i) {n : ℕ} (c : n ≡ count_in w.outline.now w.two) where
    pub walk_ends : n ≤ i → s ≡ over_rows P (ones w) (twos w) s₀
    unfolding over_rows
    walk_ends h = sym (A.goes ∙ rw (drop_of_length-le (twos w) {i = i} (omega (arith, rows_counted A.ready c))) refl)

    pub pass_ends : n ≤ i → P.Ends s
    unfolding TakesRows
    pass_ends h = rw (drop_of_length-le (twos w) {i = i} (omega (arith, rows_counted A.ready c))) at A.takes

    module _ (h : i < n) where
      pub row_there : i < length (twos w)
      row_there = omega (arith, rows_counted A.ready c)

      row_left : drop i (twos w) ≡ its_row w i ∷ drop (i + 1) (twos w)
      row_left = rest_of (twos w) i row_there

      -- The row is kept with registers from the pass's own on.
      module _ {r : ℕ} (e : r ≡ P.register s.0) {work₁ : List ℕ} {row : Row} (R : Rowed w (its_row w i) r work₁ row) where
        holds : Holds work₁ row.two (its_row w i) (P.register s.0)
        holds = rw e at R.holds

        pub row_given : (registers_in (its_row w i) ≤ 65536 → Countable work₁ row.two) → RowGiven P work₁ row.two s
        unfolding TakesRows
        row_given C = record { alternative = its_row w i; holds = holds; countable = C; takes = (rw row_left at A.takes).0 }

        pub row_done : {s₁ : S × List ℕ} → length work₁ ≡ length work → RowDone P work₁ row.two s s₁ → AtPair P w row work₁ s₀ s₁ i 0
        unfolding TakesRows over_rows
        row_done f D = record {
          ready = still_ready A.ready f;
          rowed = subst (λ (q : ℕ). Rowed w (its_row w i) q work₁ row) (sym R.holds.register) R;
          takes = rw (D.goes _ holds, R.window, holds.register) ((rw row_left at A.takes).1 (D.small _ holds));
          goes = A.goes ∙ rw (row_left, D.goes _ holds, R.window, holds.register) refl;
        }

-- The j-th alternative of seq1 fits, or is passed over.
module _ (w : Operands) (M : Windows w.tree.now w.windows.now w.one) (l j : ℕ) (h : j < length (ones w)) where
  test : {b : Bool} → leb (get_or w.windows.now j 0) l ≡ b → leb (window_len (chosen w.tree.now w.one j).steps) l ≡ b
  test e = rw (← M.each j h) e

  taken : leb (get_or w.windows.now j 0) l ≡ true → left w l j ≡ fit l (chosen w.tree.now w.one j) ∷ left w l (j + 1)
  unfolding fitting
  taken e = ap (fitting l) (rest_of (ones w) j h) ∙ pick_true _ _ (test e)

  passed : leb (get_or w.windows.now j 0) l ≡ false → left w l j ≡ left w l (j + 1)
  unfolding fitting
  passed e = ap (fitting l) (rest_of (ones w) j h) ∙ pick_false _ _ (test e)

module _ {S : Type 0} {P : Steps S} {w : Operands} {row : Row} {work : List ℕ} {s₀ s : S × List ℕ} {i j : ℕ} (A : AtPair P w row work s₀ s i j)
    {n : ℕ} (c : n ≡ count_in w.outline.now w.one) where
  pub pairs_end : n ≤ j → AtRow P w work s₀ s (i + 1)
  unfolding TakesPairs over_pairs fitting
  pairs_end h =
      let none = drop_of_length-le (ones w) {i = j} (omega (arith, pairs_counted A.ready c)) in
      record { ready = A.ready; takes = rw none at A.takes; goes = A.goes ∙ rw none refl }

  module _ (h : j < n) {b : Bool} (test : b ≡ leb (get_or w.windows.now j 0) row.window) where
    inside : j < length (ones w)
    inside = pair_there A.ready c h

    pub pair_passed : b ≡ false → AtPair P w row work s₀ s i (j + 1)
    pair_passed e =
        let same = passed w A.ready.measured row.window j inside (sym test ∙ e) in
        record { ready = A.ready; rowed = A.rowed; takes = rw same at A.takes; goes = A.goes ∙ rw same refl }

    module _ (e : b ≡ true) {r : ℕ} (q : r ≡ P.register s.0) {work₁ : List ℕ} {pair : Pair} (B : Beside (chosen w.tree.now w.one j) row r work work₁ pair) where
      abbrev here : Fitted
      here = fit row.window (chosen w.tree.now w.one j)

      pair_left : left w row.window j ≡ here ∷ left w row.window (j + 1)
      pair_left = taken w A.ready.measured row.window j inside (sym test ∙ e)

      held : PairHeld P work₁ pair s (its_row w i) here
      held = record { two = rw B.two (still_rowed A.rowed B).holds; one = rw q at B.keeps.holds; delays = B.delays }

      pub pair_given : PairGiven P work₁ pair s
      unfolding TakesPairs
      pair_given = record {
        row = its_row w i;
        fitted = here;
        held = held;
        low = omega (arith, B.delays, A.rowed.low);
        countable = kept_is_countable A.rowed.room inside B.keeps;
        takes = rw B.two (rw pair_left at A.takes).0;
      }

      pub pair_done : {s₁ : S × List ℕ} → PairDone P work₁ pair s s₁ → AtPair P w row work₁ s₀ s₁ i (j + 1)
      unfolding TakesPairs over_pairs
      pair_done D = record {
        ready = still_ready A.ready B.keeps.long;
        rowed = still_rowed A.rowed B;
        takes = rw (D.goes _ _ held, B.two) ((rw pair_left at A.takes).1 (D.small _ _ held));
        goes = A.goes ∙ rw (pair_left, D.goes _ _ held, B.two) refl;
      }
