-- Tables stand apart, and rows in a table do: what is put into one leaves the others as they were, and a table whose rows are right is right.
use mathlib.Core.Path.{◌≡◌, refl, sym, ◌∙◌}
use mathlib.Core.Logic.{⊎_elim}
use mathlib.Core.List.{List, [], ◌∷◌}
use Prim.Native.Nat.{ℕ, suc, ◌+◌, ◌*◌, ◌≤◌, ◌<◌}
use native.Mathlib.Omega.{arith}
use native.Mathlib.Nat.{mul-le-mul_right, suc-mul}
use native.Mathlib.Decide.{dec_le}
use lib.ListN.{length, get_or, set}
use lib.Seq.{get_or-set_other}
use Rattle.words.specs.Written.{written}
use Rattle.words.proofs.Laws.{length-written, written_below}
use Rattle.meaning.specs.Tree.{node_at, tree_at}
use Rattle.meaning.specs.Lowerable.{WellFormed}
use Rattle.meaning.specs.declared.Node.{Node}
use Rattle.meaning.proofs.MatchForward.{match_forward}
use Rattle.recorded_runs.specs.Recorded.{recorded}
use Rattle.matches.specs.Tables.{table_of, Right, RightRow, Ready, Replaced}

-- A part of so many bytes ends where the next begins, or before.
pub ends_before : (size : ℕ) {k n : ℕ} → k < n → k * size + size ≤ n * size
ends_before size {k} {n} h = omega (arith, suc-mul k size, mul-le-mul_right {m = suc k} {n = n} size h)

-- What stands behind the place of writing is as it was.
written_behind : (ws o : List ℕ) (at i : ℕ) → at + length ws ≤ i → get_or (written o at ws) i 0 ≡ get_or o i 0
unfolding written
written_behind [] o at i h = refl
written_behind (w ∷ ws) o at i h = written_behind ws (set o at w) (suc at) i (omega arith) ∙ get_or-set_other o at i w 0 (λ e. omega arith)

-- Bytes put one behind another replace a part.
pub written_replaced : (o : List ℕ) (at : ℕ) (ws : List ℕ) → Replaced o (written o at ws) at (length ws)
written_replaced o at ws = record {
  long = length-written o at ws;
  in_front = λ k h. written_below ws o at k h;
  behind = λ k h. written_behind ws o at k h;
}

module _ {tree rows : List ℕ} {width side : ℕ} where
  -- A table that is right stays right while a part of another is replaced.
  pub apart : {before after : List ℕ} {n size : ℕ} (k : ℕ) → Replaced before after (table_of side n) size → size ≤ side * side → (k ≡ n → ⊥)
      → Right tree rows width side before k → Right tree rows width side after k
  apart {before} {after} {n} {size} k r fits other right = record {
    runs = λ i j h. (
      λ (p, q, e). (right.runs i j h).0 (p, q, sym (same i j p h) ∙ e),
      λ m. let (p, q, e) = (right.runs i j h).1 m in (p, q, same i j p h ∙ e),
    );
  }
    where
      same : (i j : ℕ) → i ≤ j → j < side → get_or after (table_of side k + i * side + j) 0 ≡ get_or before (table_of side k + i * side + j) 0
      same i j p h =
          let row = ends_before side {k = i} {n = side} (omega arith) in
          elim (dec_le (suc k) n) [
            | yes lower ↦ r.in_front _ (omega (arith, ends_before (side * side) lower))
            | no higher ↦ r.behind _ (omega (arith, ends_before (side * side) {k = n} {n = k} (omega arith)))
          ]

  -- A node whose operands' tables are right stays ready while a part of its own is replaced.
  pub ready_still : {before after : List ℕ} {n size : ℕ} → Ready tree rows width side before n → Replaced before after (table_of side n) size
      → size ≤ side * side → Ready tree rows width side after n
  ready_still {before} {after} {n} {size} ready r fits = record {
    fillable = rw r.long ready.fillable;
    inside = ready.inside;
    left = λ joins. apart v.p r fits (⊎_elim (λ e. lower (formed.delay_left e)) (λ e. lower (formed.within_one e)) joins) (ready.left joins);
    right = λ joins. apart v.q r fits (⊎_elim (λ e. lower (formed.delay_right e)) (λ e. lower (formed.within_two e)) joins) (ready.right joins);
    repeated = λ e. apart v.p r fits (lower (formed.consec_under e)) (ready.repeated e);
    under = λ e. apart v.q r fits (lower (formed.throughout_under e)) (ready.under e);
  }
    where
      v : Node
      v = node_at tree n

      formed : WellFormed n (node_at tree n)
      formed = ready.fillable.formed.each n ready.inside

      lower : {k : ℕ} → k < n → k ≡ n → ⊥
      lower l e = omega arith

  -- A table whose rows are right is right.
  pub of_right_rows : (tables : List ℕ) (n : ℕ) → ((i : ℕ) → i < side → RightRow tree rows width side tables n i) → Right tree rows width side tables n
  of_right_rows tables n each = record {
    runs = λ i j h. (
      λ (p, q, e). ((each i (omega arith)).ends j h).0 e,
      λ m. let p = match_forward (recorded rows width) (tree_at tree n) i j m in (p, h, ((each i (omega arith)).ends j h).1 m),
    );
  }
