-- A row is put into its table, and a table is filled row by row, each from the ends that were found for it.
use mathlib.Core.Path.{◌≡◌, refl, sym, subst, ◌∙◌}
use mathlib.Core.Logic.{◌↔◌}
use mathlib.Core.List.{List}
use Prim.Native.Nat.{ℕ, ◌+◌, ◌*◌, ◌≤◌, ◌<◌}
use native.Mathlib.Omega.{arith}
use native.Mathlib.Nat.{add-mul, mul-le-mul_right}
use native.Mathlib.Decide.{ℕ_discrete}
use lib.ListN.{length, get_or, take}
use lib.Seq.{length-take-le}
use Rattle.words.specs.Written.{written}
use Rattle.words.proofs.Laws.{read_back}
use Rattle.meaning.specs.Tree.{tree_at}
use Rattle.meaning.specs.Match.{Match}
use Rattle.runs.specs.Ends.{Gains}
use Rattle.runs.proofs.Laws.{in_gained_blank}
use Rattle.recorded_runs.specs.Recorded.{recorded}
use Rattle.matches.specs.Tables.{table_of, RightRow, Ready, NoEnds, Replaced, RowFilled, TableFilled}
use Rattle.matches.proofs.TablesApart.{ends_before, written_replaced, of_right_rows, ready_still}

-- Row i of a node's table has its place among the tables.
pub row_in_tables : {tree rows : List ℕ} {width side : ℕ} {tables : List ℕ} {n i p : ℕ} → Ready tree rows width side tables n → i < side
    → p ≡ table_of side n → p + i * side + side ≤ length tables
row_in_tables {side = side} {i = i} ready h e =
    omega (arith, ready.fillable.enough, ends_before (side * side) ready.inside, ends_before side {k = i} {n = side} h)

-- A byte says what an equal one says.
a_byte_alike : {x y : ℕ} {P : Type 0} → y ≡ x → (x ≡ 1) ↔ P → (y ≡ 1) ↔ P
a_byte_alike e s = (λ f. s.0 (sym e ∙ f), λ p. e ∙ s.1 p)

-- A row that had no ends and gained those of the node's runs from i on is put in its place.
pub row_filled : {tree rows : List ℕ} {width : ℕ} {n i p : ℕ} {before after row row' : List ℕ}
    → Ready tree rows width (length row) before n → i < length row → NoEnds row
    → Gains row row' (Match (recorded rows width) (tree_at tree n) i) → p ≡ table_of (length row) n
    → after ≡ written before (p + i * length row) row' → RowFilled tree rows width (length row) before after n i
row_filled {tree} {rows} {width} {n} {i} {p} {before} {after} {row} {row'} ready h none gains e f = record {
  replaced = rw (f, e) (rw gains.long at (written_replaced before (table_of (length row) n + i * length row) row'));
  right = record { ends = each };
}
  where
    each : (j : ℕ) → j < length row → (get_or after (table_of (length row) n + i * length row + j) 0 ≡ 1) ↔ Match (recorded rows width) (tree_at tree n) i j
    each j l =
        let fits = row_in_tables ready h refl in
        let same = read_back before (table_of (length row) n + i * length row) row' j (omega (arith, gains.long)) (omega (arith, gains.long)) in
        a_byte_alike (rw (f, e) same) (in_gained_blank none gains j l)

-- The first zeros, as many as the table has ends.
module _ {tree rows : List ℕ} {width side : ℕ} {tables : List ℕ} {n : ℕ}
    (zeros : List ℕ) (enough : length zeros ≡ 257) (ready : Ready tree rows width side tables n) where
  -- The first zeros are as long as the side.
  zeros_long : length (take side zeros) ≡ side
  zeros_long = length-take-le side zeros (omega (arith, ready.fillable.short))

  -- What is known of the side is known of the length of the first zeros.
  pub zeros_ready : Ready tree rows width (length (take side zeros)) tables n
  zeros_ready = rw zeros_long ready

  pub zeros_inside : {i : ℕ} → i < side → i < length (take side zeros)
  zeros_inside h = rw zeros_long h

-- The first i rows of the table of node n are filled.
pub record TableFilling (tree rows : List ℕ) (width side : ℕ) (before after : List ℕ) (n i : ℕ) : Type 0 where
  pub inside : i ≤ side
  pub replaced : Replaced before after (table_of side n) (i * side)
  pub right : (k : ℕ) → k < i → RightRow tree rows width side after n k

module _ {tree rows : List ℕ} {width side : ℕ} {before after : List ℕ} {n i : ℕ}
    (f : TableFilling tree rows width side before after n i) where
  -- The operands' tables are right still.
  pub table_filling_ready : Ready tree rows width side before n → Ready tree rows width side after n
  table_filling_ready ready = ready_still ready f.replaced (omega (arith, mul-le-mul_right {m = i} {n = side} side f.inside))

  -- One row more is filled.
  pub table_filling_on : {later : List ℕ} → i < side → RowFilled tree rows width side after later n i
      → TableFilling tree rows width side before later n (i + 1)
  table_filling_on {later} h row = record {
    inside = omega arith;
    replaced = record {
      long = row.replaced.long ∙ f.replaced.long;
      in_front = λ k l. row.replaced.in_front k (omega arith) ∙ f.replaced.in_front k l;
      behind = λ k l. row.replaced.behind k (omega (arith, add-mul i 1 side)) ∙ f.replaced.behind k (omega (arith, add-mul i 1 side));
    };
    right = λ k l. elim (ℕ_discrete k i) [
      | yes e ↦ rw e row.right
      | no e ↦ (let above = ends_before side {k = k} {n = i} (omega arith) in record {
        ends = λ j q.
            a_byte_alike (row.replaced.in_front (table_of side n + k * side + j) (omega arith)) ((f.right k (omega arith)).ends j q);
      })
    ];
  }

  -- At the end all rows are filled.
  pub table_filling_ends : side ≤ i → TableFilled tree rows width side before after n
  table_filling_ends h =
      let all : i ≡ side = omega (arith, f.inside) in
      record {
        replaced = subst (λ z. Replaced before after (table_of side n) (z * side)) all f.replaced;
        right = of_right_rows after n (λ k l. f.right k (omega arith));
      }
