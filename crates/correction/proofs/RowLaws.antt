-- Laws of the rows, as the code meets them: the pixel of a tick leaves, and the rows keep it, as the definitions say. They
-- assume nothing.
use mathlib.Core.Path.{◌≡◌, refl, sym, ap, ◌∙◌}
use Rattle.std.specs.Prelude.{Option, Some, None}
use mathlib.Core.Bool.{true, false}
use mathlib.Core.List.{List}
use Prim.Native.Nat.{ℕ, ◌+◌, ◌-◌, ◌*◌, ◌/◌, ◌≤◌, ◌<◌}
use native.Mathlib.Omega.{arith}
use lib.ListN.{length, set, length-set}
use borrow.Author.Tests.{lt-ltb, le-ltb}
use Rattle.words.specs.Choice.{pick_true, pick_false, pick_case}
use Rattle.correction.specs.Map.{names, Reached, reached_after, LookedUp}
use Rattle.correction.specs.Rows.{row_of, column_of, place_of, pixel_at, replacement_by, leaving_of, rows_after, Left, Stepped}
use Rattle.correction.specs.declared.Output.{Output}
use Rattle.correction.specs.declared.Leaving.TheVariants.{Nothing, Kept, Replaced}

-- The mean of two pixels that the code has under names.
pub mean_of : {r x y left above : ℕ} → r ≡ (x + y) / 2 → x ≡ left → y ≡ above → r ≡ (left + above) / 2
mean_of e f g = rw (← f, ← g) e

module _ {map : List ℕ} {row column : ℕ} (tick : ℕ) (r : row ≡ row_of tick) (c : column ≡ column_of tick) where
  -- A tick is its row and its column.
  pub reached_by_its_tick : {reached : ℕ} → Reached map reached tick → Reached map reached (row * 752 + column)
  reached_by_its_tick R = let e : row * 752 + column ≡ tick = omega arith in rw e R

  same_tick : {reached : ℕ} {found : Option ℕ} → LookedUp map reached row column found → Reached map (reached_after reached found) (tick + 1)
  same_tick L = let e : row * 752 + column + 1 ≡ tick + 1 = omega arith in rw e at L.after

  -- The map does not name the pixel.
  pub leaves_as_it_came : {rows : List ℕ} {reached p : ℕ} → LookedUp map reached row column None → p ≡ pixel_at rows tick
      → Left map rows rows tick (record { leaving = Kept p; reached = reached })
  unfolding leaving_of rows_after
  leaves_as_it_came {rows} L e =
      let no : names map (row_of tick) (column_of tick) ≡ false = rw (r, c) at (sym L.says) in
      record { leaves = sym (pick_false _ _ no ∙ ap Kept (sym e)); keeps = sym (pick_false _ _ no); reaches = same_tick L }

  -- The map names the pixel.
  pub leaves_replaced : {rows : List ℕ} {reached after p place : ℕ} → LookedUp map reached row column (Some after)
      → p ≡ replacement_by rows tick row column → place ≡ place_of tick
      → Left map rows (set rows place p) tick (record { leaving = Replaced p; reached = after })
  unfolding leaving_of rows_after
  leaves_replaced {rows} {p = p} L e f =
      let yes : names map (row_of tick) (column_of tick) ≡ true = rw (r, c) at (sym L.says) in
      let q : p ≡ replacement_by rows tick (row_of tick) (column_of tick) = rw (r, c) at e in
      record {
        leaves = sym (pick_true _ _ yes ∙ ap Replaced (sym q));
        keeps = sym (pick_true _ _ yes ∙ rw (← f, ← q) refl);
        reaches = same_tick L;
      }

-- The rows keep their length.
pub length-kept : (rows : List ℕ) (place pixel : ℕ) {map after : List ℕ} {tick : ℕ} {given : Output}
    → Left map (set rows place pixel) after tick given → length after ≡ length rows
unfolding rows_after
length-kept rows place pixel {map} {after} {tick} L =
    ap length L.keeps
    ∙ pick_case (λ (l : List ℕ). length l ≡ length rows) (names map (row_of tick) (column_of tick))
    (λ _. simp length-set) (λ _. simp length-set)

module _ {map rows : List ℕ} {tick place pixel : ℕ} (e : place ≡ place_of tick) where
  -- In the first two ticks nothing leaves.
  pub nothing_leaves : {reached : ℕ} → tick < 2 → Reached map reached (tick - 2)
      → Stepped map rows (set rows place pixel) tick pixel (record { leaving = Nothing; reached = reached })
  nothing_leaves h R =
      let t = lt-ltb tick 2 h in
      let s : tick - 2 ≡ tick + 1 - 2 = omega arith in
      record { leaves = sym (pick_true _ _ t); keeps = sym (pick_true _ _ t ∙ rw (← e) refl); reaches = rw s at R }

  -- From the third tick on the pixel of two ticks before leaves.
  pub the_one_before_leaves : {after : List ℕ} {given : Output} → 2 ≤ tick → Left map (set rows place pixel) after (tick - 2) given
      → Stepped map rows after tick pixel given
  the_one_before_leaves h L =
      let t = le-ltb tick 2 h in
      let s : tick - 2 + 1 ≡ tick + 1 - 2 = omega arith in
      record {
        leaves = sym (pick_false _ _ t ∙ rw (← e) (sym L.leaves));
        keeps = sym (pick_false _ _ t ∙ rw (← e) (sym L.keeps));
        reaches = rw s at L.reaches;
      }
