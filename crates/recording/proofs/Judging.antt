-- Every refusal in its order, as the code meets it: what the tree and the rows are that passed, and which answer each return leaves.
use mathlib.Core.Path.{◌≡◌, refl, sym, ◌∙◌}
use mathlib.Core.Bool.{Bool, true, false, not}
use mathlib.Core.List.{List}
use Prim.Native.Nat.{ℕ, ◌/◌, ◌%◌, ◌≤◌, ◌<◌}
use native.Mathlib.Omega.{arith}
use lib.Dec.{eqb, ltb}
use lib.ListN.{length}
use borrow.Author.Tests.{eqb-true, eqb-false, ltb-false, not-false}
use Rattle.words.proofs.Taken.{second_taken, both_hold, second_holds}
use Rattle.meaning.specs.Tree.{nodes}
use Rattle.meaning.specs.Tick.{all_bits}
use Rattle.meaning.specs.Refusals.{lowest_failing, table}
use Rattle.meaning.specs.Answers.{formed}
use Rattle.meaning.specs.declared.refusal.Refusal.{Refusal}
use Rattle.meaning.specs.declared.refusal.Refusal.TheVariants.{NotOverAnAtom}
use Rattle.std.specs.Prelude.{Result, Ok, Err}
use Rattle.meaning.proofs.Formed.{misformed_is_not_formed}
use Rattle.recording.specs.Refusals.{over_an_atom, and_then, judged_tree, all_in_the_row, ticks_of, good_rows}

-- Where two checks together refuse nothing, neither of them does.
both_formed : (first next : Result (Unit {0}) Refusal) → and_then first next ≡ formed → (first ≡ formed) × (next ≡ formed)
unfolding and_then
both_formed (Ok passed) next e = (refl, e)
both_formed (Err refusal) next e = absurd (misformed_is_not_formed e)

-- A tree that passed 1, 2, 3 and 6.
pub record GoodTree (t : List ℕ) : Type 0 where
  pub few : nodes t ≤ 64
  pub checked : table t ≡ formed
  pub repeats : lowest_failing NotOverAnAtom (over_an_atom t) (nodes t) 0 formed ≡ formed

-- A tree of which nothing was found passed 1, 2, 3 and 6.
pub a_good_tree : (t : List ℕ) → judged_tree t ≡ formed → GoodTree t
unfolding judged_tree
a_good_tree t e =
    let (few, more) = second_taken (ltb 64 (nodes t)) misformed_is_not_formed e in
    let (checked, repeats) = both_formed (table t) _ more in
    record { few = ltb-false _ _ few; checked = checked; repeats = repeats }

-- Rows that passed 17.
pub record GoodRows (t rows : List ℕ) (width : ℕ) : Type 0 where
  pub wide : 0 < width
  pub even : length rows % width ≡ 0
  pub short : ticks_of rows width ≤ 256
  pub bits : all_bits rows ≡ true
  pub inside : all_in_the_row t width (nodes t) ≡ true

-- Rows that the tests of 17 let pass are good.
pub rows_are_good : (t rows : List ℕ) (width : ℕ) → good_rows t rows width ≡ true → GoodRows t rows width
unfolding good_rows
rows_are_good t rows width e =
    let (wide, e₁) = second_holds (eqb width 0) e in
    let (even, e₂) = both_hold (eqb (length rows % width) 0) e₁ in
    let (short, e₃) = second_holds (ltb 256 (ticks_of rows width)) e₂ in
    let (bits, inside) = both_hold (all_bits rows) e₃ in
    record { wide = let some = eqb-false width 0 wide in omega arith; even = eqb-true _ _ even; short = ltb-false _ _ short; bits = bits; inside = inside }

-- A tree that is not refused has few nodes.
pub few_nodes : (t : List ℕ) {found : Result (Unit {0}) Refusal} → found ≡ judged_tree t → found ≡ formed → nodes t ≤ 64
few_nodes t e q = (a_good_tree t (sym e ∙ q)).few

module _ (t rows : List ℕ) (width : ℕ) {good : Bool} (g : good ≡ good_rows t rows width) (y : not good ≡ false) where
  -- Rows that are not refused are good.
  good_rows_hold : GoodRows t rows width
  good_rows_hold = rows_are_good t rows width (sym g ∙ not-false good y)

  -- So they have a width and few ticks.
  pub some_width : 0 < width
  some_width = good_rows_hold.wide

  pub few_ticks : length rows / width ≤ 256
  few_ticks = good_rows_hold.short
