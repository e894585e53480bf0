-- What a caller has of an answer: a tree and rows that are not refused can be matched.
use mathlib.Core.Path.{◌≡◌, refl, sym, ◌∙◌}
use mathlib.Core.Logic.{◌⊎◌, inl, inr}
use mathlib.Core.Bool.{true}
use mathlib.Core.List.{List}
use Prim.Native.Nat.{ℕ, zero, suc, ◌+◌, ◌*◌, ◌≤◌, ◌<◌}
use native.Mathlib.Nat.{div-add-mod'}
use native.Mathlib.Omega.{arith}
use native.Mathlib.Decide.{ℕ_discrete}
use lib.Dec.{ltb}
use lib.ListN.{length}
use borrow.Author.Tests.{eqb-true, ltb-true, ltb-false, leb-true, le-ltb}
use Rattle.words.specs.Choice.{pick, pick_false}
use Rattle.words.proofs.Taken.{first_taken, both_hold, second_holds}
use Rattle.meaning.specs.Tree.{node_at, nodes}
use Rattle.meaning.specs.Kinds.{columns}
use Rattle.meaning.specs.declared.Part.TheVariants.{Atom}
use Rattle.meaning.specs.Answers.{formed}
use Rattle.meaning.specs.declared.refusal.Refusal.{Refusal}
use Rattle.meaning.specs.declared.refusal.Refusal.TheVariants.{NotOverAnAtom}
use Rattle.std.specs.Prelude.{Result, Ok, Err}
use Rattle.meaning.proofs.Formed.{each_passes, a_formed_table}
use Rattle.recording.specs.Refusals.{over_an_atom, judged_tree, in_the_row, all_in_the_row, ticks_of, good_rows, room_enough, judged_rows, judged}
use Rattle.recording.specs.Matchable.{Matchable}
use Rattle.recording.proofs.Judging.{a_good_tree, GoodRows, rows_are_good}

-- A refusal is another answer than so many ticks.
refused_is_not_ticks : {refusal : Refusal} {ticks : ℕ} → Err refusal ≡ Ok ticks → ⊥
refused_is_not_ticks e = let z : ◌≡◌ {A = ℕ} 0 1 = cc in omega arith

-- Two equal answers of ticks are of the same number.
same_ticks : {n m : ℕ} → ◌≡◌ {A = Result ℕ Refusal} (Ok n) (Ok m) → n ≡ m
same_ticks e = cc

-- A node of kind 4 or 5 that passed 6 stands over an atom.
stands_over_an_atom : (t : List ℕ) (n : ℕ) → over_an_atom t n ≡ true → 4 ≤ (node_at t n).kind → (node_at t n).kind ≤ 5 → (node_at t (node_at t n).p).kind ≡ 1
unfolding over_an_atom
stands_over_an_atom t n e low high = eqb-true _ _ (sym (pick_false _ _ (le-ltb _ _ low) ∙ pick_false _ _ (le-ltb _ _ high)) ∙ e)

-- A goto that passed 6 stands over an atom, as well as a nonconsecutive repetition.
over_its_atom : (t : List ℕ) (n : ℕ) → over_an_atom t n ≡ true → ((node_at t n).kind ≡ 4) ⊎ ((node_at t n).kind ≡ 5) → (node_at t (node_at t n).p).kind ≡ 1
over_its_atom t n e (inl goto) = stands_over_an_atom t n e (omega arith) (omega arith)
over_its_atom t n e (inr nonconsec) = stands_over_an_atom t n e (omega arith) (omega arith)

-- An atom of a node that is in the row stands in it.
the_atom_is_in_the_row : (t : List ℕ) (width n : ℕ) → in_the_row t width n ≡ true → (columns (node_at t n).kind).p ≡ Atom → (node_at t n).p < width
unfolding in_the_row pick
the_atom_is_in_the_row t width n e is = ltb-true _ _ (rw is at e)

-- Where all nodes are in the row, each node is.
each_in_the_row : (t : List ℕ) (width count : ℕ) → all_in_the_row t width count ≡ true → (n : ℕ) → n < count → in_the_row t width n ≡ true
unfolding all_in_the_row
each_in_the_row t width zero e n h = absurd (omega arith)
each_in_the_row t width (suc count) e n h =
    let (this, others) = both_hold (in_the_row t width count) e in
    elim (ℕ_discrete n count) [
      | yes here ↦ rw here this
      | no below ↦ each_in_the_row t width count others n (omega arith)
    ]

-- The ticks are all of the rows.
whole_ticks : (rows : List ℕ) {t : List ℕ} {width : ℕ} → GoodRows t rows width → ticks_of rows width * width ≡ length rows
whole_ticks rows {width = width} g = omega (arith, g.even, div-add-mod' (length rows) width)

-- An answer of ticks, after what was found of the tree: nothing was refused.
nothing_refused : (found : Result (Unit {0}) Refusal) (t rows : List ℕ) (width answers work : ℕ) {ticks : ℕ} → judged_rows found t rows width answers work ≡ Ok ticks
    → (found ≡ formed) × (good_rows t rows width ≡ true) × (room_enough t (ticks_of rows width) answers work ≡ true) × (ticks_of rows width ≡ ticks)
unfolding judged_rows
nothing_refused (Err refusal) t rows width answers work e = absurd (refused_is_not_ticks e)
nothing_refused (Ok passed) t rows width answers work e =
    let (good, more) = first_taken (good_rows t rows width) refused_is_not_ticks e in
    let (room, same) = first_taken (room_enough t (ticks_of rows width) answers work) refused_is_not_ticks more in
    (refl, good, room, same_ticks same)

-- Room that passed 18 is enough.
the_room_is_enough : (t : List ℕ) (ticks answers work : ℕ) → room_enough t ticks answers work ≡ true → (ticks ≤ answers) × (nodes t * ((ticks + 1) * (ticks + 1)) ≤ work)
unfolding room_enough
the_room_is_enough t ticks answers work e =
    let (answered, enough) = second_holds (ltb answers ticks) e in (ltb-false _ _ answered, leb-true _ _ enough)

-- What is answered with ticks can be matched.
pub an_answer_is_matchable : (t rows : List ℕ) (width answers work : ℕ) {ticks : ℕ} → judged t rows width answers work ≡ Ok ticks
    → Matchable t rows width ticks answers work
unfolding judged
an_answer_is_matchable t rows width answers work e =
    let (found, good, room, same) = nothing_refused (judged_tree t) t rows width answers work e in
    let tree = a_good_tree t found in
    let r = rows_are_good t rows width good in
    let (answered, enough) = the_room_is_enough t _ answers work (rw same at room) in
    record {
      checked = tree.checked;
      formed = a_formed_table t tree.checked;
      few = tree.few;
      over_atoms = λ n h. over_its_atom t n (each_passes NotOverAnAtom (over_an_atom t) (nodes t) 0 formed tree.repeats n (omega arith) (omega arith));
      atoms = λ n h. the_atom_is_in_the_row t width n (each_in_the_row t width (nodes t) r.inside n h);
      wide = r.wide;
      counted = sym same;
      even = rw same at (whole_ticks rows r);
      short = rw same at r.short;
      bits = r.bits;
      answered = answered;
      enough = enough;
    }
