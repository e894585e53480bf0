-- Which numbers refusals of matching have: from 1 to 18. So a number of 0 tells of an answer.
use mathlib.Core.Path.{◌≡◌, refl}
use mathlib.Core.Bool.{Bool}
use mathlib.Core.List.{List}
use Prim.Native.Nat.{ℕ, zero, suc, ◌+◌, ◌≤◌}
use native.Mathlib.Omega.{arith}
use lib.Dec.{ltb}
use Rattle.words.specs.Choice.{pick_case}
use Rattle.meaning.specs.Tree.{nodes}
use Rattle.meaning.specs.Refusals.{lowest_failing, table}
use Rattle.meaning.specs.Lower.{after_nothing, lower}
use Rattle.std.specs.Prelude.{Result, Ok, Err}
use Rattle.meaning.specs.Answers.{number as number_of, formed}
use Rattle.meaning.specs.declared.refusal.Refusal.{Refusal}
use Rattle.meaning.specs.declared.refusal.Refusal.TheVariants.{NotOverAnAtom}
use Rattle.meaning.proofs.RefusalNumbers.{refusals_are_numbered_from_1_to_14}
use Rattle.recording.specs.Refusals.{over_an_atom, and_then, judged_tree, ticks_of, good_rows, room_enough, judged_rows, judged}

-- A number of a refusal, and answers that have no other where they refuse.
abbrev RefusalNumber : ℕ → Type 0
RefusalNumber number = (1 ≤ number) × (number ≤ 18)

abbrev TableNumbered : Result (Unit {0}) Refusal → Type 0
TableNumbered (Ok passed) = Unit {0}
TableNumbered (Err refusal) = RefusalNumber (number_of refusal)

abbrev pub Numbered : Result ℕ Refusal → Type 0
Numbered (Ok ticks) = Unit {0}
Numbered (Err refusal) = RefusalNumber (number_of refusal)

-- The refusals 1, 2 and 3 are those with which lowering refuses the same table.
not_lowered : (t : List ℕ) {refusal : Refusal} → table t ≡ Err refusal → lower t 0 0 0 ≡ Err refusal
unfolding lower after_nothing
not_lowered t e = rw e refl

table_numbered : (t : List ℕ) (found : Result (Unit {0}) Refusal) → table t ≡ found → TableNumbered found
table_numbered t (Ok passed) e = tt
table_numbered t (Err refusal) e =
    let (some, few) = rw (not_lowered t e) at (refusals_are_numbered_from_1_to_14 t 0 0 0) in (omega arith, omega arith)

-- The refusal 6 has its number.
lowest_numbered : (test : ℕ → Bool) (count n : ℕ) → TableNumbered (lowest_failing NotOverAnAtom test count n formed)
unfolding lowest_failing
lowest_numbered test zero n = tt
lowest_numbered test (suc count) n = pick_case TableNumbered (test n) (λ _. lowest_numbered test count (n + 1)) (λ _. omega arith)

and_then_numbered : (first next : Result (Unit {0}) Refusal) → TableNumbered first → TableNumbered next → TableNumbered (and_then first next)
unfolding and_then
and_then_numbered (Ok passed) next p q = q
and_then_numbered (Err refusal) next p q = p

tree_numbered : (t : List ℕ) → TableNumbered (judged_tree t)
unfolding judged_tree
tree_numbered t =
    pick_case TableNumbered (ltb 64 (nodes t)) (λ _. omega arith)
    (λ _. and_then_numbered (table t) _ (table_numbered t (table t) refl) (lowest_numbered (over_an_atom t) (nodes t) 0))

-- The refusals 17 and 18 have their numbers.
rows_numbered : (found : Result (Unit {0}) Refusal) → TableNumbered found → (t rows : List ℕ) (width answers work : ℕ) → Numbered (judged_rows found t rows width answers work)
unfolding judged_rows
rows_numbered (Err refusal) p t rows width answers work = p
rows_numbered (Ok passed) p t rows width answers work =
    pick_case Numbered (good_rows t rows width)
    (λ _. pick_case Numbered (room_enough t (ticks_of rows width) answers work) (λ _. tt) (λ _. omega arith))
    (λ _. omega arith)

-- Whatever the matcher refuses, it refuses with a number from 1 to 18.
pub refusals_are_numbered_from_1_to_18 : (t rows : List ℕ) (width answers work : ℕ) → Numbered (judged t rows width answers work)
unfolding judged
refusals_are_numbered_from_1_to_18 t rows width answers work = rows_numbered (judged_tree t) (tree_numbered t) t rows width answers work
