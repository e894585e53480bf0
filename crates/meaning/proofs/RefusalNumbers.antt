-- Which numbers refusals of lowering have: 1 to 14, as the specification's table lists them. So a number of 0 tells of a listing.
use mathlib.Core.Bool.{Bool}
use mathlib.Core.List.{List}
use Prim.Native.Nat.{ℕ, zero, suc, ◌+◌, ◌*◌, ◌%◌, ◌≤◌}
use native.Mathlib.Omega.{arith}
use lib.Dec.{eqb, ltb}
use lib.ListN.{length}
use Rattle.words.specs.Choice.{pick_case}
use Rattle.meaning.specs.Tree.{finite, unbounded, Seq, atom, delay, consec, goto, nonconsec, throughout, within, Rooted, a_within, another, rooted, Operand, operand, node_at, nodes, below, root}
use Rattle.meaning.specs.Alternative.{SeqAlt, expand}
use Rattle.meaning.specs.Refusals.{lowest_failing, formed_node, used_once, range_node, table, entries, plain, limited, and_then, deep_enough, is_boolean, over_boolean, walk_in, walk, limited_within, walk_rooted, walk_root, room_of, Found, at, nowhere, misplaced}
use Rattle.meaning.specs.Lower.{words_of, synth_of, fits, after_walk, after_table, after_nothing, lower}
use Rattle.std.specs.Prelude.{Result, Ok, Err}
use Rattle.meaning.specs.Answers.{number as number_of, formed}
use Rattle.meaning.specs.declared.Counts.{Counts}
use Rattle.meaning.specs.declared.Listing.{Listing}
use Rattle.meaning.specs.declared.refusal.Refusal.{Refusal}
use Rattle.meaning.specs.declared.refusal.Refusal.TheVariants.{Malformed, NotUsedOnce, OutOfOrder}

-- A number of the table, and answers that have no other where they refuse.
abbrev RefusalNumber : ℕ → Type 0
RefusalNumber number = (1 ≤ number) × (number ≤ 14)

abbrev TableNumbered : Result (Unit {0}) Refusal → Type 0
TableNumbered (Ok passed) = Unit {0}
TableNumbered (Err refusal) = RefusalNumber (number_of refusal)

abbrev WalkNumbered : Result Counts Refusal → Type 0
WalkNumbered (Ok c) = Unit {0}
WalkNumbered (Err refusal) = RefusalNumber (number_of refusal)

abbrev pub Numbered : Result Listing Refusal → Type 0
Numbered (Ok listing) = Unit {0}
Numbered (Err refusal) = RefusalNumber (number_of refusal)

-- The refusals 1, 2 and 3 have their numbers.
lowest_failing_numbered : (refusal : ℕ → Refusal) → ((n : ℕ) → RefusalNumber (number_of (refusal n))) → (test : ℕ → Bool) (count n : ℕ) (then : Result (Unit {0}) Refusal) → TableNumbered then
    → TableNumbered (lowest_failing refusal test count n then)
unfolding lowest_failing
lowest_failing_numbered refusal l test zero n then p = p
lowest_failing_numbered refusal l test (suc count) n then p =
    pick_case TableNumbered (test n) (λ _. lowest_failing_numbered refusal l test count (n + 1) then p) (λ _. l n)

table_numbered : (t : List ℕ) → TableNumbered (table t)
unfolding table
table_numbered t =
    let one : RefusalNumber 1 = omega arith in
    let ranges = lowest_failing_numbered OutOfOrder (λ n. omega arith) (λ n. range_node (node_at t n)) (nodes t) 0 formed tt in
    let once = lowest_failing_numbered NotUsedOnce (λ n. omega arith) (used_once t) (below (nodes t)) 0 _ ranges in
    let formed = lowest_failing_numbered Malformed (λ n. one) (λ n. formed_node n (node_at t n)) (nodes t) 0 _ once in
    pick_case TableNumbered (eqb (length t % 5) 0)
    (λ _. pick_case TableNumbered (eqb (length t) 0) (λ _. one) (λ _. pick_case TableNumbered (ltb 20480 (length t)) (λ _. one) (λ _. formed)))
    (λ _. one)

-- The refusals 4 to 11 have their numbers.
limited_numbered : (room n : ℕ) (alts : List SeqAlt) → WalkNumbered (limited room n alts)
unfolding limited
limited_numbered room n alts =
    pick_case WalkNumbered (ltb 256 (length alts)) (λ _. omega arith)
    (λ _. pick_case WalkNumbered (ltb room (entries alts)) (λ _. omega arith) (λ _. tt))

and_then_numbered : (under next : Result Counts Refusal) → WalkNumbered under → WalkNumbered next → WalkNumbered (and_then under next)
unfolding and_then
and_then_numbered (Ok c) next p q = q
and_then_numbered (Err refusal) next p q = p

deep_enough_numbered : (d : ℕ) (s : Seq) (answer : Result Counts Refusal) → WalkNumbered answer → WalkNumbered (deep_enough d s answer)
unfolding deep_enough
deep_enough_numbered d s answer p = pick_case WalkNumbered (ltb 256 d) (λ _. omega arith) (λ _. p)

over_boolean_numbered : (n count : ℕ) (x : Operand) (answer : Result Counts Refusal) → WalkNumbered answer → WalkNumbered (over_boolean n count x answer)
unfolding over_boolean
over_boolean_numbered n count x answer p =
    pick_case WalkNumbered (ltb 256 count) (λ _. omega arith) (λ _. pick_case WalkNumbered (is_boolean x) (λ _. p) (λ _. omega arith))

walk_in_numbered : (room d : ℕ) (s : Seq) → WalkNumbered (walk_in room d s)
unfolding walk_in
walk_in_numbered room d (atom n a) = limited_numbered room n (expand (atom n a))
walk_in_numbered room d (delay n l r m x) =
    let left = deep_enough_numbered (d + 1) l _ (walk_in_numbered room (d + 1) l) in
    let right = deep_enough_numbered (d + 1) r _ (walk_in_numbered room (d + 1) r) in
    and_then_numbered _ _ left (and_then_numbered _ _ right (limited_numbered room n (expand (delay n l r m x))))
walk_in_numbered room d (consec n s m (finite zero)) = limited_numbered room n (expand (consec n s m (finite zero)))
walk_in_numbered room d (consec n s m (finite (suc x))) =
    let under = deep_enough_numbered (d + 1) s _ (walk_in_numbered room (d + 1) s) in
    and_then_numbered _ _ under
    (pick_case WalkNumbered (ltb 256 (suc x)) (λ _. omega arith) (λ _. limited_numbered room n (expand (consec n s m (finite (suc x))))))
walk_in_numbered room d (consec n s m unbounded) = over_boolean_numbered n m (operand s) _ (limited_numbered room n (expand (consec n s m unbounded)))
walk_in_numbered room d (goto n s k) = over_boolean_numbered n k (operand s) _ (limited_numbered room n (expand (goto n s k)))
walk_in_numbered room d (nonconsec n s k) = over_boolean_numbered n k (operand s) _ (limited_numbered room n (expand (nonconsec n s k)))
walk_in_numbered room d (throughout n c s) =
    let under = deep_enough_numbered (d + 1) s _ (walk_in_numbered room (d + 1) s) in
    and_then_numbered _ _ under
    (pick_case WalkNumbered (plain (expand s)) (λ _. limited_numbered room n (expand (throughout n c s))) (λ _. omega arith))
walk_in_numbered room d (within n s₁ s₂) = omega arith

walk_numbered : (room d : ℕ) (s : Seq) → WalkNumbered (walk room d s)
unfolding walk
walk_numbered room d s = deep_enough_numbered d s _ (walk_in_numbered room d s)

limited_within_numbered : (room n : ℕ) (xs ys : List SeqAlt) → WalkNumbered (limited_within room n xs ys)
unfolding limited_within
limited_within_numbered room n xs ys =
    pick_case WalkNumbered _
    (λ _. pick_case WalkNumbered (ltb 256 (length xs * length ys)) (λ _. omega arith)
    (λ _. pick_case WalkNumbered (ltb room (entries xs + entries ys)) (λ _. omega arith) (λ _. tt)))
    (λ _. omega arith)

walk_rooted_numbered : (room : ℕ) (v : Rooted) → WalkNumbered (walk_rooted room v)
walk_rooted_numbered room (a_within n s₁ s₂) =
    and_then_numbered _ _ (walk_numbered room 1 s₁) (and_then_numbered _ _ (walk_numbered room 1 s₂) (limited_within_numbered room n (expand s₁) (expand s₂)))
walk_rooted_numbered room (another s) = walk_numbered room 1 s

walk_root_numbered : (room : ℕ) (s : Seq) → WalkNumbered (walk_root room s)
unfolding walk_root
walk_root_numbered room s = walk_rooted_numbered room (rooted s)

-- The refusals 12, 13 and 14 have their numbers.
fits_numbered : (count : ℕ) (ws : List ℕ) (first out : ℕ) → Numbered (fits count ws first out)
unfolding fits
fits_numbered count ws first out =
    pick_case Numbered (ltb 65536 (first + count)) (λ _. omega arith) (λ _. pick_case Numbered (ltb out (length ws)) (λ _. omega arith) (λ _. tt))

after_walk_numbered : (found : Found) (t : List ℕ) (first out : ℕ) → Numbered (after_walk found t first out)
unfolding after_walk
after_walk_numbered (at i) t first out = omega arith
after_walk_numbered nowhere t first out = fits_numbered (length (synth_of t first).stores) (words_of t first) first out

after_table_numbered : (walked : Result Counts Refusal) → WalkNumbered walked → (t : List ℕ) (first out : ℕ) → Numbered (after_table walked t first out)
unfolding after_table
after_table_numbered (Err refusal) p t first out = p
after_table_numbered (Ok c) p t first out = after_walk_numbered (misplaced (root t)) t first out

after_nothing_numbered : (checked : Result (Unit {0}) Refusal) → TableNumbered checked → (t : List ℕ) (work out first : ℕ) → Numbered (after_nothing checked t work out first)
unfolding after_nothing
after_nothing_numbered (Err refusal) p t work out first = p
after_nothing_numbered (Ok passed) p t work out first = after_table_numbered _ (walk_root_numbered (room_of work) (root t)) t first out

-- Whatever lowering refuses, it refuses with a number from 1 to 14.
pub refusals_are_numbered_from_1_to_14 : (t : List ℕ) (work out first : ℕ) → Numbered (lower t work out first)
unfolding lower
refusals_are_numbered_from_1_to_14 t work out first = after_nothing_numbered (table t) (table_numbered t) t work out first
