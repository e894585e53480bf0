-- Which numbers a refusal can have: 1 to 14 of a lowering, 21 to 23 of a tick. So 0, which C takes for success, is never one.
-- Read off the definitions of `meaning`, refusal by refusal; nothing is assumed.
use mathlib.Core.Path.{◌≡◌, subst}
use mathlib.Core.Bool.{Bool}
use mathlib.Core.List.{List}
use Prim.Native.Nat.{ℕ, zero, suc, ◌+◌, ◌*◌, ◌%◌, ◌≤◌}
use lib.Dec.{T, eqb, leb, ltb, leb→le}
use lib.ListN.{length}
use Rattle.words.specs.Choice.{pick, pick_case}
use Rattle.meaning.specs.Tree.{finite, unbounded, Seq, atom, delay, consec, goto, nonconsec, throughout, within, Rooted, a_within, another, rooted, Operand, operand, node_at, nodes, below, root}
use Rattle.meaning.specs.Alternative.{SeqAlt, expand}
use Rattle.meaning.specs.Refusals.{lowest_failing, formed_node, used_once, range_node, table, entries, plain, limited, and_then, deep_enough, is_boolean, over_boolean, walk_in, walk, within_fits, limited_within, walk_rooted, walk_root, room_of, Found, at, nowhere}
use Rattle.meaning.specs.Lower.{fits, after_walk, after_table, after_nothing, lower}
use Rattle.meaning.specs.Check.{check}
use Rattle.meaning.specs.Tick.{too_short, bits, tick_if, tick}
use Rattle.std.specs.Prelude.{Result, Ok, Err}
use Rattle.meaning.specs.Answers.{number as number_of, tick_number, formed}
use Rattle.meaning.specs.declared.Counts.{Counts}
use Rattle.meaning.specs.declared.Listing.{Listing}
use Rattle.meaning.specs.declared.refusal.Refusal.{Refusal}
use Rattle.meaning.specs.declared.refusal.Refusal.TheVariants.{Malformed, NotUsedOnce, OutOfOrder}
use Rattle.meaning.specs.declared.refusal.Fault.{Fault}
use Rattle.meaning.specs.declared.refusal.TickRefusal.{TickRefusal}

-- From the lowest to the highest number.
abbrev Between : ℕ → ℕ → ℕ → Type 0
Between low high number = (low ≤ number) × (number ≤ high)

-- A number that is written out is compared by computing.
refused : {low high : ℕ} (number : ℕ) → T (leb low number) → T (leb number high) → Between low high number
refused {low} {high} number l h = (leb→le low number l, leb→le number high h)

-- What is asked of an answer, of the table's checks, the walk, lowering and a tick: if it is a refusal, that its number is one of those listed.
abbrev OfTable : Result (Unit {0}) Refusal → Type 0
OfTable (Ok passed) = Unit {0}
OfTable (Err refusal) = Between 1 14 (number_of refusal)

abbrev OfWalk : Result Counts Refusal → Type 0
OfWalk (Ok c) = Unit {0}
OfWalk (Err refusal) = Between 1 14 (number_of refusal)

abbrev OfLowering : Result Listing Refusal → Type 0
OfLowering (Ok listing) = Unit {0}
OfLowering (Err refusal) = Between 1 14 (number_of refusal)

abbrev OfTick : Result ℕ TickRefusal → Type 0
OfTick (Ok bit) = Unit {0}
OfTick (Err refusal) = Between 21 23 (tick_number refusal)

-- 1 to 3, each of the lowest node.
lowest_failing_numbered : (refusal : ℕ → Refusal) (test : ℕ → Bool) (count n : ℕ) (then : Result (Unit {0}) Refusal) → ((n : ℕ) → Between 1 14 (number_of (refusal n))) → OfTable then → OfTable (lowest_failing refusal test count n then)
unfolding lowest_failing
lowest_failing_numbered refusal test zero n then r t = t
lowest_failing_numbered refusal test (suc count) n then r t =
    pick_case OfTable (test n) (λ _. lowest_failing_numbered refusal test count (n + 1) then r t) (λ _. r n)

-- 1 to 3, of the whole table.
table_numbered : (t : List ℕ) → OfTable (table t)
unfolding table
table_numbered t =
    let ranges = lowest_failing_numbered OutOfOrder (λ n. range_node (node_at t n)) (nodes t) 0 formed (λ n. refused 3 tt tt) tt in
    let once = lowest_failing_numbered NotUsedOnce (used_once t) (below (nodes t)) 0 _ (λ n. refused 2 tt tt) ranges in
    let formed = lowest_failing_numbered Malformed (λ n. formed_node n (node_at t n)) (nodes t) 0 _ (λ n. refused 1 tt tt) once in
    pick_case OfTable (eqb (length t % 5) 0)
    (λ _. pick_case OfTable (eqb (length t) 0) (λ _. refused 1 tt tt) (λ _. pick_case OfTable (ltb 20480 (length t)) (λ _. refused 1 tt tt) (λ _. formed)))
    (λ _. refused 1 tt tt)

-- 10 and 11 at a node.
limited_numbered : (room n : ℕ) (alts : List SeqAlt) → OfWalk (limited room n alts)
unfolding limited
limited_numbered room n alts =
    pick_case OfWalk (ltb 256 (length alts)) (λ _. refused 10 tt tt) (λ _. pick_case OfWalk (ltb room (entries alts)) (λ _. refused 11 tt tt) (λ _. tt))

-- A refusal that is handed up.
and_then_numbered : (under next : Result Counts Refusal) → OfWalk under → OfWalk next → OfWalk (and_then under next)
unfolding and_then
and_then_numbered (Ok c) next u x = x
and_then_numbered (Err refusal) next u x = u

-- 4.
deep_enough_numbered : (d : ℕ) (s : Seq) (answer : Result Counts Refusal) → OfWalk answer → OfWalk (deep_enough d s answer)
unfolding deep_enough
deep_enough_numbered d s answer a = pick_case OfWalk (ltb 256 d) (λ _. refused 4 tt tt) (λ _. a)

-- 5 and 6 of the kinds that stand over a Boolean.
over_boolean_numbered : (n count : ℕ) (x : Operand) (answer : Result Counts Refusal) → OfWalk answer → OfWalk (over_boolean n count x answer)
unfolding over_boolean
over_boolean_numbered n count x answer a =
    pick_case OfWalk (ltb 256 count) (λ _. refused 5 tt tt) (λ _. pick_case OfWalk (is_boolean x) (λ _. a) (λ _. refused 6 tt tt))

-- 4 to 8, 10 and 11: the walk, below a node and with it.
walk_in_numbered : (room d : ℕ) (s : Seq) → OfWalk (walk_in room d s)
unfolding walk_in
walk_in_numbered room d (atom n a) = limited_numbered room n _
walk_in_numbered room d (delay n l r m x) =
    and_then_numbered _ _ (deep_enough_numbered (d + 1) l _ (walk_in_numbered room (d + 1) l))
    (and_then_numbered _ _ (deep_enough_numbered (d + 1) r _ (walk_in_numbered room (d + 1) r)) (limited_numbered room n _))
walk_in_numbered room d (consec n s m (finite zero)) = limited_numbered room n _
walk_in_numbered room d (consec n s m (finite (suc x))) =
    and_then_numbered _ _ (deep_enough_numbered (d + 1) s _ (walk_in_numbered room (d + 1) s))
    (pick_case OfWalk (ltb 256 (suc x)) (λ _. refused 5 tt tt) (λ _. limited_numbered room n _))
walk_in_numbered room d (consec n s m unbounded) = over_boolean_numbered n m (operand s) _ (limited_numbered room n _)
walk_in_numbered room d (goto n s k) = over_boolean_numbered n k (operand s) _ (limited_numbered room n _)
walk_in_numbered room d (nonconsec n s k) = over_boolean_numbered n k (operand s) _ (limited_numbered room n _)
walk_in_numbered room d (throughout n c s) =
    and_then_numbered _ _ (deep_enough_numbered (d + 1) s _ (walk_in_numbered room (d + 1) s))
    (pick_case OfWalk (plain (expand s)) (λ _. limited_numbered room n _) (λ _. refused 7 tt tt))
walk_in_numbered room d (within n s₁ s₂) = refused 8 tt tt

walk_numbered : (room d : ℕ) (s : Seq) → OfWalk (walk room d s)
unfolding walk
walk_numbered room d s = deep_enough_numbered d s _ (walk_in_numbered room d s)

-- 9 to 11 of a root within.
limited_within_numbered : (room n : ℕ) (xs ys : List SeqAlt) → OfWalk (limited_within room n xs ys)
unfolding limited_within
limited_within_numbered room n xs ys =
    pick_case OfWalk (pick (within_fits xs) (within_fits ys) _)
    (λ _. pick_case OfWalk (ltb 256 (length xs * length ys)) (λ _. refused 10 tt tt)
    (λ _. pick_case OfWalk (ltb room (entries xs + entries ys)) (λ _. refused 11 tt tt) (λ _. tt)))
    (λ _. refused 9 tt tt)

-- 4 to 11: the walk from the root.
walk_rooted_numbered : (room : ℕ) (s : Rooted) → OfWalk (walk_rooted room s)
walk_rooted_numbered room (a_within n s₁ s₂) =
    and_then_numbered _ _ (walk_numbered room 1 s₁) (and_then_numbered _ _ (walk_numbered room 1 s₂) (limited_within_numbered room n _ _))
walk_rooted_numbered room (another s) = walk_numbered room 1 s

walk_root_numbered : (room : ℕ) (s : Seq) → OfWalk (walk_root room s)
unfolding walk_root
walk_root_numbered room s = walk_rooted_numbered room (rooted s)

-- 13 and 14.
fits_numbered : (count : ℕ) (ws : List ℕ) (first out : ℕ) → OfLowering (fits count ws first out)
unfolding fits
fits_numbered count ws first out =
    pick_case OfLowering (ltb 65536 (first + count)) (λ _. refused 13 tt tt) (λ _. pick_case OfLowering (ltb out (length ws)) (λ _. refused 14 tt tt) (λ _. tt))

-- 12, then those.
after_walk_numbered : (f : Found) (t : List ℕ) (first out : ℕ) → OfLowering (after_walk f t first out)
unfolding after_walk
after_walk_numbered (at i) t first out = refused 12 tt tt
after_walk_numbered nowhere t first out = fits_numbered _ _ first out

-- The walk's refusals, then those.
after_table_numbered : (w : Result Counts Refusal) (t : List ℕ) (first out : ℕ) → OfWalk w → OfLowering (after_table w t first out)
unfolding after_table
after_table_numbered (Err refusal) t first out w = w
after_table_numbered (Ok c) t first out w = after_walk_numbered _ t first out

-- The table's refusals, then those.
after_nothing_numbered : (a : Result (Unit {0}) Refusal) (t : List ℕ) (work out first : ℕ) → OfTable a → OfLowering (after_nothing a t work out first)
unfolding after_nothing
after_nothing_numbered (Err refusal) t work out first a = a
after_nothing_numbered (Ok passed) t work out first a = after_table_numbered _ t first out (walk_root_numbered (room_of work) (root t))

-- A refusal of lowering has a number from 1 to 14.
pub a_lowering_is_refused_with_1_to_14 : (t : List ℕ) (work out first : ℕ) {refusal : Refusal} → lower t work out first ≡ Err refusal → (1 ≤ number_of refusal) × (number_of refusal ≤ 14)
unfolding lower
a_lowering_is_refused_with_1_to_14 t work out first e = subst OfLowering e (after_nothing_numbered (table t) t work out first (table_numbered t))

-- 21, by the check's answer; then 22 and 23.
tick_if_numbered : (c : Result (Unit {0}) Fault) (ws cur atoms : List ℕ) (next stack : ℕ) → OfTick (tick_if c ws cur atoms next stack)
unfolding tick_if
tick_if_numbered (Err fault) ws cur atoms next stack = refused 21 tt tt
tick_if_numbered (Ok passed) ws cur atoms next stack =
    pick_case OfTick (too_short ws (length cur) (length atoms) next stack) (λ _. refused 22 tt tt) (λ _. pick_case OfTick (bits ws cur atoms) (λ _. tt) (λ _. refused 23 tt tt))

-- A refusal of a tick has a number from 21 to 23.
pub a_tick_is_refused_with_21_to_23 : (ws cur atoms : List ℕ) (next stack : ℕ) {refusal : TickRefusal} → tick ws cur atoms next stack ≡ Err refusal → (21 ≤ tick_number refusal) × (tick_number refusal ≤ 23)
unfolding tick
a_tick_is_refused_with_21_to_23 ws cur atoms next stack e = subst OfTick e (tick_if_numbered (check ws) ws cur atoms next stack)
