-- What the matcher refuses (SPECIFICATION, "Refusals"), in its order: "with 1, 2 and 3 as lowering does .. then with 6 .. then with 17, then with 18.".
-- Example: three nodes over ten ticks need 363 bytes of work; with 362 the answer is `Err LentTooShort`, 18 at 0.
use Rattle.std.specs.Prelude.{Result, Ok, Err, Bool, true, false, List, ℕ, zero, suc, ◌+◌, ◌*◌, ◌/◌, ◌%◌, eqb, ltb, leb, length}
use Rattle.words.specs.Choice.{pick}
use Rattle.meaning.specs.Tree.{node_at, nodes}
use Rattle.meaning.specs.Kinds.{columns, is_atom}
use Rattle.meaning.specs.Tick.{all_bits}
use Rattle.meaning.specs.Refusals.{lowest_failing, table}
use Rattle.meaning.specs.Answers.{formed}
use Rattle.meaning.specs.declared.refusal.Refusal.{Refusal}
use Rattle.meaning.specs.declared.refusal.Refusal.TheVariants.{Malformed, NotOverAnAtom, BadRows, LentTooShort}

-- 6: a goto or nonconsecutive repetition, kind 4 or 5, stands over an atom.
unfoldable pub over_an_atom : List ℕ → ℕ → Bool
over_an_atom tree n =
    let v = node_at tree n in pick (ltb v.kind 4) true (pick (ltb 5 v.kind) true (eqb (node_at tree v.p).kind 1))

-- The first of two checks that refuses.
unfoldable pub and_then : Result (Unit {0}) Refusal → Result (Unit {0}) Refusal → Result (Unit {0}) Refusal
and_then (Ok passed) next = next
and_then (Err refusal) next = Err refusal

-- "with 1, 2 and 3 as lowering does, and with 1 .. also where there are more than 64 nodes .. then with 6".
unfoldable pub judged_tree : List ℕ → Result (Unit {0}) Refusal
judged_tree tree =
    let repeats = lowest_failing NotOverAnAtom (over_an_atom tree) (nodes tree) 0 formed in
    pick (ltb 64 (nodes tree)) (Err (Malformed 0)) (and_then (table tree) repeats)

-- The atom or the condition of a node, which p alone may be, stands in the row.
unfoldable pub in_the_row : List ℕ → ℕ → ℕ → Bool
in_the_row tree width n = let v = node_at tree n in pick (is_atom (columns v.kind).p) (ltb v.p width) true

-- The atom or the condition of each of count nodes, "visited or not", stands in the row.
unfoldable pub all_in_the_row : List ℕ → ℕ → ℕ → Bool
all_in_the_row tree width zero = true
all_in_the_row tree width (suc count) = pick (in_the_row tree width count) (all_in_the_row tree width count) false

-- How many ticks the rows are.
abbrev pub ticks_of : List ℕ → ℕ → ℕ
ticks_of rows width = length rows / width

-- 17: "the rows' width is 0, their bytes are no multiple of it, there are more than 256 ticks, a byte is above 1, or ..".
unfoldable pub good_rows : List ℕ → List ℕ → ℕ → Bool
good_rows tree rows width =
    pick (eqb width 0)
    false
    (pick (eqb (length rows % width) 0)
    (pick (ltb 256 (ticks_of rows width)) false (pick (all_bits rows) (all_in_the_row tree width (nodes tree)) false))
    false)

-- 18: "the answers are shorter than the ticks, or work has less than nodes times (ticks + 1) squared bytes".
unfoldable pub room_enough : List ℕ → ℕ → ℕ → ℕ → Bool
room_enough tree ticks answers work = pick (ltb answers ticks) false (leb (nodes tree * ((ticks + 1) * (ticks + 1))) work)

-- The answer, after what was found of the tree: so many ticks, or a refusal, that of the tree as it was found.
unfoldable pub judged_rows : Result (Unit {0}) Refusal → List ℕ → List ℕ → ℕ → ℕ → ℕ → Result ℕ Refusal
judged_rows (Err refusal) tree rows width answers work = Err refusal
judged_rows (Ok passed) tree rows width answers work =
    pick (good_rows tree rows width)
    (pick (room_enough tree (ticks_of rows width) answers work) (Ok (ticks_of rows width)) (Err LentTooShort))
    (Err BadRows)

-- The whole answer, from the contents of tree and rows, and from the lengths of answers and work.
unfoldable pub judged : List ℕ → List ℕ → ℕ → ℕ → ℕ → Result ℕ Refusal
judged tree rows width answers work = judged_rows (judged_tree tree) tree rows width answers work
