-- The whole answer of lowering (demand 2): a function of the tree's words, the lengths of work and output, and the first
-- register number; the public entry passes 0.
-- Example: for the words of `a ##1 b`, 16 words of work an entry and 8 of output, the answer is `listed 1 8 2`.
use Rattle.std.specs.Prelude.{Result, Ok, Err, List, ℕ, ◌+◌, ltb, length}
use Rattle.words.specs.Choice.{pick}
use Rattle.words.specs.Written.{written}
use Rattle.meaning.specs.Tree.{root}
use Rattle.meaning.specs.Root.{synth_seq_match}
use Rattle.meaning.specs.Expression.{Synth}
use Rattle.meaning.specs.Listing.{listing, deepest}
use Rattle.meaning.specs.Refusals.{table, walk_root, room_of, Found, at, nowhere, misplaced}
use Rattle.meaning.specs.Answers.{listed}
use Rattle.meaning.specs.declared.Counts.{Counts}
use Rattle.meaning.specs.declared.Listing.{Listing}
use Rattle.meaning.specs.declared.refusal.Refusal.{Refusal}
use Rattle.meaning.specs.declared.refusal.Refusal.TheVariants.{MisplacedEmpty, TooManyRegisters, OutputTooShort}

-- The assignments and the match that a tree lowers to, its registers numbered from `first` on, and their words.
unfoldable pub synth_of : List ℕ → ℕ → Synth
synth_of t first = synth_seq_match (root t) first

unfoldable pub words_of : List ℕ → ℕ → List ℕ
words_of t first = listing first (synth_of t first)

-- "more than 65,536 registers", "the output is shorter than the listing"; else "the registers, the words and the deepest stack".
unfoldable pub fits : ℕ → List ℕ → ℕ → ℕ → Result Listing Refusal
fits count ws first out =
    pick (ltb 65536 (first + count)) (Err TooManyRegisters) (pick (ltb out (length ws)) (Err OutputTooShort) (listed count (length ws) (deepest ws)))

-- "After the walk 12, 13 and 14": 12 has the lowest alternative.
unfoldable pub after_walk : Found → List ℕ → ℕ → ℕ → Result Listing Refusal
after_walk (at i) t first out = Err (MisplacedEmpty i)
after_walk nowhere t first out = fits (length (synth_of t first).stores) (words_of t first) first out

unfoldable pub after_table : Result Counts Refusal → List ℕ → ℕ → ℕ → Result Listing Refusal
after_table (Err refusal) t first out = Err refusal
after_table (Ok c) t first out = after_walk (misplaced (root t)) t first out

unfoldable pub after_nothing : Result (Unit {0}) Refusal → List ℕ → ℕ → ℕ → ℕ → Result Listing Refusal
after_nothing (Err refusal) t work out first = Err refusal
after_nothing (Ok passed) t work out first = after_table (walk_root (room_of work) (root t)) t first out

-- "First 1, then 2, then 3 .. Then comes the walk .. After the walk 12, 13 and 14."
unfoldable pub lower : List ℕ → ℕ → ℕ → ℕ → Result Listing Refusal
lower t work out first = after_nothing (table t) t work out first

-- "What was lent for output is then unchanged .. Past the words of the listing the output is unchanged on success too."
unfoldable pub output_after : Result Listing Refusal → List ℕ → ℕ → List ℕ → List ℕ
output_after (Ok listing) t first out = written out 0 (words_of t first)
output_after (Err refusal) t first out = out
