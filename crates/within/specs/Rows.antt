-- What the passes over the rows and their pairs ask for: room in work for one alternative of seq2, a row, and one of seq1 behind it.
-- Example: for `(a ##1 b) within (c ##1 d ##1 e)` the fifteen words of seq2's steps stand in front, the ten of seq1's behind.
use Rattle.std.specs.Prelude.{ℕ, ◌+◌, ◌≤◌, ◌<◌, ◌≡◌, List, length, get_or}
use Rattle.meaning.specs.Alternative.{SeqAlt}
use Rattle.meaning.specs.Tree.{tree_at, nodes}
use Rattle.meaning.specs.Refusals.{room_of}
use Rattle.meaning.specs.Root.{window_len}
use Rattle.meaning.specs.Lowerable.{FormedTable, Walkable, Pairable}
use Rattle.outline.specs.Outline.{Known}
use Rattle.expand.specs.ByNumber.{alternatives_of, nth}
use Rattle.alternative.specs.Keeping.{Keepable, Holds, Keeps}
use Rattle.pair.specs.declared.Pair.{Pair}
use Rattle.pair.specs.Pairs.{longest_window}
use Rattle.within.specs.declared.Row.{Row}
use Rattle.within.specs.declared.Operands.{Operands}
use Rattle.within.specs.AllPairs.{fit, all_registers}

-- Both operands of a root within that the table's checks and the walk let pass with so many words of work, and whose outlines
-- are known.
pub record Paired (t o : List ℕ) (one two work : ℕ) : Type 0 where
  pub formed : FormedTable t
  pub one_inside : one < nodes t
  pub two_inside : two < nodes t
  pub one_walkable : Walkable (room_of work) (tree_at t one)
  pub two_walkable : Walkable (room_of work) (tree_at t two)
  pub one_known : Known t o one
  pub two_known : Known t o two
  pub pairs : Pairable (room_of work) (alternatives_of t one) (alternatives_of t two)

-- Both operands of such a within, whose registers, from `first` on, are small enough for words.
pub record Numberable (t o : List ℕ) (one two first work : ℕ) : Type 0 where
  pub paired : Paired t o one two work
  pub few : first + all_registers (alternatives_of t one) (alternatives_of t two) ≤ 65536

-- The windows of node n's alternatives, measured once and kept in a slice.
pub record Windows (t windows : List ℕ) (n : ℕ) : Type 0 where
  pub long : length (alternatives_of t n) ≤ length windows
  pub each : (j : ℕ) → j < length (alternatives_of t n) → get_or windows j 0 ≡ window_len (nth (alternatives_of t n) j).steps

-- The alternatives of seq1 and of seq2.
abbrev pub ones : Operands → List SeqAlt
ones w = alternatives_of w.tree.now w.one

abbrev pub twos : Operands → List SeqAlt
twos w = alternatives_of w.tree.now w.two

-- Such operands with seq1's windows, and so many words of work.
pub record Ready (w : Operands) (work : ℕ) : Type 0 where
  pub paired : Paired w.tree.now w.outline.now w.one w.two work
  pub measured : Windows w.tree.now w.windows.now w.one

-- A row: the alternative y of seq2, kept with registers from r on, and room behind it for each alternative of seq1.
pub record Rowed (w : Operands) (y : SeqAlt) (r : ℕ) (work : List ℕ) (row : Row) : Type 0 where
  pub holds : Holds work row.two y r
  pub window : row.window ≡ window_len y.steps
  pub low : row.window ≤ longest_window
  pub room : Keepable w.tree.now w.outline.now w.one row.two.end (length work)

-- The alternative y of seq1, kept behind the row's with registers from r on: their pair.
pub record Beside (y : SeqAlt) (row : Row) (r : ℕ) (before after : List ℕ) (pair : Pair) : Type 0 where
  pub keeps : Keeps y r before after row.two.end pair.one
  pub two : pair.two ≡ row.two
  pub delays : pair.delays ≡ (fit row.window y).delays
