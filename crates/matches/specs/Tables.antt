-- The tables of a tree's nodes, which stand one behind another: that of node n begins n tables in.
-- Example: over two ticks a table has 9 bytes, and that of node 2 begins at byte 18.
use Rattle.std.specs.Prelude.{◌≡◌, ◌↔◌, ◌⊎◌, List, ℕ, ◌+◌, ◌*◌, ◌≤◌, ◌<◌, length, get_or}
use Rattle.meaning.specs.Tree.{tree_at, node_at, nodes}
use Rattle.meaning.specs.Kinds.{columns}
use Rattle.meaning.specs.Match.{Match}
use Rattle.meaning.specs.Lowerable.{FormedTable}
use Rattle.meaning.specs.declared.Part.TheVariants.{Atom}
use Rattle.meaning.specs.declared.Node.{Node}
use denote.Ref.{Bor}
use Rattle.runs.specs.Ends.{In, Kept}
use Rattle.runs.specs.declared.Table.{Table}
use Rattle.recorded_runs.specs.Recorded.{recorded, Covers}

-- Where the table of node n begins.
abbrev pub table_of : ℕ → ℕ → ℕ
table_of side n = n * (side * side)

-- The table of node n as the code has it, in the slice that all tables stand in.
pub record TableOf (table : Table) (tables : Bor (List ℕ)) (side n : ℕ) : Type 0 where
  pub bytes : table.bytes ≡ tables
  pub place : table.place ≡ table_of side n
  pub side_is : table.side ≡ side

-- The table of node n has the runs that its tree matches.
pub record Right (tree rows : List ℕ) (width side : ℕ) (tables : List ℕ) (n : ℕ) : Type 0 where
  pub runs : (i j : ℕ) → j < side → Kept tables (table_of side n) side i j ↔ Match (recorded rows width) (tree_at tree n) i j

-- Row i of the table of node n has the runs that its tree matches and that begin at i.
pub record RightRow (tree rows : List ℕ) (width side : ℕ) (tables : List ℕ) (n i : ℕ) : Type 0 where
  pub ends : (j : ℕ) → j < side → (get_or tables (table_of side n + i * side + j) 0 ≡ 1) ↔ Match (recorded rows width) (tree_at tree n) i j

-- What filling asks for: a formed tree whose atoms and conditions are recorded, whose goto and nonconsecutive nodes stand over atoms,
-- and room for a table a node.
pub record Fillable (tree rows : List ℕ) (width side room : ℕ) : Type 0 where
  pub formed : FormedTable tree
  pub few : nodes tree ≤ 64
  pub atoms : (n : ℕ) → n < nodes tree → (columns (node_at tree n).kind).p ≡ Atom → (node_at tree n).p < width
  pub over_atoms : (n : ℕ) → n < nodes tree → ((node_at tree n).kind ≡ 4) ⊎ ((node_at tree n).kind ≡ 5) → (node_at tree (node_at tree n).p).kind ≡ 1
  pub covers : Covers rows width side
  pub short : side ≤ 257
  pub enough : nodes tree * (side * side) ≤ room

-- A delay or a within: both of its words p and q are operands whose runs are read from their tables.
abbrev pub JoinsTwo : Node → Type 0
JoinsTwo v = (v.kind ≡ 2) ⊎ (v.kind ≡ 7)

-- The tables that the runs of node n are read from are right.
pub record Ready (tree rows : List ℕ) (width side : ℕ) (tables : List ℕ) (n : ℕ) : Type 0 where
  pub fillable : Fillable tree rows width side (length tables)
  pub inside : n < nodes tree
  pub left : JoinsTwo (node_at tree n) → Right tree rows width side tables (node_at tree n).p
  pub right : JoinsTwo (node_at tree n) → Right tree rows width side tables (node_at tree n).q
  pub repeated : (node_at tree n).kind ≡ 3 → Right tree rows width side tables (node_at tree n).p
  pub under : (node_at tree n).kind ≡ 6 → Right tree rows width side tables (node_at tree n).q

-- A row without ends.
abbrev pub NoEnds : List ℕ → Type 0
NoEnds row = (j : ℕ) → In row j → ⊥

-- Only bytes of one part differ: of so many from the place on.
pub record Replaced (before after : List ℕ) (place size : ℕ) : Type 0 where
  pub long : length after ≡ length before
  pub in_front : (k : ℕ) → k < place → get_or after k 0 ≡ get_or before k 0
  pub behind : (k : ℕ) → place + size ≤ k → get_or after k 0 ≡ get_or before k 0

-- Row i of the table of node n is right, and nothing else has changed.
pub record RowFilled (tree rows : List ℕ) (width side : ℕ) (before after : List ℕ) (n i : ℕ) : Type 0 where
  pub replaced : Replaced before after (table_of side n + i * side) side
  pub right : RightRow tree rows width side after n i

-- The table of node n is right, and nothing else has changed.
pub record TableFilled (tree rows : List ℕ) (width side : ℕ) (before after : List ℕ) (n : ℕ) : Type 0 where
  pub replaced : Replaced before after (table_of side n) (side * side)
  pub right : Right tree rows width side after n

-- After it the table of node n is right, and each that was right before is right still.
pub record Filled (tree rows : List ℕ) (width side : ℕ) (before after : List ℕ) (n : ℕ) : Type 0 where
  pub long : length after ≡ length before
  pub right : Right tree rows width side after n
  pub stays : (k : ℕ) → Right tree rows width side before k → Right tree rows width side after k
