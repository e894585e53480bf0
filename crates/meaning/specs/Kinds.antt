-- The specification's table of kinds (SPECIFICATION, "The tree"), and what follows from its columns: which words are formed, which name
-- an operand, which ranges are in order.
-- Example: p of a throughout, kind 6, is an atom, q an operand, and min and max are unused.
use Rattle.std.specs.Prelude.{Bool, true, false, ℕ, eqb, leb, ltb}
use Rattle.words.specs.Choice.{pick}
use Rattle.meaning.specs.Tree.{unlimited}
use Rattle.meaning.specs.declared.Part.{Part}
use Rattle.meaning.specs.declared.Part.TheVariants.{Unused, Operand, Atom}
use Rattle.meaning.specs.declared.Span.{Span}
use Rattle.meaning.specs.declared.Span.TheVariants.{Unused as NoSpan, Range, Count}
use Rattle.meaning.specs.declared.Columns.{Columns}

abbrev pub row : Part → Part → Span → Columns
row p q span = record { p = p; q = q; span = span }

-- What p, q, min and max are for each kind. A kind that is not in the table uses no word.
unfoldable pub columns : ℕ → Columns
columns kind =
    pick (eqb kind 1)
    (row Atom Unused NoSpan)
    (pick (eqb kind 2)
    (row Operand Operand Range)
    (pick (eqb kind 3)
    (row Operand Unused Range)
    (pick (eqb kind 4)
    (row Operand Unused Count)
    (pick (eqb kind 5)
    (row Operand Unused Count)
    (pick (eqb kind 6) (row Atom Operand NoSpan) (pick (eqb kind 7) (row Operand Operand NoSpan) (row Unused Unused NoSpan)))))))

abbrev pub is_known : ℕ → Bool
is_known kind = pick (leb 1 kind) (leb kind 7) false

abbrev pub is_operand : Part → Bool
is_operand Unused = false
is_operand Operand = true
is_operand Atom = false

abbrev pub is_atom : Part → Bool
is_atom Unused = false
is_atom Operand = false
is_atom Atom = true

-- What p or q of node n stays below: a word that its kind does not use is 0, an operand's number is lower than that of its node, an atom's below 65,536.
abbrev pub limit : ℕ → Part → ℕ
limit n Unused = 1
limit n Operand = n
limit n Atom = 65536

-- A word that is not used is 0, and only max may be $.
abbrev pub formed_span : Span → ℕ → ℕ → Bool
formed_span NoSpan min max = pick (eqb min 0) (eqb max 0) false
formed_span Range min max = ltb min unlimited
formed_span Count min max = ltb min unlimited

-- The min of a range is not above its max; a count is twice the same number, at least 1.
abbrev pub in_order : Span → ℕ → ℕ → Bool
in_order NoSpan min max = true
in_order Range min max = leb min max
in_order Count min max = pick (eqb min max) (ltb 0 min) false
