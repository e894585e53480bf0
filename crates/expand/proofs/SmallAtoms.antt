-- The atoms of an alternative's steps are below 65,536 where its node is one of a formed table: an expansion makes none of its own.
use mathlib.Core.List.{List, [], ◌∷◌}
use Prim.Native.Nat.{ℕ, zero, suc, ◌<◌}
use native.Mathlib.Omega.{arith}
use lib.ListN.{length}
use Rattle.term.specs.Steps.{term_atom, SmallAtoms}
use Rattle.meaning.specs.Tree.{tree_at, nodes}
use Rattle.meaning.specs.Alternative.{SeqAlt, rehop}
use Rattle.meaning.specs.Lowerable.{FormedTable}
use Rattle.meaning.specs.declared.SeqTerm.{SeqTerm}
use Rattle.meaning.specs.declared.SeqTerm.TheVariants.{Bool as BoolTerm, Goto, Nonconsec, ConsecAtLeast, Empty}
use Rattle.meaning.specs.declared.SeqHop.{SeqHop}
use Rattle.meaning.specs.declared.SeqStep.{SeqStep}
use Rattle.meaning.proofs.Uses.{Each}
use Rattle.meaning.proofs.Ranges.{a_formed_tree_is_ranged}
use Rattle.meaning.proofs.Bounds.{TermSmall, StepSmall, AltsSmall, expand_small}
use Rattle.expand.specs.ByNumber.{alternatives_of, nth}

-- The atom of a small term that is kept in a word is small.
small_atom : (x : SeqTerm) → TermSmall x → term_atom x < 65536
small_atom (BoolTerm a) small = small
small_atom (Goto b k) small = small
small_atom (Nonconsec b k) small = small
small_atom (ConsecAtLeast b k) small = small
small_atom Empty small = omega arith

small_steps : (ss : List SeqStep) → Each StepSmall ss → SmallAtoms ss
small_steps [] small = tt
small_steps (s ∷ ss) small = (small_atom s.term small.0, small_steps ss small.1)

-- The first step's hop may be another.
pub small_rehop : (h : SeqHop) (ss : List SeqStep) → SmallAtoms ss → SmallAtoms (rehop h ss)
small_rehop h [] small = small
small_rehop h (s ∷ ss) small = small

small_nth : (alts : List SeqAlt) (i : ℕ) → i < length alts → AltsSmall 0 alts → SmallAtoms (nth alts i).steps
unfolding nth
small_nth [] i h small = absurd (omega arith)
small_nth (y ∷ ys) zero h small = small_steps y.steps small.0.1
small_nth (y ∷ ys) (suc i) h small = small_nth ys i (omega arith) small.1

-- The i-th alternative of a node.
pub an_alternative_has_small_atoms : (t : List ℕ) (n i : ℕ) → FormedTable t → n < nodes t → i < length (alternatives_of t n)
    → SmallAtoms (nth (alternatives_of t n) i).steps
unfolding alternatives_of
an_alternative_has_small_atoms t n i formed inside h =
    small_nth (alternatives_of t n) i h (expand_small 0 (tree_at t n) (a_formed_tree_is_ranged t formed n inside))
