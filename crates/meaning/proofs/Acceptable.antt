-- Refusals 6, 7, 9 and 12 read as what they leave of a tree and of its alternatives: the premises under which lowering means
-- what the standard says. (Acceptance gives them: proofs/Accepted.antt.)
use mathlib.Core.Path.{◌≡◌}
use mathlib.Core.Logic.{◌⊎◌}
use mathlib.Core.List.{List, [], ◌∷◌}
use Prim.Native.Nat.{zero, suc, ◌≤◌}
use Rattle.meaning.specs.Tree.{finite, unbounded, Seq, atom, delay, consec, goto, nonconsec, throughout, within, Rooted, a_within, another, rooted, operand}
use Rattle.meaning.specs.Match.{UpTo}
use Rattle.meaning.specs.Lowerable.{IsBoolean}
use Rattle.meaning.specs.Demand3.{under_throughouts}
use Rattle.meaning.specs.Alternative.{Guard, unguarded, guard, SeqAlt, expand}
use Rattle.meaning.specs.declared.SeqTerm.{SeqTerm}
use Rattle.meaning.specs.declared.SeqTerm.TheVariants.{Bool as BoolTerm, Goto, Nonconsec, ConsecAtLeast, Empty}
use Rattle.meaning.specs.declared.SeqHop.{SeqHop}
use Rattle.meaning.specs.declared.SeqHop.TheVariants.{Fixed, AtLeast}
use Rattle.meaning.specs.declared.SeqStep.{SeqStep}

-- x stands in the list.
abbrev pub In : {A : Type 0} → A → List A → Type 0
In x [] = ⊥
In x (y ∷ ys) = (x ≡ y) ⊎ In x ys

-- The terms and hops that the refusals tell apart.
abbrev pub IsBool : SeqTerm → Type 0
IsBool (BoolTerm a) = Unit {0}
IsBool (Goto b k) = ⊥
IsBool (Nonconsec b k) = ⊥
IsBool (ConsecAtLeast b k) = ⊥
IsBool Empty = ⊥

abbrev pub IsEmpty : SeqTerm → Type 0
IsEmpty (BoolTerm a) = ⊥
IsEmpty (Goto b k) = ⊥
IsEmpty (Nonconsec b k) = ⊥
IsEmpty (ConsecAtLeast b k) = ⊥
IsEmpty Empty = Unit {0}

abbrev pub NotEmpty : SeqTerm → Type 0
NotEmpty (BoolTerm a) = Unit {0}
NotEmpty (Goto b k) = Unit {0}
NotEmpty (Nonconsec b k) = Unit {0}
NotEmpty (ConsecAtLeast b k) = Unit {0}
NotEmpty Empty = ⊥

abbrev pub IsFixed : SeqHop → Type 0
IsFixed (Fixed d) = Unit {0}
IsFixed (AtLeast m) = ⊥

abbrev pub FixedFrom1 : SeqHop → Type 0
FixedFrom1 (Fixed zero) = ⊥
FixedFrom1 (Fixed (suc d)) = Unit {0}
FixedFrom1 (AtLeast m) = ⊥

-- Bool terms and fixed hops alone.
abbrev pub Plain : List SeqStep → Type 0
Plain [] = Unit {0}
Plain (s ∷ ss) = IsBool s.term × IsFixed s.hop × Plain ss

-- The hops around an Empty are fixed, from 1; p is the term before.
abbrev pub EmptiesFit : SeqTerm → List SeqStep → Type 0
EmptiesFit p [] = Unit {0}
EmptiesFit p (s ∷ ss) = (IsEmpty p → FixedFrom1 s.hop) × (IsEmpty s.term → FixedFrom1 s.hop) × EmptiesFit s.term ss

-- 7: a guard stands over Bool terms and fixed hops alone.
abbrev pub Rule7 : Guard → List SeqStep → Type 0
Rule7 unguarded ss = Unit {0}
Rule7 (guard x) ss = Plain ss

-- 12: no leading Empty, and the others fit.
abbrev pub Rule12 : List SeqStep → Type 0
Rule12 [] = ⊥
Rule12 (s ∷ ss) = NotEmpty s.term × EmptiesFit s.term ss

-- 9, of an operand of a root within.
abbrev pub Rule9 : List SeqStep → Type 0
Rule9 [] = ⊥
Rule9 (s ∷ ss) = IsBool s.term × Plain ss

-- The rules 7 and 12 of every alternative.
abbrev pub Rules7And12 : List SeqAlt → Type 0
Rules7And12 alts = (y : SeqAlt) → In y alts → Rule7 y.guard y.steps × Rule12 y.steps

abbrev pub Rules9 : List SeqAlt → Type 0
Rules9 alts = (y : SeqAlt) → In y alts → Rule9 y.steps

-- 3, 6 and 8 of a tree without throughout; the operand of [*0] is not looked at.
abbrev pub Regular : Seq → Type 0
Regular (atom n a) = Unit {0}
Regular (delay n l r m x) = Regular l × Regular r × UpTo m x
Regular (consec n s m (finite zero)) = m ≤ 0
Regular (consec n s m (finite (suc x))) = Regular s × (m ≤ suc x)
Regular (consec n s m unbounded) = IsBoolean (operand s)
Regular (goto n s k) = IsBoolean (operand s) × (1 ≤ k)
Regular (nonconsec n s k) = IsBoolean (operand s) × (1 ≤ k)
Regular (throughout n c s) = ⊥
Regular (within n s₁ s₂) = ⊥

-- A chain of throughouts over a regular tree.
abbrev pub RegularChain : Seq → Type 0
RegularChain s = Regular (under_throughouts s)

-- A whole tree, whose root may be a within.
abbrev pub AcceptableRooted : Rooted → Type 0
AcceptableRooted (a_within n x y) = Regular x × Regular y × Rules9 (expand x) × Rules9 (expand y)
AcceptableRooted (another s) = RegularChain s × Rules7And12 (expand s)

abbrev pub Acceptable : Seq → Type 0
Acceptable s = AcceptableRooted (rooted s)
