-- Alternatives: what a tree expands to (SPECIFICATION, "Alternatives"; `expand_sequence_inner` of the source).
-- Example: `a ##[1:2] b` has two, [a, b after 1] and [a, b after 2].
use Rattle.std.specs.Prelude.{List, [], ◌∷◌, ◌++◌, ℕ, zero, suc, ◌-◌}
use Rattle.meaning.specs.Tree.{Max, finite, unbounded, Seq, atom, delay, consec, goto, nonconsec, throughout, within, Operand, boolean, other, operand, below}
use Rattle.meaning.specs.Expression.{Expr, a·, any, and·}
use Rattle.meaning.specs.declared.SeqTerm.{SeqTerm}
use Rattle.meaning.specs.declared.SeqTerm.TheVariants.{Bool as BoolTerm, Goto, Nonconsec, ConsecAtLeast, Empty}
use Rattle.meaning.specs.declared.SeqHop.{SeqHop}
use Rattle.meaning.specs.declared.SeqHop.TheVariants.{Fixed, AtLeast}
use Rattle.meaning.specs.declared.SeqStep.{SeqStep}

-- The source's Option<Expr>: none, or an expression that is 1 where all conditions of the alternative hold.
pub data Guard : Type 0 where
  unguarded : Guard
  guard : Expr → Guard

-- `and_opt`. "their guards are ANDed, the left one first": an AND tree, not a list.
abbrev pub and_opt : Guard → Guard → Guard
and_opt unguarded h = h
and_opt (guard x) unguarded = guard x
and_opt (guard x) (guard y) = guard (and· x y)

-- `SeqAlt`: "a row of terms, each reached by a hop from the one before it, with or without a guard".
pub record SeqAlt : Type 0 where
  pub steps : List SeqStep
  pub guard : Guard

abbrev pub step : SeqTerm → SeqHop → SeqStep
step x h = record { term = x; hop = h }

abbrev pub alternative : List SeqStep → Guard → SeqAlt
alternative ss g = record { steps = ss; guard = g }

-- One term, without a guard; the hop of a first term is never used.
abbrev pub single : SeqTerm → SeqAlt
single x = alternative (step x (Fixed zero) ∷ []) unguarded

-- "the delay's hop takes the place of that of the right's first term"
abbrev pub rehop : SeqHop → List SeqStep → List SeqStep
rehop h [] = []
rehop h (s ∷ ss) = step s.term h ∷ ss

abbrev pub joined : SeqHop → SeqAlt → SeqAlt → SeqAlt
joined h l r = alternative (l.steps ++ rehop h r.steps) (and_opt l.guard r.guard)

-- "The hop varies slowest, then the left's alternative, then the right's"
abbrev pub join_rights : SeqHop → SeqAlt → List SeqAlt → List SeqAlt
join_rights h l [] = []
join_rights h l (r ∷ rs) = joined h l r ∷ join_rights h l rs

abbrev pub join_lefts : SeqHop → List SeqAlt → List SeqAlt → List SeqAlt
join_lefts h [] rs = []
join_lefts h (l ∷ ls) rs = join_rights h l rs ++ join_lefts h ls rs

abbrev pub join_hops : List SeqHop → List SeqAlt → List SeqAlt → List SeqAlt
join_hops [] ls rs = []
join_hops (h ∷ hs) ls rs = join_lefts h ls rs ++ join_hops hs ls rs

-- "one fixed hop for every number from min to max, or, where max is $, the single hop"
abbrev pub fixed_from : ℕ → ℕ → List SeqHop
fixed_from d zero = []
fixed_from d (suc count) = Fixed d ∷ fixed_from (suc d) count

abbrev pub hops : ℕ → Max → List SeqHop
hops m (finite x) = fixed_from m (suc x - m)
hops m unbounded = AtLeast m ∷ []

-- k + 1 copies: "Each copy but the first is reached by a fixed hop of 1, and the earlier a copy, the slower it varies".
abbrev pub copies : List SeqAlt → ℕ → List SeqAlt
copies base zero = base
copies base (suc k) = join_lefts (Fixed (suc zero)) (copies base k) base

-- k + 1 copies, then k + 2, and so on, count times.
abbrev pub copies_from : List SeqAlt → ℕ → ℕ → List SeqAlt
copies_from base k zero = []
copies_from base k (suc count) = copies base k ++ copies_from base (suc k) count

-- "if m is 0, Empty comes first"
abbrev pub with_empty : ℕ → List SeqAlt → List SeqAlt
with_empty zero alts = single Empty ∷ alts
with_empty (suc m) alts = alts

-- "[*0] (n is 0) is Empty alone .. for k from the larger of m and 1 up to n."
abbrev pub consec_finite : List SeqAlt → ℕ → ℕ → List SeqAlt
consec_finite base m zero = single Empty ∷ []
consec_finite base m (suc x) = with_empty m (copies_from base (below m) (suc x - below m))

-- A term over the operand's Boolean; over anything else there is nothing, and refusal 6 came first.
abbrev pub over : Operand → (ℕ → List SeqAlt) → List SeqAlt
over (boolean b) f = f b
over other f = []

-- "if m is 0, Empty comes first; then one run of at least the larger of m and 1."
abbrev pub consec_unbounded : ℕ → ℕ → List SeqAlt
consec_unbounded m b = with_empty m (single (ConsecAtLeast b (suc (below m))) ∷ [])

-- "the guard of each gains the condition, reduced by OR, behind what it had from inside"
abbrev pub guard_each : ℕ → List SeqAlt → List SeqAlt
guard_each c [] = []
guard_each c (y ∷ ys) = alternative y.steps (and_opt y.guard (guard (any (a· c)))) ∷ guard_each c ys

-- `expand_sequence_inner`. A within below the root has no alternatives of its own: refusal 8 came first.
abbrev pub expand : Seq → List SeqAlt
expand (atom n a) = single (BoolTerm a) ∷ []
expand (delay n l r m x) = join_hops (hops m x) (expand l) (expand r)
expand (consec n s m (finite x)) = consec_finite (expand s) m x
expand (consec n s m unbounded) = over (operand s) (consec_unbounded m)
expand (goto n s k) = over (operand s) (λ b. single (Goto b k) ∷ [])
expand (nonconsec n s k) = over (operand s) (λ b. single (Nonconsec b k) ∷ [])
expand (throughout n c s) = guard_each c (expand s)
expand (within n s₁ s₂) = []
