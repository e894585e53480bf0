-- What every alternative of a tree without throughout has in common: what holds of single terms and is kept by joining. So
-- none has a guard, and none is without a step.
use mathlib.Core.Path.{◌≡◌, refl, subst⁻¹}
use mathlib.Core.Logic.{inl, inr}
use mathlib.Core.List.{List, [], ◌∷◌, ◌++◌}
use Prim.Native.Nat.{ℕ, zero, suc, ◌-◌}
use Rattle.meaning.specs.Tree.{finite, unbounded, Seq, atom, delay, consec, goto, nonconsec, throughout, within, operand, below}
use Rattle.meaning.specs.Alternative.{Guard, unguarded, and_opt, SeqAlt, single, rehop, joined, join_lefts, hops, copies, copies_from, with_empty, consec_unbounded, expand}
use Rattle.meaning.specs.declared.SeqTerm.{SeqTerm}
use Rattle.meaning.specs.declared.SeqTerm.TheVariants.{Bool as BoolTerm, Goto, Nonconsec, ConsecAtLeast, Empty}
use Rattle.meaning.specs.declared.SeqHop.{SeqHop}
use Rattle.meaning.specs.declared.SeqHop.TheVariants.{Fixed}
use Rattle.meaning.specs.declared.SeqStep.{SeqStep}
use Rattle.meaning.proofs.Acceptable.{In, Regular}
use Rattle.meaning.proofs.Members.{in_join_lefts, in_join_hops, in_copies_from, in_with_empty, over_a_boolean}

-- Every one of the alternatives.
abbrev pub Every : (SeqAlt → Type 0) → List SeqAlt → Type 0
Every P alts = (y : SeqAlt) → In y alts → P y

-- What holds of single terms, and of what is joined from two alternatives of which it holds, holds of every alternative.
module _ (P : SeqAlt → Type 0) (of_single : (x : SeqTerm) → P (single x))
    (of_joined : (h : SeqHop) (l r : SeqAlt) → P l → P r → P (joined h l r)) where
  all_single : (x : SeqTerm) → Every P (single x ∷ [])
  all_single x y (inl e) = subst⁻¹ P e (of_single x)
  all_single x y (inr m) = absurd m

  all_join_lefts : (h : SeqHop) (ls rs : List SeqAlt) → Every P ls → Every P rs → Every P (join_lefts h ls rs)
  all_join_lefts h ls rs L R y m =
      let (l, r, p, q, e) = (in_join_lefts h ls rs y).0 m in subst⁻¹ P e (of_joined h l r (L l p) (R r q))

  pub of_every_copy : (base : List SeqAlt) (c : ℕ) → Every P base → Every P (copies base c)
  of_every_copy base zero B = B
  of_every_copy base (suc c) B = all_join_lefts (Fixed 1) (copies base c) base (of_every_copy base c B) B

  all_with_empty : (m : ℕ) (alts : List SeqAlt) → Every P alts → Every P (with_empty m alts)
  all_with_empty m alts B y p = elim ((in_with_empty m alts y).0 p) [ inl e ↦ subst⁻¹ P e.0 (of_single Empty) | inr q ↦ B y q ]

  pub of_every_alternative : (s : Seq) → Regular s → Every P (expand s)
  of_every_alternative (atom n a) k = all_single (BoolTerm a)
  of_every_alternative (delay n l r m x) k =
      let L = of_every_alternative l k.0 in
      let R = of_every_alternative r k.1 in
      λ y p. let (h, i, q) = (in_join_hops (hops m x) (expand l) (expand r) y).0 p in all_join_lefts h (expand l) (expand r) L R y q
  of_every_alternative (consec n s m (finite zero)) k = all_single Empty
  of_every_alternative (consec n s m (finite (suc x))) k =
      let B = of_every_alternative s k.0 in
      all_with_empty m (copies_from (expand s) (below m) (suc x - below m))
      (λ y p. let (c, l, u, q) = (in_copies_from (expand s) (below m) (suc x - below m) y).0 p in of_every_copy (expand s) c B y q)
  of_every_alternative (consec n s m unbounded) k =
      over_a_boolean (operand s) k (consec_unbounded m) (Every P)
      (λ b. all_with_empty m (single (ConsecAtLeast b (suc (below m))) ∷ []) (all_single (ConsecAtLeast b (suc (below m)))))
  of_every_alternative (goto n s k) q =
      over_a_boolean (operand s) q.0 (λ b. single (Goto b k) ∷ []) (Every P) (λ b. all_single (Goto b k))
  of_every_alternative (nonconsec n s k) q =
      over_a_boolean (operand s) q.0 (λ b. single (Nonconsec b k) ∷ []) (Every P) (λ b. all_single (Nonconsec b k))
  of_every_alternative (throughout n c s) k = absurd k
  of_every_alternative (within n s₁ s₂) k = absurd k

-- No guard, for want of a condition.
pub no_guards : (s : Seq) → Regular s → Every (λ y. y.guard ≡ unguarded) (expand s)
no_guards = of_every_alternative (λ y. y.guard ≡ unguarded) (λ x. refl) (λ h l r p q. both l.guard r.guard p q)
  where
    both : (g h : Guard) → g ≡ unguarded → h ≡ unguarded → and_opt g h ≡ unguarded
    both g h p q = rw (p, q) refl

-- There is a step.
abbrev pub HasStep : List SeqStep → Type 0
HasStep [] = ⊥
HasStep (s ∷ ss) = Unit {0}

-- A joined alternative has the steps of the left one.
pub joined_has_step : (h : SeqHop) (l r : SeqAlt) → HasStep l.steps → HasStep r.steps → HasStep (joined h l r).steps
joined_has_step h l r p q = go l.steps p
  where
    go : (ss : List SeqStep) → HasStep ss → HasStep (ss ++ rehop h r.steps)
    go [] p = absurd p
    go (s ∷ ss) p = tt

pub has_step : (s : Seq) → Regular s → Every (λ y. HasStep y.steps) (expand s)
has_step = of_every_alternative (λ (y : SeqAlt). HasStep y.steps) (λ x. tt) joined_has_step
