-- What every alternative of every tree has: shown once for one term, for a join and for a guard, it holds of all.
use mathlib.Core.List.{List, [], ◌∷◌}
use Prim.Native.Nat.{ℕ, zero, suc, ◌-◌, ◌<◌}
use native.Mathlib.Omega.{arith}
use lib.ListN.{length, length-append}
use Rattle.meaning.specs.declared.SeqTerm.{SeqTerm}
use Rattle.meaning.specs.declared.SeqTerm.TheVariants.{Bool as BoolTerm, Goto, Nonconsec, ConsecAtLeast, Empty}
use Rattle.meaning.specs.declared.SeqHop.{SeqHop}
use Rattle.meaning.specs.declared.SeqHop.TheVariants.{Fixed}
use Rattle.meaning.specs.Tree.{finite, unbounded, Seq, atom, delay, consec, goto, nonconsec, throughout, within, Operand, boolean, other, operand, below}
use Rattle.meaning.specs.Expression.{a·, any}
use Rattle.meaning.specs.Alternative.{guard, and_opt, SeqAlt, alternative, single, rehop, joined, join_rights, join_lefts, join_hops, hops, copies, copies_from, with_empty, consec_finite, over, consec_unbounded, guard_each, expand}
use Rattle.meaning.proofs.Uses.{Each, each_append}
use Rattle.expand.specs.ByNumber.{nth}

-- The three ways in which expansion makes an alternative.
pub record Inherited (P : SeqAlt → Type 0) : Type 0 where
  pub of_single : (x : SeqTerm) → P (single x)
  pub of_joined : (h : SeqHop) (l r : SeqAlt) → P l → P r → P (joined h l r)
  pub of_guarded : (c : ℕ) (y : SeqAlt) → P y → P (alternative y.steps (and_opt y.guard (guard (any (a· c)))))

module _ {P : SeqAlt → Type 0} (I : Inherited P) where
  each_rights : (h : SeqHop) (l : SeqAlt) (rs : List SeqAlt) → P l → Each P rs → Each P (join_rights h l rs)
  each_rights h l [] p R = tt
  each_rights h l (r ∷ rs) p R = (I.of_joined h l r p R.0, each_rights h l rs p R.1)

  each_lefts : (h : SeqHop) (ls rs : List SeqAlt) → Each P ls → Each P rs → Each P (join_lefts h ls rs)
  each_lefts h [] rs L R = tt
  each_lefts h (l ∷ ls) rs L R =
      each_append P (join_rights h l rs) (join_lefts h ls rs) (each_rights h l rs L.0 R) (each_lefts h ls rs L.1 R)

  each_hops : (hs : List SeqHop) (ls rs : List SeqAlt) → Each P ls → Each P rs → Each P (join_hops hs ls rs)
  each_hops [] ls rs L R = tt
  each_hops (h ∷ hs) ls rs L R =
      each_append P (join_lefts h ls rs) (join_hops hs ls rs) (each_lefts h ls rs L R) (each_hops hs ls rs L R)

  pub each_copies : (base : List SeqAlt) (k : ℕ) → Each P base → Each P (copies base k)
  each_copies base zero B = B
  each_copies base (suc k) B = each_lefts (Fixed 1) (copies base k) base (each_copies base k B) B

  each_copies_from : (base : List SeqAlt) (k count : ℕ) → Each P base → Each P (copies_from base k count)
  each_copies_from base k zero B = tt
  each_copies_from base k (suc count) B =
      each_append P (copies base k) (copies_from base (suc k) count) (each_copies base k B) (each_copies_from base (suc k) count B)

  each_with_empty : (m : ℕ) (ys : List SeqAlt) → Each P ys → Each P (with_empty m ys)
  each_with_empty zero ys Y = (I.of_single Empty, Y)
  each_with_empty (suc m) ys Y = Y

  each_finite : (base : List SeqAlt) (m x : ℕ) → Each P base → Each P (consec_finite base m x)
  each_finite base m zero B = (I.of_single Empty, tt)
  each_finite base m (suc x) B =
      each_with_empty m (copies_from base (below m) (suc x - below m)) (each_copies_from base (below m) (suc x - below m) B)

  each_over : (x : Operand) (f : ℕ → List SeqAlt) → ((b : ℕ) → Each P (f b)) → Each P (over x f)
  each_over (boolean b) f F = F b
  each_over other f F = tt

  each_guarded : (c : ℕ) (ys : List SeqAlt) → Each P ys → Each P (guard_each c ys)
  each_guarded c [] Y = tt
  each_guarded c (y ∷ ys) Y = (I.of_guarded c y Y.0, each_guarded c ys Y.1)

  pub each_expanded : (s : Seq) → Each P (expand s)
  each_expanded (atom n a) = (I.of_single (BoolTerm a), tt)
  each_expanded (delay n l r m x) = each_hops (hops m x) (expand l) (expand r) (each_expanded l) (each_expanded r)
  each_expanded (consec n s m (finite x)) = each_finite (expand s) m x (each_expanded s)
  each_expanded (consec n s m unbounded) =
      each_over (operand s) (consec_unbounded m) (λ b. each_with_empty m _ (I.of_single (ConsecAtLeast b (suc (below m))), tt))
  each_expanded (goto n s k) = each_over (operand s) (λ b. single (Goto b k) ∷ []) (λ b. (I.of_single (Goto b k), tt))
  each_expanded (nonconsec n s k) =
      each_over (operand s) (λ b. single (Nonconsec b k) ∷ []) (λ b. (I.of_single (Nonconsec b k), tt))
  each_expanded (throughout n c s) = each_guarded c (expand s) (each_expanded s)
  each_expanded (within n s₁ s₂) = tt

  pub each_nth : (ys : List SeqAlt) (i : ℕ) → Each P ys → P (nth ys i)
  unfolding nth
  each_nth [] i Y = I.of_single Empty
  each_nth (y ∷ ys) zero Y = Y.0
  each_nth (y ∷ ys) (suc i) Y = each_nth ys i Y.1

-- No alternative is without a step.
abbrev pub HasStep : SeqAlt → Type 0
HasStep y = 0 < length y.steps

pub has_step : Inherited HasStep
has_step = record {
  of_single = λ x. omega arith;
  of_joined = λ h l r p q. omega (arith, length-append l.steps (rehop h r.steps));
  of_guarded = λ c y p. p;
}
