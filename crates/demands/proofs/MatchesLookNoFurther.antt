-- A match depends on no atom after its end: where two traces agree up to a tick, the same matches end there. So whoever stops at a
-- tick has seen all that decides which matches end at it.
use mathlib.Core.Bool.{Bool, not}
use mathlib.Core.Path.{◌≡◌, sym, subst}
use mathlib.Core.Logic.{◌↔◌}
use Prim.Native.Nat.{ℕ, zero, suc, ◌+◌, ◌≤◌, ◌<◌}
use native.Mathlib.Omega.{arith}
use lib.Dec.{T}
use Rattle.meaning.specs.Tree.{Seq, atom, delay, consec, goto, nonconsec, throughout, within, Operand, boolean, other, operand}
use Rattle.meaning.specs.Match.{Runs, Join, Times, Always, Never, UntilFirst, GotoRuns, NonconsecRuns, Over, Match}
use Rattle.meaning.proofs.RunLaws.{Forward}
use Rattle.meaning.proofs.MatchForward.{until_first_forward, nothing_over_another, match_forward}

-- Every run of R that ends by tick `end` is one of S.
abbrev IncludedUntil : ℕ → Runs → Runs → Type 0
IncludedUntil end R S = (i j : ℕ) → j ≤ end → R i j → S i j

-- A join, a repetition and a repeated operand end no sooner than their parts, so they are included until then where their parts are.
module _ (end : ℕ) where
  join_included_until : (d : ℕ) (L L' R R' : Runs) → Forward R → IncludedUntil end L L' → IncludedUntil end R R' → IncludedUntil end (Join d L R) (Join d L' R')
  join_included_until zero L L' R R' q f g i j b (k, l, l', x, y) = (k, l, l', f i (suc k) (omega arith) x, g k j b y)
  join_included_until (suc d) L L' R R' q f g i j b (k, x, y) = (k, f i k (omega (arith, q (k + d) j y)) x, g (k + d) j b y)

  times_included_until : (R R' : Runs) → Forward R → IncludedUntil end R R' → (c : ℕ) → IncludedUntil end (Times c R) (Times c R')
  times_included_until R R' q f zero i j b e = e
  times_included_until R R' q f (suc c) i j b (k, xs, x) = (k, times_included_until R R' q f c i k (omega (arith, q k j x)) xs, f k j b x)

  over_included_until : (σ τ : ℕ → ℕ → Bool) (o : Operand) (R R' : ℕ → Runs) → ((a : ℕ) → IncludedUntil end (R a) (R' a)) → IncludedUntil end (Over σ o R) (Over τ o R')
  over_included_until σ τ (boolean a) R R' f i j b x = f a i j b x
  over_included_until σ τ other R R' f i j b x = absurd (nothing_over_another σ R i j x)

-- Two traces that agree before tick `end`: what matches in one until then matches in the other.
module _ (σ τ : ℕ → ℕ → Bool) (end : ℕ) (agree : (k a : ℕ) → k < end → σ k a ≡ τ k a) where
  -- What holds at a tick before, at all ticks of a run, or at none.
  holds : (k a : ℕ) → k < end → T (σ k a) → T (τ k a)
  holds k a l = subst T (agree k a l)

  always : (c : ℕ) → IncludedUntil end (Always σ c) (Always τ c)
  always c i j b h k p q = holds k c (omega arith) (h k p q)

  never : (a : ℕ) → IncludedUntil end (Never σ a) (Never τ a)
  never a i j b h k p q = subst (λ z. T (not z)) (agree k a (omega arith)) (h k p q)

  -- Goto and nonconsecutive repetition look no further.
  until_first : (a : ℕ) → IncludedUntil end (UntilFirst σ a) (UntilFirst τ a)
  until_first a i j b (k, p, e, no-a, h) = (k, p, e, never a i k (omega arith) no-a, holds k a (omega arith) h)

  goto_runs : (a n : ℕ) → IncludedUntil end (GotoRuns σ a n) (GotoRuns τ a n)
  goto_runs a n = times_included_until end (UntilFirst σ a) (UntilFirst τ a) (until_first_forward σ a) (until_first a) n

  nonconsec_runs : (a n : ℕ) → IncludedUntil end (NonconsecRuns σ a n) (NonconsecRuns τ a n)
  nonconsec_runs a n i j b (k, x, p, no-a) = (k, goto_runs a n i k (omega arith) x, p, never a k j b no-a)

  -- Every tree matches the same up to that end.
  matches : (s : Seq) → IncludedUntil end (Match σ s) (Match τ s)
  matches (atom n a) i j b (e, h) = (e, holds i a (omega arith) h)
  matches (delay n l r m x) i j b (d, p, q, y) =
      (d, p, q, join_included_until end d (Match σ l) (Match τ l) (Match σ r) (Match τ r) (match_forward σ r) (matches l) (matches r) i j b y)
  matches (consec n s m x) i j b (c, p, q, y) = (c, p, q, times_included_until end (Match σ s) (Match τ s) (match_forward σ s) (matches s) c i j b y)
  matches (goto n s k) i j b x = over_included_until end σ τ (operand s) (λ a. GotoRuns σ a k) (λ a. GotoRuns τ a k) (λ a. goto_runs a k) i j b x
  matches (nonconsec n s k) i j b x = over_included_until end σ τ (operand s) (λ a. NonconsecRuns σ a k) (λ a. NonconsecRuns τ a k) (λ a. nonconsec_runs a k) i j b x
  matches (throughout n c s) i j b (x, h) = (matches s i j b x, always c i j b h)
  matches (within n s₁ s₂) i j b (i', j', x, p, q, y) = (i', j', matches s₂ i j b x, p, q, matches s₁ i' j' (omega arith) y)

-- Two traces that agree up to a tick: the same matches end there.
pub matches_look_no_further : (σ τ : ℕ → ℕ → Bool) (n : ℕ) → ((k a : ℕ) → k ≤ n → σ k a ≡ τ k a) → (s : Seq)
    → ((i : ℕ) × (i ≤ n) × Match σ s i (suc n)) ↔ ((i : ℕ) × (i ≤ n) × Match τ s i (suc n))
matches_look_no_further σ τ n agree s = (
  λ (i, l, m). (i, l, matches σ τ (suc n) (λ k a p. agree k a (omega arith)) s i (suc n) (omega arith) m),
  λ (i, l, m). (i, l, matches τ σ (suc n) (λ k a p. sym (agree k a (omega arith))) s i (suc n) (omega arith) m),
)
