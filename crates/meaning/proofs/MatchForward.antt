-- Two laws of all trees, accepted or not: over another operand than a Boolean goto and nonconsecutive repetition match nothing, and
-- no match ends before it begins.
use mathlib.Core.Bool.{Bool}
use Prim.Native.Nat.{ℕ}
use native.Mathlib.Omega.{arith}
use Rattle.meaning.specs.Tree.{Seq, atom, delay, consec, goto, nonconsec, throughout, within, Operand, boolean, other, operand}
use Rattle.meaning.specs.Match.{Runs, UntilFirst, GotoRuns, NonconsecRuns, Over, Match}
use Rattle.meaning.proofs.RunLaws.{Forward, times_forward, join_forward}

module _ (σ : ℕ → ℕ → Bool) where
  -- Only a Boolean can be repeated so.
  pub nothing_over_another : (R : ℕ → Runs) (i j : ℕ) → Over σ other R i j → ⊥
  nothing_over_another R i j x = x

  -- Goto and nonconsecutive repetition go forward, as the runs up to a first b do.
  pub until_first_forward : (b : ℕ) → Forward (UntilFirst σ b)
  until_first_forward b i j (k, p, e, no-b, h) = omega arith

  goto_forward : (b n : ℕ) → Forward (GotoRuns σ b n)
  goto_forward b n = times_forward (UntilFirst σ b) (until_first_forward b) n

  nonconsec_forward : (b n : ℕ) → Forward (NonconsecRuns σ b n)
  nonconsec_forward b n i j (k, x, p, no-b) = omega (arith, goto_forward b n i k x)

  -- Runs over an operand that has to be a Boolean go forward where they do over each Boolean.
  over_forward : (o : Operand) (R : ℕ → Runs) → ((b : ℕ) → Forward (R b)) → Forward (Over σ o R)
  over_forward (boolean b) R f i j x = f b i j x
  over_forward other R f i j x = absurd (nothing_over_another R i j x)

  -- The matches of every tree go forward.
  pub match_forward : (s : Seq) → Forward (Match σ s)
  match_forward (atom n a) i j (e, h) = omega arith
  match_forward (delay n l r m x) i j (d, p, q, y) = join_forward d (Match σ l) (Match σ r) (match_forward l) (match_forward r) i j y
  match_forward (consec n s m x) i j (c, p, q, y) = times_forward (Match σ s) (match_forward s) c i j y
  match_forward (goto n s k) i j x = over_forward (operand s) (λ b. GotoRuns σ b k) (λ b. goto_forward b k) i j x
  match_forward (nonconsec n s k) i j x = over_forward (operand s) (λ b. NonconsecRuns σ b k) (λ b. nonconsec_forward b k) i j x
  match_forward (throughout n c s) i j (x, h) = match_forward s i j x
  match_forward (within n s₁ s₂) i j (i', j', x, p, q, y) = match_forward s₂ i j x
