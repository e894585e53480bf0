-- How often b is seen from a tick on. A run of b[=n] is one in which b is seen n times, so b[=n] counts; one of b[->n] ends with its n-th b.
-- Example: with b at the ticks 1 and 3 alone [0, 4) is a run of b[->2], and [0, 4), [0, 5), [0, 6) are runs of b[=2].
use mathlib.Core.Path.{◌≡◌, refl, sym, subst}
use mathlib.Core.Bool.{Bool, true, false, not}
use Prim.Native.Nat.{ℕ, zero, suc, ◌+◌, ◌≤◌, ◌<◌}
use native.Mathlib.Nat.{add-zero}
use native.Mathlib.Numerals.{add-one}
use native.Mathlib.Omega.{arith}
use native.Mathlib.Decide.{dec_le, ℕ_discrete}
use lib.Dec.{T, T_not}
use mir.Val.{bool_byte}
use Rattle.meaning.specs.Match.{Never, UntilFirst, GotoRuns, NonconsecRuns}
use Rattle.meaning.proofs.RunLaws.{times_forward}

-- By a trace, for an atom b.
module _ (σ : ℕ → ℕ → Bool) (b : ℕ) where
  -- Where b never holds it holds at no tick.
  never_here : (i j k : ℕ) → Never σ b i j → i ≤ k → k < j → T (σ k b) → ⊥
  never_here i j k n l h = T_not (σ k b) (n k l h)

  -- Before any tick b is seen no times.
  pub often_none : (i : ℕ) → NonconsecRuns σ b 0 i i
  often_none i = (i, refl, omega arith, λ k l h. absurd (omega arith))

  -- With a tick at which b does not hold b is seen as often.
  often_without : (n i t : ℕ) → NonconsecRuns σ b n i t → T (not (σ t b)) → NonconsecRuns σ b n i (suc t)
  often_without n i t (k, g, l, m) h = (k, g, omega arith, at)
    where
      at : Never σ b k (suc t)
      at u p q = elim (ℕ_discrete u t) [ yes e ↦ subst (λ z. T (not (σ z b))) (sym e) h | no d ↦ m u p (omega arith) ]

  -- With a tick at which b holds a goto of one b more ends.
  pub goto_with : (n i t : ℕ) → NonconsecRuns σ b n i t → T (σ t b) → GotoRuns σ b (suc n) i (suc t)
  goto_with n i t (k, g, l, m) h = (k, g, (t, l, refl, m, h))

  -- A run of b[->n] is one of b[=n].
  pub goto_often : (n i j : ℕ) → GotoRuns σ b n i j → NonconsecRuns σ b n i j
  goto_often n i j g = (j, g, omega arith, λ k l h. absurd (omega arith))

  -- At the last tick of a goto b holds.
  pub goto_here : (n i t : ℕ) → 0 < n → GotoRuns σ b n i (suc t) → T (σ t b)
  goto_here zero i t p g = absurd (omega arith)
  goto_here (suc n) i t p (k, g, (u, l, e, _, h)) = subst (λ z. T (σ z b)) (let q : u ≡ t = omega arith in q) h

  -- With any tick b is seen once more if it holds there, and else as often.
  pub often_on : (here : Bool) (n i t : ℕ) → here ≡ σ t b → NonconsecRuns σ b n i t → NonconsecRuns σ b (n + bool_byte here) i (t + 1)
  often_on true n i t e x = rw (add-one n, add-one t) (goto_often (suc n) i (suc t) (goto_with n i t x (subst T e tt)))
  often_on false n i t e x = rw (add-zero n, add-one t) (often_without n i t x (subst (λ z. T (not z)) e tt))

  -- A run of b[=n] does not end before it begins.
  often_forward : (n i j : ℕ) → NonconsecRuns σ b n i j → i ≤ j
  often_forward n i j (k, g, l, m) = omega (arith, times_forward (UntilFirst σ b) (λ i j (k, l, e, _, _). omega arith) n i k g)

  -- A run of b[=n + 1] has a tick with its last b, before which b is seen one time less.
  pub last_of_often : (n i j : ℕ) → NonconsecRuns σ b (suc n) i j
      → (t : ℕ) × (i ≤ t) × (t < j) × T (σ t b) × NonconsecRuns σ b n i t × Never σ b (suc t) j
  last_of_often n i j (k, (m, g, (t, l, e, f, h)), l', r) =
      let s : NonconsecRuns σ b n i t = (m, g, l, f) in
      (t, often_forward n i t s, omega arith, h, s, subst (λ z. Never σ b z j) e r)

  -- In a longer run b is seen no fewer times.
  pub often_grows : (s n i t j : ℕ) → t ≤ j → NonconsecRuns σ b s i t → NonconsecRuns σ b n i j → s ≤ n
  often_grows zero n i t j l x y = omega arith
  often_grows (suc s) zero i t j l x (k, e, k≤j, r) =
      let (m, i≤m, m<t, h, _, _) = last_of_often s i t x in
      absurd (never_here k j m r (omega arith) (omega arith) h)
  often_grows (suc s) (suc n) i t j l x y =
      let (m, i≤m, m<t, h, x', _) = last_of_often s i t x in
      let (m', i≤m', m'<j, h', y', r) = last_of_often n i j y in
      elim (dec_le m m') [
        | yes p ↦ omega (arith, often_grows s n i m m' p x' y')
        | no p ↦ absurd (never_here (suc m') j m r (omega arith) (omega arith) h)
      ]
