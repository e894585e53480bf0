-- Runs joined over a hop, and when it does not matter which of two joins is made first.
-- Example: `(a ##1 b) ##0 c` and `a ##1 (b ##0 c)` match the same runs. With an empty run between a ##0 and another join they
-- may not, and there refusal 12 falls.
use mathlib.Core.Path.{◌≡◌, refl, subst}
use mathlib.Core.Logic.{◌↔◌, ◌⊎◌, inl, inr}
use Prim.Native.Nat.{ℕ, zero, suc, ◌+◌, ◌≤◌, ◌<◌}
use native.Mathlib.Omega.{arith}
use Rattle.meaning.specs.Match.{Runs, Join}
use Rattle.meaning.specs.declared.SeqHop.{SeqHop}
use Rattle.meaning.specs.declared.SeqHop.TheVariants.{Fixed, AtLeast}
use Rattle.meaning.proofs.Acceptable.{FixedFrom1}
use Rattle.meaning.proofs.RunLaws.{Forward, NoEmptyRun, Included, join_forward, join_no_empty, join_included, join_by_its_ticks}

-- The ticks d that a hop may take.
abbrev pub Allows : SeqHop → ℕ → Type 0
Allows (Fixed n) d = d ≡ n
Allows (AtLeast m) d = m ≤ d

-- A run of L and a run of R, joined by a ##d that the hop allows.
abbrev pub JoinOver : SeqHop → Runs → Runs → Runs
JoinOver h L R i j = (d : ℕ) × Allows h d × Join d L R i j

-- The hop leads from tick u to tick s.
abbrev pub Reaches : SeqHop → ℕ → ℕ → Type 0
Reaches h u s = (d : ℕ) × Allows h d × (s ≡ u + d)

-- A fixed hop of 1 or more takes a tick.
pub fixed_from_1_is_positive : (h : SeqHop) (d : ℕ) → FixedFrom1 h → Allows h d → 0 < d
fixed_from_1_is_positive (Fixed zero) d F q = absurd F
fixed_from_1_is_positive (Fixed (suc n)) d F q = omega arith
fixed_from_1_is_positive (AtLeast m) d F q = absurd F

module _ (h : SeqHop) (L R : Runs) where
  -- A join over a hop goes forward where its parts do; it is not empty where the left run is not.
  pub join_over_forward : Forward L → Forward R → Forward (JoinOver h L R)
  join_over_forward p q i j (d, a, x) = join_forward d L R p q i j x

  pub join_over_no_empty : NoEmptyRun L → Forward R → NoEmptyRun (JoinOver h L R)
  join_over_no_empty p q i j (d, a, x) = join_no_empty d L R p q i j x

  -- An empty run on the left does no harm where a fixed hop of 1 or more and a run with a tick follow.
  pub join_over_no_empty_right : FixedFrom1 h → Forward L → NoEmptyRun R → NoEmptyRun (JoinOver h L R)
  join_over_no_empty_right F p q i j (zero, a, x) = absurd (omega (arith, fixed_from_1_is_positive h zero F a))
  join_over_no_empty_right F p q i j (suc d, a, (k, x, y)) = omega (arith, p i k x, q (k + d) j y)

  -- What holds of the parts holds of the join.
  pub join_over_included : (L' R' : Runs) → Included L L' → Included R R' → Included (JoinOver h L R) (JoinOver h L' R')
  join_over_included L' R' f g i j (d, a, x) = (d, a, join_included d L L' R R' f g i j x)

  -- Without empty runs: the left one ends with tick u, the right one begins with a tick s that the hop reaches from u.
  pub join_over_by_its_ticks : NoEmptyRun L → NoEmptyRun R → (i j : ℕ)
      → JoinOver h L R i j ↔ ((u s : ℕ) × L i (suc u) × Reaches h u s × R s j)
  join_over_by_its_ticks p q i j = (
    λ (d, a, x). let (u, l, r) = (join_by_its_ticks d L R p q i j).0 x in (u, u + d, l, (d, a, refl), r),
    λ (u, s, l, (d, a, e), r). (d, a, (join_by_its_ticks d L R p q i j).1 (u, l, subst (λ z. R z j) e r)),
  )

  -- The choice of d, taken out of a join that stands around it.
  choice_on_the_left : (X : Runs) (e i j : ℕ) → Join e (JoinOver h L R) X i j → (d : ℕ) × Allows h d × Join e (Join d L R) X i j
  choice_on_the_left X zero i j (k, l, l', (d, a, x), y) = (d, a, (k, l, l', x, y))
  choice_on_the_left X (suc e) i j (k, (d, a, x), y) = (d, a, (k, x, y))

  choice_on_the_right : (X : Runs) (e i j : ℕ) → Join e X (JoinOver h L R) i j → (d : ℕ) × Allows h d × Join e X (Join d L R) i j
  choice_on_the_right X zero i j (k, l, l', y, (d, a, x)) = (d, a, (k, l, l', y, x))
  choice_on_the_right X (suc e) i j (k, y, (d, a, x)) = (d, a, (k, y, x))

-- Joining is associative where the runs in the middle are not empty, or where both delays are 1 or more.
pub join_is_associative : (d e : ℕ) (A B X : Runs) → Forward A → Forward X → NoEmptyRun B ⊎ ((0 < d) × (0 < e)) → (i j : ℕ)
    → Join e (Join d A B) X i j ↔ Join d A (Join e B X) i j
join_is_associative zero zero A B X p q c i j = (
  λ (m, l, l', (k, o, o', a, b), x). (k, o, omega arith, a, (m, omega arith, l', b, x)),
  λ (k, o, o', a, (m, l, l', b, x)). (m, omega arith, l', (k, o, omega arith, a, b), x),
)
join_is_associative zero (suc e) A B X p q (inl c) i j = (
  λ (m, (k, o, o', a, b), x). (k, o, omega (arith, q (m + e) j x), a, (m, b, x)),
  λ (k, o, o', a, (m, b, x)). (m, (k, o, c k m b, a, b), x),
)
join_is_associative zero (suc e) A B X p q (inr c) i j = absurd (omega arith)
join_is_associative (suc d) zero A B X p q (inl c) i j = (
  λ (m, l, l', (k, a, b), x). (k, a, (m, omega (arith, c (k + d) (suc m) b), l', b, x)),
  λ (k, a, (m, l, l', b, x)). (m, omega (arith, p i k a), l', (k, a, b), x),
)
join_is_associative (suc d) zero A B X p q (inr c) i j = absurd (omega arith)
join_is_associative (suc d) (suc e) A B X p q c i j =
    (λ (m, (k, a, b), x). (k, a, (m, b, x)), λ (k, a, (m, b, x)). (m, (k, a, b), x))

-- Joins over hops are associative.
pub join_over_is_associative : (h g : SeqHop) (A B X : Runs) → Forward A → Forward X
    → NoEmptyRun B ⊎ (FixedFrom1 h × FixedFrom1 g) → (i j : ℕ)
    → JoinOver g (JoinOver h A B) X i j ↔ JoinOver h A (JoinOver g B X) i j
join_over_is_associative h g A B X p q c i j = (outward, inward)
  where
    positive : (d e : ℕ) → Allows h d → Allows g e → NoEmptyRun B ⊎ ((0 < d) × (0 < e))
    positive d e a a' =
        elim c [ inl w ↦ inl w | inr w ↦ inr (fixed_from_1_is_positive h d w.0 a, fixed_from_1_is_positive g e w.1 a') ]

    outward : JoinOver g (JoinOver h A B) X i j → JoinOver h A (JoinOver g B X) i j
    outward (e, a', y) =
        let (d, a, z) = choice_on_the_left h A B X e i j y in
        let w = (join_is_associative d e A B X p q (positive d e a a') i j).0 z in
        (d, a, join_included d A A (Join e B X) (JoinOver g B X) (λ i j v. v) (λ i j v. (e, a', v)) i j w)

    inward : JoinOver h A (JoinOver g B X) i j → JoinOver g (JoinOver h A B) X i j
    inward (d, a, y) =
        let (e, a', z) = choice_on_the_right g B X A d i j y in
        let w = (join_is_associative d e A B X p q (positive d e a a') i j).1 z in
        (e, a', join_included e (Join d A B) (JoinOver h A B) X X (λ i j v. (d, a, v)) (λ i j v. v) i j w)
