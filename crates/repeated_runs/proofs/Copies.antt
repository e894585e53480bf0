-- How many copies of runs have to be tried from one start: no more than there are ticks and one, fewer where one copy more reaches the
-- same ends, and of all counts from one on that one alone, from whose ends runs in a row reach the others.
use mathlib.Core.Path.{refl, sym, subst}
use mathlib.Core.Logic.{◌⊎◌, inl, inr, ⊎_elim, ◌↔◌}
use Prim.Native.Nat.{ℕ, zero, suc, ◌+◌, ◌≤◌, ◌<◌, min as lesser}
use native.Mathlib.Omega.{arith}
use native.Mathlib.Decide.{ℕ_discrete, dec_le}
use Rattle.meaning.specs.Match.{Runs, Times}
use Rattle.meaning.proofs.RunLaws.{Forward}

-- What holds of a count, and of each later one if of the one before, holds of all from there on.
from_there_on : (P : ℕ → Type 0) (c d : ℕ) → c ≤ d → P c → ((n : ℕ) → c ≤ n → P n → P (suc n)) → P d
from_there_on P zero zero p x on = x
from_there_on P (suc c) zero p x on = absurd (omega arith)
from_there_on P c (suc d) p x on =
    elim (ℕ_discrete c (suc d)) [ yes e ↦ subst P e x | no e ↦ on d (omega arith) (from_there_on P c d (omega arith) x on) ]

module _ (R : Runs) where
  -- Some runs in a row are a lower count of them, and then the others.
  taken_apart : (a c i j : ℕ) → a ≤ c → Times c R i j → (k : ℕ) × (d : ℕ) × Times a R i k × Times d R k j
  taken_apart zero zero i j l e = (i, zero, refl, e)
  taken_apart (suc a) zero i j l e = absurd (omega arith)
  taken_apart a (suc c) i j l (m, xs, x) =
      elim (ℕ_discrete a (suc c)) [
        | yes e ↦ (j, zero, subst (λ n. Times n R i j) (sym e) (m, xs, x), refl)
        | no n ↦ let (k, d, ys, zs) = taken_apart a c i m (omega arith) xs in (k, suc d, ys, (m, zs, x))
      ]

  -- Some runs in a row and then others are not fewer.
  put_together : (a d i k j : ℕ) → Times a R i k → Times d R k j → (c : ℕ) × (a ≤ c) × Times c R i j
  put_together a zero i k j xs e = (a, omega arith, subst (Times a R i) e xs)
  put_together a (suc d) i k j xs (m, ys, y) = let (c, l, zs) = put_together a d i k m xs ys in (suc c, omega arith, (m, zs, y))

  -- All counts from one on are that one, or that one and then one run or more.
  pub that_or_more : (a i j : ℕ) → (Times a R i j ⊎ ((k : ℕ) × (d : ℕ) × Times a R i k × Times (suc d) R k j)) ↔ ((c : ℕ) × (a ≤ c) × Times c R i j)
  that_or_more a i j = (
    ⊎_elim (λ xs. (a, omega arith, xs)) (λ (k, d, xs, ys). put_together a (suc d) i k j xs ys),
    λ (c, l, xs). which (taken_apart a c i j l xs),
  )
    where
      which : (k : ℕ) × (d : ℕ) × Times a R i k × Times d R k j → Times a R i j ⊎ ((k : ℕ) × (d : ℕ) × Times a R i k × Times (suc d) R k j)
      which (k, zero, xs, e) = inl (subst (Times a R i) e xs)
      which (k, suc d, xs, ys) = inr (k, d, xs, ys)

module _ (R : Runs) (f : Forward R) where
  -- Of more runs than there are ticks one is empty, and can be left out.
  one_left_out : (c i j : ℕ) → j < i + suc c → Times (suc c) R i j → Times c R i j
  one_left_out zero i j l (k, e, x) = omega (arith, f k j x)
  one_left_out (suc c) i j l (k, xs, x) =
      elim (ℕ_discrete k j) [
        | yes e ↦ subst (Times (suc c) R i) e xs
        | no e ↦ (k, one_left_out c i k (omega (arith, f k j x)) xs, x)
      ]

  -- Among more runs than there are ticks an empty one can be put in once more.
  one_put_in : (c i j : ℕ) → j < i + c → Times c R i j → Times (suc c) R i j
  one_put_in zero i j l e = absurd (omega arith)
  one_put_in (suc c) i j l (k, xs, x) =
      elim (ℕ_discrete k j) [
        | yes e ↦ (k, (k, xs, subst (R k) (sym e) x), x)
        | no e ↦ (k, one_put_in c i k (omega (arith, f k j x)) xs, x)
      ]

  -- All counts of more runs than there are ticks reach the same.
  pub past_the_ticks : (c d i j : ℕ) → j < i + c → c ≤ d → Times c R i j ↔ Times d R i j
  past_the_ticks c d i j l p =
      from_there_on (λ n. Times c R i j ↔ Times n R i j) c d p (λ xs. xs, λ xs. xs)
      (λ n q (on, back). (λ xs. one_put_in n i j (omega arith) (on xs), λ xs. back (one_left_out n i j (omega arith) xs)))

  -- A highest count that is not below a side past the end is as good as none, and the lowest one can be capped there.
  pub no_highest : (min max side i j : ℕ) → min ≤ max → side ≤ max → j < side
      → ((c : ℕ) × (lesser min side ≤ c) × Times c R i j) ↔ ((c : ℕ) × (min ≤ c) × (c ≤ max) × Times c R i j)
  no_highest min max side i j p s q = (
    λ (c, l, xs). elim (dec_le min c) [
      | yes m ↦ elim (dec_le c max) [
        | yes u ↦ (c, m, u, xs)
        | no u ↦ (max, p, omega arith, (past_the_ticks max c i j (omega arith) (omega arith)).1 xs)
      ]
      | no m ↦ (min, omega arith, p, (past_the_ticks c min i j (omega arith) (omega arith)).0 xs)
    ],
    λ (c, l, u, xs). (c, omega arith, xs),
  )

  -- Where one copy more reaches the same ends below the side, every later count does.
  pub settled : (side c i : ℕ) → ((j : ℕ) → j < side → Times c R i j ↔ Times (suc c) R i j)
      → (d : ℕ) → c ≤ d → (j : ℕ) → j < side → Times c R i j ↔ Times d R i j
  settled side c i same d p =
      from_there_on (λ n. (j : ℕ) → j < side → Times c R i j ↔ Times n R i j) c d p (λ j q. (λ xs. xs, λ xs. xs))
      (λ n p so_far j q. (
        λ xs. let (k, ys, y) = (same j q).0 xs in (k, (so_far k (omega (arith, f k j y))).0 ys, y),
        λ (k, ys, y). (same j q).1 (k, (so_far k (omega (arith, f k j y))).1 ys, y),
      ))
