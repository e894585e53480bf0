-- Runs that two sets have in common below a side: what is built from the ones and from the others is the same below it, since a join, a
-- repetition and a run inside another look at no tick past the end.
use mathlib.Core.Logic.{◌↔◌}
use Prim.Native.Nat.{ℕ, zero, suc, ◌+◌, ◌≤◌, ◌<◌}
use native.Mathlib.Omega.{arith}
use lib.Dec.{eqb}
use borrow.Author.Tests.{eqb-true}
use Rattle.words.specs.Choice.{pick_case}
use Rattle.meaning.specs.Tree.{Max, unlimited, max_of}
use Rattle.meaning.specs.Match.{Runs, UpTo, Join, Times, Inside}
use Rattle.meaning.proofs.RunLaws.{Forward}

-- Two kinds of runs are the same below a side where both have the same runs that end below it.
abbrev pub SameBelow : ℕ → Runs → Runs → Type 0
SameBelow side K M = (i j : ℕ) → j < side → K i j ↔ M i j

module _ (side : ℕ) (K M : Runs) (same : SameBelow side K M) (forward : Forward M) where
  -- A repetition of runs that are the same below a side is the same.
  pub times_same : (c : ℕ) → SameBelow side (Times c K) (Times c M)
  times_same zero i j h = (λ e. e, λ e. e)
  times_same (suc c) i j h = (
    λ (k, xs, x). let y = (same k j h).0 x in (k, (times_same c i k (omega (arith, forward k j y))).0 xs, y),
    λ (k, ys, y). (k, (times_same c i k (omega (arith, forward k j y))).1 ys, (same k j h).1 y),
  )

  -- A join with runs on its right that are the same below a side is the same.
  pub join_same : (d : ℕ) (L N : Runs) → SameBelow side L N → SameBelow side (Join d L K) (Join d N M)
  join_same zero L N left i j h = (
    λ (k, p, q, x, y). (k, p, q, (left i (suc k) (omega arith)).0 x, (same k j h).0 y),
    λ (k, p, q, x, y). (k, p, q, (left i (suc k) (omega arith)).1 x, (same k j h).1 y),
  )
  join_same (suc d) L N left i j h = (
    λ (k, x, y). let z = (same (k + d) j h).0 y in (k, (left i k (omega (arith, forward (k + d) j z))).0 x, z),
    λ (k, x, z). (k, (left i k (omega (arith, forward (k + d) j z))).1 x, (same (k + d) j h).1 z),
  )

-- Runs inside others are the same where both are the same below a side.
pub inside_same : (side : ℕ) (K M L N : Runs) → SameBelow side K M → SameBelow side L N → SameBelow side (Inside K L) (Inside M N)
inside_same side K M L N one two i j h = (
  λ (i', j', x, p, q, y). (i', j', (two i j h).0 x, p, q, (one i' j' (omega arith)).0 y),
  λ (i', j', x, p, q, y). (i', j', (two i j h).1 x, p, q, (one i' j' (omega arith)).1 y),
)

-- A number up to the word for a maximum is one up to the maximum.
pub up_to_the_word : (d x : ℕ) → d ≤ x → UpTo d (max_of x)
up_to_the_word d x l = pick_case (UpTo d) (eqb x unlimited) (λ e. tt) (λ e. l)

-- A number up to the maximum, lowered to the word for none where it is above, is one up to the word.
pub up_to_the_maximum : (d x : ℕ) → UpTo d (max_of x) → (e : ℕ) → e ≤ d → e ≤ unlimited → e ≤ x
up_to_the_maximum d x u e low few =
    pick_case (λ (m : Max). UpTo d m → e ≤ x) (eqb x unlimited) (λ q _. let is = eqb-true x unlimited q in omega arith) (λ q l. omega arith) u
