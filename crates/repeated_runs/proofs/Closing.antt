-- The ends of a row are closed under the runs of a table, one point after another.
use mathlib.Core.Path.{◌≡◌, refl, subst}
use mathlib.Core.Logic.{◌⊎◌, inl, inr, ⊎_elim, ◌↔◌}
use mathlib.Core.List.{List}
use Prim.Native.Nat.{ℕ, zero, suc, ◌+◌, ◌≤◌, ◌<◌}
use native.Mathlib.Omega.{arith}
use native.Mathlib.Decide.{ℕ_discrete}
use lib.ListN.{length, get_or}
use Rattle.meaning.specs.Match.{Runs, Times}
use Rattle.meaning.proofs.RunLaws.{Forward, times_forward}
use Rattle.runs.specs.Ends.{Gains, In}
use Rattle.runs.specs.Tables.{RunsOf, RowOf}
use Rattle.runs.specs.declared.table.Table.{Table}
use Rattle.runs.proofs.Laws.{gains_none, gains_as, gains_then, in_gained}
use Rattle.repeated_runs.specs.Repeated.{Onward}

-- Runs in a row are runs in a row of another set, where that has those up to their end.
times_until : (R S : Runs) → Forward R → (c i j : ℕ) → ((a b : ℕ) → b ≤ j → R a b → S a b) → Times c R i j → Times c S i j
times_until R S f zero i j more e = e
times_until R S f (suc c) i j more (k, xs, x) =
    (k, times_until R S f c i k (λ a b l. more a b (omega (arith, f k j x))) xs, more k j (omega arith) x)

module _ (t : Table) where
  -- The runs that a table keeps go forward.
  pub kept_forward : Forward (RunsOf t)
  kept_forward i j (p, q, e) = p

  -- The runs of the table that begin below k.
  abbrev Begun : ℕ → Runs
  Begun k i j = (i < k) × RunsOf t i j

  -- The runs of the table that begin below k go forward.
  begun_forward : (k : ℕ) → Forward (Begun k)
  begun_forward k i j (l, x) = kept_forward i j x

  -- Runs in a row that begin below k begin below k + 1.
  later : (k c i j : ℕ) → Times c (Begun k) i j → Times c (Begun (k + 1)) i j
  later k c i j = times_until (Begun k) (Begun (k + 1)) (begun_forward k) c i j (λ a b h (l, x). (omega arith, x))

  -- Runs in a row that end below k begin below k.
  earlier : (k c i j : ℕ) → j < k → Times c (Begun (k + 1)) i j → Times c (Begun k) i j
  earlier k c i j p =
      times_until (Begun (k + 1)) (Begun k) (begun_forward (k + 1)) c i j (λ a b h (l, x). (omega (arith, x.0), x))

  -- All runs of the table begin below its side.
  all_begun : (k c i j : ℕ) → t.side ≤ k → Times c (RunsOf t) i j ↔ Times c (Begun k) i j
  all_begun k c i j p = (
    times_until (RunsOf t) (Begun k) kept_forward c i j (λ a b h x. (omega (arith, x), x)),
    times_until (Begun k) (RunsOf t) (begun_forward k) c i j (λ a b h (l, x). x),
  )

  -- Where some end at k, so do some that begin below k: those that begin at k are empty.
  arrived : (k c i : ℕ) → Times c (Begun (k + 1)) i k → (d : ℕ) × Times d (Begun k) i k
  arrived k zero i e = (zero, e)
  arrived k (suc c) i (m, xs, (l, x)) =
      elim (ℕ_discrete m k) [
        | yes e ↦ arrived k c i (subst (Times c (Begun (k + 1)) i) e xs)
        | no n ↦ (suc c, (m, earlier k c i m (omega arith) xs, (omega arith, x)))
      ]

-- The ends that are reached by runs that begin below k were added.
pub record Closing (t : Table) (first : ℕ) (before after : List ℕ) (k : ℕ) : Type 0 where
  pub since : first ≤ k
  pub gained : Gains before after (Onward (Begun t k) before first)

-- At first no ends were added.
pub closing_begins : (t : Table) (first : ℕ) (row : List ℕ) → Closing t first row row first
closing_begins t first row = record {
  since = omega arith;
  gained = gains_none row _ (λ j h (m, c, p, o, (k, xs, (l, x))).
      omega (arith, times_forward _ (begun_forward t first) c m k xs));
}

module _ {t : Table} {first : ℕ} {before after : List ℕ} {k : ℕ} (C : Closing t first before after k) where
  -- The ends that are reached by runs that begin below n.
  abbrev Below : ℕ → ℕ → Type 0
  Below n = Onward (Begun t n) before first

  -- What is reached by runs that begin below this point is reached by such that begin below the next.
  still : (j : ℕ) → Below k j → Below (k + 1) j
  still j (m, c, p, o, xs) = (m, c, p, o, later t k (suc c) m j xs)

  module _ (l : k < length before) where
    -- The point is in the row where it was, or where runs that begin below it end there.
    point : In after k ↔ (In before k ⊎ Below k k)
    point = in_gained C.gained k l

    -- From a point of the row a run of the table reaches its end.
    onto : (j : ℕ) → In after k → RunsOf t k j → Below (k + 1) j
    onto j e x =
        ⊎_elim
        (λ o. (k, 0, C.since, o, (k, refl, (omega arith, x))))
        (λ (m, c, p, o, xs). (m, suc c, p, o, (k, later t k (suc c) m k xs, (omega arith, x))))
        (point.0 e)

    -- What is reached by runs that begin below the next point was so before, or by a run from this point, which is in the row.
    before_or_here : (j : ℕ) → Below (k + 1) j → Below k j ⊎ (In after k × RunsOf t k j)
    before_or_here j (m, c, p, o, (a, xs, (q, x))) =
        elim (ℕ_discrete a k) [
          | yes e ↦ inr (
            here (arrived t k c m (subst (Times c (Begun t (k + 1)) m) e xs)),
            subst (λ a. RunsOf t a j) e x,
          )
          | no n ↦ inl (m, c, p, o, (a, earlier t k c m a (omega arith) xs, (omega arith, x)))
        ]
      where
        here : (d : ℕ) × Times d (Begun t k) m k → In after k
        here (zero, e) = point.1 (inl (subst (In before) e o))
        here (suc d, ys) = point.1 (inr (m, d, p, o, ys))

    -- From a point of the row the ends of the table's row are added.
    pub closing_on : {side : ℕ} {row after' : List ℕ} → get_or after k 0 ≡ 1 → RowOf (RunsOf t) side k row
        → Gains after after' (λ j. (k ≤ j) × In row j) → Closing t first before after' (k + 1)
    closing_on i o g = record {
      since = omega (arith, C.since);
      gained = gains_as
          (λ j h. (
            ⊎_elim (still j) (λ (f, e). onto j i ((o.runs j f).0 e)),
            λ w. ⊎_elim inl (λ (i, x). inr (x.0, (o.runs j x.0).1 x)) (before_or_here j w),
          ))
          (gains_then C.gained g);
    }

    -- What is no point of the row is passed by.
    pub closing_past : (get_or after k 0 ≡ 1 → ⊥) → Closing t first before after (k + 1)
    closing_past n = record {
      since = omega (arith, C.since);
      gained = gains_as (λ j h. (still j, λ w. ⊎_elim (λ v. v) (λ (i, x). absurd (n i)) (before_or_here j w))) C.gained;
    }

  -- At the end of the row all were added.
  pub closing_ends : length before ≡ t.side → length before ≤ k → Gains before after (Onward (RunsOf t) before first)
  closing_ends e l =
      gains_as
      (λ j h. (
        λ (m, c, p, o, xs). (m, c, p, o, (all_begun t k (suc c) m j (omega arith)).1 xs),
        λ (m, c, p, o, xs). (m, c, p, o, (all_begun t k (suc c) m j (omega arith)).0 xs),
      ))
      C.gained
