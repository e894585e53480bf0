-- Where the right operand of a delay may begin is added as the loop goes: a stretch after each run of the left. It assumes nothing.
use mathlib.Core.Path.{◌≡◌}
use mathlib.Core.Logic.{inl, inr, ⊎_elim}
use mathlib.Core.List.{List}
use Prim.Native.Nat.{ℕ, suc, ◌+◌, ◌-◌, ◌≤◌, ◌<◌, min as lesser}
use native.Mathlib.Omega.{arith}
use native.Mathlib.Decide.{ℕ_discrete}
use lib.ListN.{length, get_or}
use Rattle.runs.specs.Ends.{Gains}
use Rattle.runs.specs.Tables.{RunsOf, RowOf}
use Rattle.runs.specs.declared.table.Table.{Table}
use Rattle.runs.proofs.Laws.{gains_as, gains_then}

-- The ends from `low` on, below `high`.
abbrev pub Stretch : ℕ → ℕ → ℕ → Type 0
Stretch low high j = (low ≤ j) × (j < high)

-- Where the right operand may begin after the runs of the left that end before n was added.
pub record Leading (left : Table) (min max i : ℕ) (before after : List ℕ) (n : ℕ) : Type 0 where
  pub since : i ≤ n
  pub gained : Gains before after
      (λ s. (k : ℕ) × (d : ℕ) × (k < n) × (min ≤ suc d) × (suc d ≤ max) × RunsOf left i k × (s ≡ k + d))

module _ {left : Table} {min max i : ℕ} {before after : List ℕ} {n : ℕ} (a : Leading left min max i before after n) where
  module _ {side : ℕ} {row : List ℕ} (w : RowOf (RunsOf left) side i row) where
    -- After a run of the left that ends at n a stretch is added.
    pub leading_on : {after' : List ℕ} {free high : ℕ} → get_or row n 0 ≡ 1 → free ≡ min - 1 → high ≡ lesser (length after) (n + max)
        → Gains after after' (Stretch (n + free) high) → Leading left min max i before after' (n + 1)
    leading_on e b h g = record {
      since = omega (arith, a.since);
      gained = gains_as
          (λ s k. (
            ⊎_elim
                (λ (m, d, p, q, o, f, z). (m, d, omega arith, q, o, f, z))
                (λ (p, q). (n, s - n, omega arith, omega arith, omega arith, (w.runs n a.since).0 e, omega arith)),
            λ (m, d, p, q, o, f, z). elim (ℕ_discrete m n) [
              | yes c ↦ inr (omega arith, omega (arith, a.gained.long))
              | no c ↦ inl (m, d, omega arith, q, o, f, z)
            ],
          ))
          (gains_then a.gained g);
    }

    -- Where no run of the left ends nothing is added.
    pub leading_past : (get_or row n 0 ≡ 1 → ⊥) → Leading left min max i before after (n + 1)
    leading_past e = record {
      since = omega (arith, a.since);
      gained = gains_as
          (λ s k. (
            λ (m, d, p, q, o, f, z). (m, d, omega arith, q, o, f, z),
            λ (m, d, p, q, o, f, z). elim (ℕ_discrete m n) [
              | yes c ↦ absurd (e ((w.runs n a.since).1 (rw c at f)))
              | no c ↦ (m, d, omega arith, q, o, f, z)
            ],
          ))
          a.gained;
    }
