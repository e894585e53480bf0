-- The ends of one row of a table, and those that a table reaches from the points of a row, are added as the loops go. It assumes nothing.
use mathlib.Core.Path.{◌≡◌}
use mathlib.Core.Logic.{inl, inr, ⊎_elim}
use mathlib.Core.List.{List}
use Prim.Native.Nat.{ℕ, ◌+◌, ◌≤◌, ◌<◌}
use native.Mathlib.Omega.{arith}
use native.Mathlib.Decide.{ℕ_discrete}
use lib.ListN.{get_or}
use Rattle.meaning.specs.Match.{Runs}
use Rattle.runs.specs.Ends.{Gains, In}
use Rattle.runs.specs.Tables.{RowOf}
use Rattle.runs.proofs.Laws.{gains_as, gains_then}

-- The ends of a row, from `first` on.
abbrev pub Added : List ℕ → ℕ → ℕ → Type 0
Added from first j = (first ≤ j) × In from j

-- The ends that were reached from the points below k.
pub record Reaching (R : Runs) (from : List ℕ) (first least : ℕ) (before after : List ℕ) (k : ℕ) : Type 0 where
  pub since : first ≤ k
  pub gained : Gains before after (λ j. (m : ℕ) × (m < k) × (first ≤ m) × In from m × (m + least ≤ j) × R m j)

module _ {R : Runs} {from : List ℕ} {first least : ℕ} {before after : List ℕ} {k : ℕ}
    (r : Reaching R from first least before after k) where
  -- From a point of the row the ends of the table's row are added.
  pub reaching_on : {side : ℕ} {row after' : List ℕ} → get_or from k 0 ≡ 1 → RowOf R side k row
      → Gains after after' (Added row (k + least)) → Reaching R from first least before after' (k + 1)
  reaching_on i w g = record {
    since = omega (arith, r.since);
    gained = gains_as
        (λ j l. (
          ⊎_elim
              (λ (m, p, q, o, f, e). (m, omega arith, q, o, f, e))
              (λ (f, e). (k, omega arith, r.since, i, f, (w.runs j (omega arith)).0 e)),
          λ (m, p, q, o, f, e). elim (ℕ_discrete m k) [
            | yes z ↦ let at : k + least ≤ j = rw z at f in inr (at, (w.runs j (omega arith)).1 (rw z at e))
            | no z ↦ inl (m, omega arith, q, o, f, e)
          ],
        ))
        (gains_then r.gained g);
  }

  -- What is no point of the row is passed by.
  pub reaching_past : (get_or from k 0 ≡ 1 → ⊥) → Reaching R from first least before after (k + 1)
  reaching_past n = record {
    since = omega (arith, r.since);
    gained = gains_as
        (λ j l. (
          λ (m, p, q, o, f, e). (m, omega arith, q, o, f, e),
          λ (m, p, q, o, f, e). elim (ℕ_discrete m k) [ yes z ↦ absurd (n (rw z at o)) | no z ↦ (m, omega arith, q, o, f, e) ],
        ))
        r.gained;
  }
