-- The ends of a throughout are those of the table's row up to the last end of the condition: they are added to the front of the row alone.
use mathlib.Core.Path.{◌≡◌, refl, ap, ◌∙◌}
use mathlib.Core.Logic.{inr}
use mathlib.Core.List.{List, ◌++◌}
use Prim.Native.Nat.{ℕ, ◌+◌, ◌-◌, ◌≤◌, ◌<◌}
use native.Mathlib.Decide.{dec_le}
use native.Mathlib.Omega.{arith}
use lib.ListN.{length, get_or, take, drop, get_or-append}
use lib.Seq.{length-take-le, length_front, get_or-take, get_or-drop, get_or-append-add}
use mathlib.Core.Bool.{Bool}
use Rattle.runs.specs.Ends.{Marked, Gains}
use Rattle.runs.specs.Tables.{RunsOf, RowOf}
use Rattle.runs.specs.declared.table.Table.{Table}
use Rattle.runs.proofs.Laws.{Gaining, marked_as, gains_as}
use Rattle.runs.proofs.Reaching.{Added}
use Rattle.recorded_runs.specs.Recorded.{Last, Throughout}

-- A row whose front gained ends gained them below the front's length.
front_gains : {row front : List ℕ} {P : ℕ → Type 0} (k : ℕ) → k ≤ length row → Gains (take k row) front P
    → Gaining row (front ++ drop k row) P k
front_gains {row} {front} {P} k h g = record { long = length_front row front k g.long; marked = each }
  where
    long : length front ≡ k
    long = g.long ∙ length-take-le k row h

    behind : (j : ℕ) → k ≤ j → get_or (front ++ drop k row) j 0 ≡ get_or row j 0
    behind j l =
        let e : j ≡ length front + (j - k) = omega (arith, long) in
        let f : k + (j - k) ≡ j = omega arith in
        rw (ap (λ (n : ℕ). get_or (front ++ drop k row) n 0) e, get_or-append-add front (drop k row) (j - k) 0, get_or-drop k row (j - k) 0, f) refl

    each : (j : ℕ) → j < length row → Marked (get_or row j 0) (get_or (front ++ drop k row) j 0) ((j < k) × P j)
    each j l =
        elim (dec_le k j) [
          | yes p ↦ inr (λ q. omega arith, behind j p)
          | no p ↦
              let q : j < k = omega arith in
              rw (get_or-append front (drop k row) 0 j (omega (arith, long)), ← get_or-take k row j 0 q)
              (marked_as (λ x. (q, x), λ x. x.1) (g.marked j (omega (arith, length-take-le k row h))))
        ]

-- If the front, up to the last end of the condition, gained the ends of the table's row, then the row gained those of the throughout.
pub throughout_gained : (t : Table) {σ : ℕ → ℕ → Bool} {c i last side : ℕ} (row : List ℕ) {ends front : List ℕ} → Last σ c i (length row) last
    → RowOf (RunsOf t) side i ends → Gains (take (last + 1) row) front (Added ends i) → Gains row (front ++ drop (last + 1) row) (Throughout (RunsOf t) σ c i)
throughout_gained t {last = last} row s o g =
    gains_as
    (λ j l. (
      λ (u, (f, e)). ((o.runs j f).0 e, λ k p q. s.always k p (omega arith)),
      λ (r, a). (
        elim (dec_le j last) [ yes u ↦ omega arith | no u ↦ absurd (s.longest j (omega arith) l a) ],
        (r.0, (o.runs j r.0).1 r),
      ),
    ))
    (front_gains (last + 1) (omega (arith, s.inside)) g)
