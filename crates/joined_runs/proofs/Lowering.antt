-- The lowest end of the runs of a table that begin at i or later is found row by row, and says which runs of another table one of them
-- lies in. It assumes nothing.
use mathlib.Core.Path.{◌≡◌, subst}
use mathlib.Core.Logic.{◌⊎◌, inl, inr, ⊎_elim, ◌↔◌}
use mathlib.Core.List.{List}
use Prim.Native.Nat.{ℕ, ◌+◌, ◌≤◌, ◌<◌}
use native.Mathlib.Omega.{arith}
use native.Mathlib.Decide.{ℕ_discrete, dec_le}
use lib.ListN.{length}
use Rattle.runs.specs.Ends.{Gains}
use Rattle.runs.specs.Tables.{RunsOf, RowOf}
use Rattle.runs.specs.declared.table.Table.{Table}
use Rattle.runs.proofs.Laws.{gains_as}
use Rattle.runs.proofs.Reaching.{Added}
use Rattle.joined_runs.specs.Joined.{Within, Lowest, EndsFrom}

-- The lowest number for P is the lowest for what says the same.
lowest_as : {P Q : ℕ → Type 0} {high r : ℕ} → ((j : ℕ) → j < high → P j ↔ Q j) → Lowest P high r → Lowest Q high r
lowest_as same w = record {
  inside = w.inside;
  holds = λ l. (same _ l).0 (w.holds l);
  none_below = λ j l q. w.none_below j l ((same j (omega (arith, w.inside))).1 q);
}

-- The lowest for Q below the lowest for P is the lowest for one of the two.
lowest_then : {P Q : ℕ → Type 0} {high end r : ℕ} → Lowest P high end → Lowest Q end r → Lowest (λ j. P j ⊎ Q j) high r
lowest_then {P} {Q} {high} {end} {r} w v = record {
  inside = omega (arith, w.inside, v.inside);
  holds = λ l. elim (dec_le (r + 1) end) [
    | yes k ↦ inr (v.holds (omega arith))
    | no k ↦ let e : end ≡ r = omega (arith, v.inside) in inl (subst P e (w.holds (omega arith)))
  ];
  none_below = λ j l. ⊎_elim (w.none_below j (omega (arith, v.inside))) (v.none_below j l);
}

-- The lowest end of the runs that begin at i or later and before n.
pub record Lowering (table : Table) (i end n : ℕ) : Type 0 where
  pub since : i ≤ n
  pub lowest : Lowest (λ j. (k : ℕ) × (k < n) × (i ≤ k) × RunsOf table k j) table.side end

module _ {table : Table} {i end n : ℕ} (w : Lowering table i end n) where
  -- The runs that begin at n may have a lower one.
  pub lowering_on : {row : List ℕ} {r : ℕ} → RowOf (RunsOf table) table.side n row → Lowest (Added row n) end r → Lowering table i r (n + 1)
  lowering_on o v = record {
    since = omega (arith, w.since);
    lowest = lowest_as
        (λ j l. (
          ⊎_elim (λ (k, p, q, e). (k, omega arith, q, e)) (λ (f, e). (n, omega arith, w.since, (o.runs j f).0 e)),
          λ (k, p, q, e). elim (ℕ_discrete k n) [
            | yes z ↦ let f : n ≤ j = omega (arith, e.0) in inr (f, (o.runs j f).1 (rw z at e))
            | no z ↦ inl (k, omega arith, q, e)
          ],
        ))
        (lowest_then w.lowest v);
  }

  -- In the end all rows were looked at that have an end below the lowest.
  pub lowering_ends : end ≤ n → Lowest (EndsFrom (RunsOf table) i) table.side end
  lowering_ends l = record {
    inside = w.lowest.inside;
    holds = λ p. let (k, q, o, e) = w.lowest.holds p in (k, o, e);
    none_below = λ j p (k, o, e). w.lowest.none_below j p (k, omega (arith, e.0), o, e);
  }

-- A run of the first table lies in the run of the second that ends at j where the lowest end is at most j.
pub ends_inside : (one two : Table) (i : ℕ) {side end : ℕ} {row before after : List ℕ} → length before ≡ one.side → side ≡ two.side
    → Lowest (EndsFrom (RunsOf one) i) one.side end → RowOf (RunsOf two) side i row → Gains before after (Added row end)
    → Gains before after (Within (RunsOf one) (RunsOf two) i)
ends_inside one two i {end = end} a z w o g =
    gains_as
    (λ j l. (
      λ (p, e). let (k, q, x) = w.holds (omega arith) in (k, end, (o.runs j (omega (arith, x.0))).0 e, q, p, x),
      λ (i', j', r, p, q, s). (
        elim (dec_le end j) [ yes h ↦ h | no h ↦ absurd (w.none_below j' (omega arith) (i', p, s)) ],
        (o.runs j (omega (arith, r.0))).1 r,
      ),
    ))
    g
