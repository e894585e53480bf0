-- Laws of rows that gain ends, for every kind of sequence: they gain none, one, those of two after another, or one at a time in a loop;
-- and what a row that gained ends has. They assume nothing.
use mathlib.Core.Path.{◌≡◌, refl, sym, subst, ◌∙◌}
use mathlib.Core.Logic.{◌⊎◌, inl, inr, ⊎_elim, ◌↔◌}
use mathlib.Core.List.{List}
use Prim.Native.Nat.{ℕ, ◌+◌, ◌≤◌, ◌<◌}
use native.Mathlib.Omega.{arith}
use native.Mathlib.Decide.{ℕ_discrete, dec_le}
use lib.ListN.{length, get_or, set, take, replicate, length-set, length-take, length-replicate, get_or-replicate, get_or-eq_default}
use lib.Seq.{get_or-set_same, get_or-set_other, get_or-take, ext_get_or}
use Rattle.runs.specs.Ends.{Marked, Gains, In}

-- A byte that is marked for P is marked for what says the same.
pub marked_as : {before after : ℕ} {P Q : Type 0} → P ↔ Q → Marked before after P → Marked before after Q
marked_as s (inl (p, e)) = inl (s.0 p, e)
marked_as s (inr (n, e)) = inr (λ q. n (s.1 q), e)

-- A byte that is marked for P and then for Q is marked for one of the two.
pub marked_then : {a b c : ℕ} {P Q : Type 0} → Marked a b P → Marked b c Q → Marked a c (P ⊎ Q)
marked_then (inl (p, e)) (inl (q, f)) = inl (inl p, f)
marked_then (inl (p, e)) (inr (n, f)) = inl (inl p, f ∙ e)
marked_then (inr (m, e)) (inl (q, f)) = inl (inr q, f)
marked_then (inr (m, e)) (inr (n, f)) = inr (⊎_elim m n, f ∙ e)

-- A row that gains no end is the row itself.
pub gains_none : (row : List ℕ) (P : ℕ → Type 0) → ((j : ℕ) → j < length row → P j → ⊥) → Gains row row P
gains_none row P none = record { long = refl; marked = λ j l. inr (none j l, refl) }

-- A row that gained P gained what says the same of each end below its length.
pub gains_as : {before after : List ℕ} {P Q : ℕ → Type 0} → ((j : ℕ) → j < length before → P j ↔ Q j)
    → Gains before after P → Gains before after Q
gains_as same g = record { long = g.long; marked = λ j l. marked_as (same j l) (g.marked j l) }

-- A row that gained P and then Q gained the ends of both.
pub gains_then : {a b c : List ℕ} {P Q : ℕ → Type 0} → Gains a b P → Gains b c Q → Gains a c (λ j. P j ⊎ Q j)
gains_then g h = record {
  long = h.long ∙ g.long;
  marked = λ j l. marked_then (g.marked j l) (h.marked j (omega (arith, g.long)));
}

-- A byte that is written gains its end, if P holds.
pub gains_at : (row : List ℕ) (e : ℕ) {v : ℕ} {P : Type 0} → e < length row → Marked (get_or row e 0) v P
    → Gains row (set row e v) (λ j. (j ≡ e) × P)
gains_at row e {v} {P} l m = record { long = length-set row e v; marked = each }
  where
    each : (j : ℕ) → j < length row → Marked (get_or row j 0) (get_or (set row e v) j 0) ((j ≡ e) × P)
    each j k =
        elim (ℕ_discrete j e) [
          | yes z ↦ rw (z, get_or-set_same row e v 0 l) (marked_as (λ p. (refl, p), λ q. q.1) m)
          | no z ↦ inr (λ q. z q.0, get_or-set_other row e j v 0 z)
        ]

-- A byte of 1 that is written gains its end.
pub gains_one : (row : List ℕ) (e : ℕ) → e < length row → Gains row (set row e 1) (λ j. j ≡ e)
gains_one row e l = gains_as (λ j k. (λ q. q.0, λ z. (z, tt))) (gains_at row e {P = Unit {0}} l (inl (tt, refl)))

-- The ends below j were gained, those from j on are as they were.
abbrev pub Gaining : List ℕ → List ℕ → (ℕ → Type 0) → ℕ → Type 0
Gaining before after P j = Gains before after (λ m. (m < j) × P m)

-- Nothing is gained yet where no end is below the first that is looked at.
pub gaining_begins : (row : List ℕ) (P : ℕ → Type 0) (j : ℕ) → ((m : ℕ) → P m → j ≤ m) → Gaining row row P j
gaining_begins row P j from = gains_none row _ (λ m l (k, p). omega (arith, from m p))

-- One byte more is written.
pub gaining_on : {before after : List ℕ} {P : ℕ → Type 0} {j v : ℕ} → Gaining before after P j → j < length after
    → Marked (get_or after j 0) v (P j) → Gaining before (set after j v) P (j + 1)
gaining_on {after = after} {P} {j} g l m =
    gains_as
    (λ k h. (
      ⊎_elim (λ (i, p). (omega arith, p)) (λ (e, p). (omega arith, subst P (sym e) p)),
      λ (i, p). elim (ℕ_discrete k j) [ yes e ↦ inr (e, subst P e p) | no e ↦ inl (omega arith, p) ],
    ))
    (gains_then g (gains_at after j l m))

-- A byte that is no end is left.
pub gaining_past : {before after : List ℕ} {P : ℕ → Type 0} {j : ℕ} → Gaining before after P j → (P j → ⊥)
    → Gaining before after P (j + 1)
gaining_past {P = P} {j} g n =
    gains_as
    (λ k h. (
      λ (i, p). (omega arith, p),
      λ (i, p). elim (ℕ_discrete k j) [ yes e ↦ absurd (n (subst P e p)) | no e ↦ (omega arith, p) ],
    ))
    g

-- All are gained where no end is past the last that was looked at.
pub gaining_ends : {before after : List ℕ} {P : ℕ → Type 0} {j : ℕ} → ((m : ℕ) → m < length before → P m → m < j)
    → Gaining before after P j → Gains before after P
gaining_ends past g = gains_as (λ m l. (λ q. q.1, λ p. (past m l p, p))) g

-- An end of a row lies below its length.
pub in_inside : (row : List ℕ) (j : ℕ) → In row j → j < length row
in_inside row j e =
    elim (dec_le (j + 1) (length row)) [
      | yes l ↦ omega arith
      | no n ↦ absurd (omega (arith, get_or-eq_default row 0 {n = j} (omega arith)))
    ]

-- A row has the ends that it had and those that it gained.
pub in_gained : {before after : List ℕ} {P : ℕ → Type 0} → Gains before after P → (j : ℕ) → j < length before
    → In after j ↔ (In before j ⊎ P j)
in_gained {before} {after} {P} g j l = by (g.marked j l)
  where
    by : Marked (get_or before j 0) (get_or after j 0) (P j) → In after j ↔ (In before j ⊎ P j)
    by (inl (p, e)) = (λ _. inr p, λ _. e)
    by (inr (n, e)) = (λ i. inl (sym e ∙ i), ⊎_elim (λ i. e ∙ i) (λ p. absurd (n p)))

-- A row without ends.
abbrev pub Blank : List ℕ → Type 0
Blank row = (j : ℕ) → In row j → ⊥

-- Zeros have no ends.
pub zeros_blank : (n : ℕ) → Blank (replicate n 0)
zeros_blank n j e =
    elim (dec_le (j + 1) n) [
      | yes l ↦ omega (arith, get_or-replicate {A = ℕ} n j 0 0 (omega arith))
      | no k ↦ omega (arith, in_inside (replicate n 0) j e, length-replicate {A = ℕ} n 0)
    ]

-- The first so many bytes of a row without ends have none.
pub part_blank : (n : ℕ) (row : List ℕ) → Blank row → Blank (take n row)
part_blank n row b j e = b j (sym (get_or-take n row j 0 (omega (arith, in_inside (take n row) j e, length-take n row))) ∙ e)

-- A row without ends that gained P has the ends of which P holds.
pub in_gained_blank : {before after : List ℕ} {P : ℕ → Type 0} → Blank before → Gains before after P → (j : ℕ) → j < length before
    → In after j ↔ P j
in_gained_blank b g j l =
    let s = in_gained g j l in
    (λ i. ⊎_elim (λ k. absurd (b j k)) (λ p. p) (s.0 i), λ p. s.1 (inr p))

-- What a row gains leaves one outcome.
pub gains_once : {before after after' : List ℕ} {P : ℕ → Type 0} → Gains before after P → Gains before after' P → after ≡ after'
gains_once {before} {after} {after'} {P} g h =
    ext_get_or 0 after after' (g.long ∙ sym h.long) (λ j l. let k : j < length before = omega (arith, g.long) in same (g.marked j k) (h.marked j k))
  where
    same : {b a a' : ℕ} {Q : Type 0} → Marked b a Q → Marked b a' Q → a ≡ a'
    same (inl (p, e)) (inl (q, f)) = e ∙ sym f
    same (inl (p, e)) (inr (n, f)) = absurd (n p)
    same (inr (m, e)) (inl (q, f)) = absurd (m q)
    same (inr (m, e)) (inr (n, f)) = e ∙ sym f
