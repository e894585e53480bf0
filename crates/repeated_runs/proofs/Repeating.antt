-- The ends of a repetition are added copy by copy, up to the last count or until one copy more reaches the same ends; where the highest
-- count is as good as none, those of the lowest are closed.
use mathlib.Core.Bool.{Bool, true}
use mathlib.Core.Path.{◌≡◌, refl, sym, subst, ◌∙◌}
use mathlib.Core.Logic.{◌↔◌, inl, inr, ⊎_elim}
use mathlib.Core.List.{List, ◌++◌}
use Prim.Native.Nat.{ℕ, suc, ◌+◌, ◌≤◌, ◌<◌, min as lesser}
use native.Mathlib.Omega.{arith}
use native.Mathlib.Numerals.{add-one}
use native.Mathlib.Decide.{ℕ_discrete, dec_le}
use lib.ListN.{length, set, take, drop, replicate, length-set}
use lib.Dec.{eqb}
use lib.Pointwise.{pointwise}
use Rattle.meaning.specs.Match.{Times}
use Rattle.meaning.proofs.RunLaws.{times_forward}
use Rattle.runs.specs.Ends.{Gains, In, Reached}
use Rattle.runs.specs.Tables.{RunsOf}
use Rattle.runs.specs.declared.table.Table.{Table}
use Rattle.runs.proofs.Laws.{gains_none, gains_as, gains_then, gains_one, in_gained, zeros_blank, in_gained_blank}
use Rattle.repeated_runs.specs.Repeated.{Repeated, Alike, Carries, Last, Onward}
use Rattle.repeated_runs.proofs.Copies.{settled, no_highest, that_or_more}
use Rattle.repeated_runs.proofs.Closing.{kept_forward}
use Rattle.repeated_runs.proofs.Rows.{alike_parts, part_long, part_carries, whole_long, whole_carries}

module _ (t : Table) (side i : ℕ) where
  -- An end that so many copies reach from i.
  abbrev By : ℕ → ℕ → Type 0
  By copies = Times copies (RunsOf t) i

  -- An end that one of the counts from low on and below n reaches.
  abbrev Below : ℕ → ℕ → ℕ → Type 0
  Below low n j = (c : ℕ) × (low ≤ c) × (c < n) × By c j

  -- No end lies before the start.
  from_the_start : (copies j : ℕ) → By copies j → i ≤ j
  from_the_start copies j xs = times_forward (RunsOf t) (kept_forward t) copies i j xs

  -- A row with the start alone carries what no copies reach.
  start_carries : {row : List ℕ} → row ≡ replicate 257 0 → length row ≡ 257 → i < side → side ≤ 257 → Carries (set row i 1) side (By 0)
  start_carries {row} e w l f = record {
    ends = λ j h.
        let (on, back) = in_gained_blank (rw e (zeros_blank 257)) (gains_one row i (omega arith)) j (omega arith) in
        (λ x. sym (on x), λ x. back (sym x));
  }

  -- From the ends of some copies the table reaches those of one more.
  more_carries : (copies : ℕ) {ends next : List ℕ} → length ends ≡ 257 → side ≤ 257 → Carries ends side (By copies)
      → Carries next (length (take side ends)) (Reached (RunsOf t) (take side ends) i 0)
      → Carries next side (By (suc copies))
  more_carries copies {ends} {next} w f C N = record {
    ends = λ j l. let (on, back) = reached.ends j l in (
      λ x. let (k, p, e, q, y) = on x in (k, (part.ends k (omega arith)).0 e, y),
      λ (k, xs, y). back (k, from_the_start copies k xs, (part.ends k (omega arith)).1 xs, omega arith, y),
    );
  }
    where
      part : Carries (take side ends) side (By copies)
      part = part_carries ends side w f C

      reached : Carries next side (Reached (RunsOf t) (take side ends) i 0)
      reached = rw (part_long ends side w f) at N

  -- The ends of some copies, closed under the table's runs, are those of each count from there on.
  closed_carries : (copies : ℕ) {ends closed : List ℕ} → length ends ≡ 257 → side ≤ 257 → Carries ends side (By copies)
      → Gains (take side ends) closed (Onward (RunsOf t) (take side ends) i)
      → Carries (closed ++ drop side ends) side (λ j. (c : ℕ) × (copies ≤ c) × By c j)
  closed_carries copies {ends} {closed} w f C g = whole_carries ends side w f g each
    where
      part : Carries (take side ends) side (By copies)
      part = part_carries ends side w f C

      below : (c k j : ℕ) → j < side → Times c (RunsOf t) k j → k < side
      below c k j l xs = omega (arith, times_forward (RunsOf t) (kept_forward t) c k j xs)

      onward : (j : ℕ) → j < side
          → Onward (RunsOf t) (take side ends) i j ↔ ((k : ℕ) × (d : ℕ) × By copies k × Times (suc d) (RunsOf t) k j)
      onward j l = (
        λ (k, d, p, e, ys). (k, d, (part.ends k (below (suc d) k j l ys)).0 e, ys),
        λ (k, d, xs, ys). (k, d, from_the_start copies k xs, (part.ends k (below (suc d) k j l ys)).1 xs, ys),
      )

      each : (j : ℕ) → j < side → In closed j ↔ ((c : ℕ) × (copies ≤ c) × By c j)
      each j l =
          let (on, back) = in_gained g j (omega (arith, part_long ends side w f)) in
          let (up, down) = that_or_more (RunsOf t) copies i j in (
            λ x. up (⊎_elim (λ e. inl ((part.ends j l).0 e)) (λ o. inr ((onward j l).0 o)) (on x)),
            λ xs. back (⊎_elim (λ ys. inl ((part.ends j l).1 ys)) (λ ys. inr ((onward j l).1 ys)) (down xs)),
          )

  -- With the ends of some copies one count more is added.
  one_more_gained : (low copies : ℕ) {before after after' ends : List ℕ} → length before ≡ side → Carries ends side (By copies)
      → Gains before after (Below low copies) → Gains after after' (λ j. (low ≤ copies) × (i ≤ j) × In ends j)
      → Gains before after' (Below low (suc copies))
  one_more_gained low copies w C g h =
      gains_as
      (λ j l. (
        ⊎_elim (λ (c, p, q, xs). (c, p, omega arith, xs)) (λ (p, q, e). (copies, p, omega arith, (C.ends j (omega arith)).0 e)),
        λ (c, p, q, xs). elim (ℕ_discrete c copies) [
          | yes z ↦ let ys = subst (λ n. By n j) z xs in inr (omega arith, from_the_start copies j ys, (C.ends j (omega arith)).1 ys)
          | no z ↦ inl (c, p, omega arith, xs)
        ],
      ))
      (gains_then g h)

  -- With a row that carries each count from n on all counts up to high are added.
  all_gained : {low high : ℕ} (ends : List ℕ) (n : ℕ) {before after final : List ℕ} → length before ≡ side → low ≤ high → n ≤ high
      → Gains before after (Below low n) → ((c : ℕ) → n ≤ c → c ≤ high → Carries ends side (By c))
      → Gains after final (λ j. (i ≤ j) × In ends j) → Gains before final (Repeated (RunsOf t) low high i)
  all_gained {low} {high} ends n w o l g C h =
      gains_as
      (λ j k. (
        ⊎_elim
            (λ (c, p, q, xs). (c, p, omega arith, xs))
            (λ (p, e). (high, o, omega arith, ((C high l (omega arith)).ends j (omega arith)).0 e)),
        λ (c, p, q, xs). elim (dec_le n c) [
          | yes m ↦ inr (from_the_start c j xs, ((C c m q).ends j (omega arith)).1 xs)
          | no m ↦ inl (c, p, omega arith, xs)
        ],
      ))
      (gains_then g h)

  -- A row that is the same as that of one copy more carries every later count.
  same_carries : (copies : ℕ) {ends next : List ℕ} → Carries ends side (By copies) → Carries next side (By (suc copies))
      → Alike ends next side → (c : ℕ) → copies ≤ c → Carries ends side (By c)
  same_carries copies C N same c p = record {
    ends = λ j l.
        let (on, back) = C.ends j l in
        let (up, down) = settled (RunsOf t) (kept_forward t) side copies i again c p j l in
        (λ x. up (on x), λ xs. back (down xs));
  }
    where
      again : (j : ℕ) → j < side → By copies j ↔ By (suc copies) j
      again j l =
          let (on, back) = C.ends j l in
          let (on', back') = N.ends j l in
          (λ xs. on' (sym (same j l) ∙ back xs), λ xs. on (same j l ∙ back' xs))

-- The counts from low on and below `copies` were added, and the row of ends carries those of `copies`.
pub record Repeating (t : Table) (low high i : ℕ) (before after ends : List ℕ) (copies : ℕ) : Type 0 where
  pub few : copies ≤ high
  pub wide : length ends ≡ 257
  pub carried : Carries ends (length before) (By t (length before) i copies)
  pub gained : Gains before after (Below t (length before) i low copies)

-- The counts from low on and below some were added, and the row of ends carries each from there on.
pub record Made (t : Table) (low high i : ℕ) (before after ends : List ℕ) : Type 0 where
  pub copies : ℕ
  pub few : copies ≤ high
  pub wide : length ends ≡ 257
  pub carried : (c : ℕ) → copies ≤ c → c ≤ high → Carries ends (length before) (By t (length before) i c)
  pub gained : Gains before after (Below t (length before) i low copies)

-- All that is left to add is the row of ends.
pub record Lacking (t : Table) (min max i : ℕ) (before after ends : List ℕ) : Type 0 where
  pub long : length after ≡ length before
  pub wide : length ends ≡ 257
  pub rest : {final : List ℕ} → Gains after final (λ j. (i ≤ j) × In ends j)
      → Gains before final (Repeated (RunsOf t) min max i)

-- At first the row of ends has the start alone.
pub repeating_begins : (t : Table) (low high i : ℕ) (row : List ℕ) {ends : List ℕ}
    → ends ≡ replicate 257 0 → length ends ≡ 257 → i < length row → length row ≤ 257
    → Repeating t low high i row row (set ends i 1) 0
repeating_begins t low high i row {ends} e w l f = record {
  few = omega arith;
  wide = length-set ends i 1 ∙ w;
  carried = start_carries t (length row) i e w l f;
  gained = gains_none row _ (λ j k (c, q, r, xs). omega arith);
}

module _ {t : Table} {low high i copies : ℕ} {before after ends : List ℕ}
    (R : Repeating t low high i before after ends copies) where
  module _ {after' next : List ℕ} (l : copies < high) (f : length before ≤ 257)
      (g : Gains after after' (λ j. (low ≤ copies) × (i ≤ j) × In ends j))
      (N : Carries next (length (take (length before) ends)) (Reached (RunsOf t) (take (length before) ends) i 0)) where
    -- One copy more is made.
    pub repeating_on : length next ≡ 257 → Repeating t low high i before after' next (copies + 1)
    repeating_on w = rw add-one record {
      few = omega arith;
      wide = w;
      carried = more_carries t (length before) i copies R.wide f R.carried N;
      gained = one_more_gained t (length before) i low copies refl R.carried R.gained g;
    }

    -- One copy more reaches the same ends, and so does each from there on.
    pub repeating_settles : {b : Bool} {row : List ℕ} → b ≡ pointwise eqb (take (length before) ends) (take (length before) next) → b ≡ true → row ≡ after'
        → Made t low high i before row ends
    repeating_settles s e r = rw r record {
      copies = suc copies;
      few = omega arith;
      wide = R.wide;
      carried = λ c p q. same_carries t (length before) i copies R.carried more (alike_parts ends next (length before) s e) c (omega arith);
      gained = one_more_gained t (length before) i low copies refl R.carried R.gained g;
    }
      where
        more : Carries next (length before) (By t (length before) i (suc copies))
        more = more_carries t (length before) i copies R.wide f R.carried N

  -- The last count is come to.
  pub repeating_ends : {row : List ℕ} → high ≤ copies → row ≡ after → Made t low high i before row ends
  repeating_ends l r = rw r record {
    copies = copies;
    few = R.few;
    wide = R.wide;
    carried = λ c p q. let e : copies ≡ c = omega (arith, R.few) in rw e at R.carried;
    gained = R.gained;
  }

module _ (min max : ℕ) {t : Table} {low high i : ℕ} {before after ends : List ℕ} (M : Made t low high i before after ends)
    (a : low ≡ lesser min (length before)) (b : Last high low max (length before)) (p : min ≤ max) where
  -- Where the last count is the highest, its ends alone are left to add.
  pub last_lacking : {ends' : List ℕ} → max < length before → ends' ≡ ends → Lacking t min max i before after ends'
  last_lacking l e = rw e record {
    long = M.gained.long;
    wide = M.wide;
    rest = λ g.
        let m : low ≡ min = omega arith in
        let h : high ≡ max = ⊎_elim (λ q. omega arith) (λ q. omega arith) b in
        rw (m, h) at (all_gained t (length before) i ends M.copies refl (omega arith) M.few M.gained M.carried g);
  }

  -- Where it is the lowest, its ends, closed, are those of all counts.
  pub closed_lacking : {ends' closed : List ℕ} → length before ≤ max → length before ≤ 257
      → Gains (take (length before) ends) closed (Onward (RunsOf t) (take (length before) ends) i)
      → ends' ≡ closed ++ drop (length before) ends → Lacking t min max i before after ends'
  closed_lacking {ends'} {closed} l f g e = rw e record {
    long = M.gained.long;
    wide = whole_long ends side M.wide f g;
    rest = λ h.
        gains_as
        (λ j k. let (on, back) = no_highest (RunsOf t) (kept_forward t) min max side i j p l k in (
          ⊎_elim (λ (c, q, r, xs). absurd (omega (arith, M.few, lowest))) (λ (q, x). on (rw a at ((all.ends j k).0 x))),
          λ w. let (c, q, xs) = back w in inr (from_the_start t side i c j xs, (all.ends j k).1 (c, rw a q, xs)),
        ))
        (gains_then M.gained h);
  }
    where
      side : ℕ
      side = length before

      lowest : high ≡ low
      lowest = ⊎_elim (λ q. omega arith) (λ q. omega arith) b

      ends_of_the_lowest : Carries ends side (By t side i low)
      ends_of_the_lowest = M.carried low (omega (arith, M.few, lowest)) (omega (arith, lowest))

      all : Carries (closed ++ drop side ends) side (λ j. (c : ℕ) × (low ≤ c) × By t side i c j)
      all = closed_carries t side i low M.wide f ends_of_the_lowest g
