-- The meaning of the whole: of a picture that comes in tick by tick, the pixel that leaves two ticks after it came in is the
-- corrected one. The rows hold the last pixels as they came in and those before as they left.
use mathlib.Core.Path.{◌≡◌, refl, sym, ap, ap₂, ◌∙◌}
use mathlib.Core.Bool.{Bool, true, false}
use mathlib.Core.List.{List}
use Prim.Native.Nat.{ℕ, zero, suc, ◌+◌, ◌-◌, ◌/◌, ◌≤◌, ◌<◌}
use native.Mathlib.Omega.{arith}
use native.Mathlib.Decide.{dec_le}
use lib.Dec.{eqb}
use lib.ListN.{length, set, length-set}
use lib.Seq.{get_or-set_same, get_or-set_other}
use borrow.Author.Tests.{lt-ltb, le-ltb, ne_eqb, eqb-false}
use Rattle.words.specs.Choice.{pick, pick_true, pick_false, pick_cong, pick_case}
use Rattle.correction.specs.Map.{names}
use Rattle.correction.specs.Rows.{row_of, column_of, place_of, pixel_at, replacement_by, replacement_in, leaving_of, rows_after, Stepped}
use Rattle.correction.specs.Picture.{corrected, to_leave, Ran, begun, ticked}
use Rattle.correction.specs.declared.Leaving.TheVariants.{Kept, Replaced}
use Rattle.correction.specs.declared.Output.{Output}

-- Within two rows no place is taken twice.
apart : (s t : ℕ) → s < t → t < s + 1504 → place_of s ≡ place_of t → ⊥
apart s t h k e = omega arith

-- The rows at a tick: the two pixels that wait are as they came in, the others of the last two rows as they left.
record Holding (map : List ℕ) (picture : ℕ → ℕ → ℕ) (rows : List ℕ) (tick : ℕ) : Type 0 where
  long : length rows ≡ 1504
  waiting : (s : ℕ) → s < tick → tick ≤ s + 2 → pixel_at rows s ≡ picture (row_of s) (column_of s)
  gone : (s : ℕ) → s + 2 < tick → tick ≤ s + 1504 → pixel_at rows s ≡ corrected (names map) picture (row_of s) (column_of s)

not_zero : (n : ℕ) → eqb (suc n) 0 ≡ false
not_zero n = ne_eqb (suc n) 0 (λ e. omega arith)

suc_before : (n : ℕ) → suc n - 1 ≡ n
suc_before n = omega arith

-- A corrected pixel, in one equation.
pub one_equation : (named : ℕ → ℕ → Bool) (picture : ℕ → ℕ → ℕ) (row column : ℕ) →
    corrected named picture row column
    ≡ pick (named row column)
    (pick (eqb column 0) (pick (eqb row 0) 0 (corrected named picture (row - 1) column))
    (pick (eqb row 0) (corrected named picture row (column - 1))
    ((corrected named picture row (column - 1) + corrected named picture (row - 1) column) / 2)))
    (picture row column)
unfolding corrected pick
one_equation named picture zero zero = refl
one_equation named picture zero (suc column) = rw (not_zero column, suc_before column)
one_equation named picture (suc row) zero = rw (not_zero row, suc_before row)
one_equation named picture (suc row) (suc column) = rw (not_zero column, not_zero row, suc_before row, suc_before column)

module _ {map : List ℕ} {picture : ℕ → ℕ → ℕ} {rows : List ℕ} {tick : ℕ} (H : Holding map picture rows tick) where
  entered : List ℕ
  entered = set rows (place_of tick) (picture (row_of tick) (column_of tick))

  -- The pixel that comes in leaves every other one of the last two rows alone.
  still : (s : ℕ) → s < tick → tick < s + 1504 → pixel_at entered s ≡ pixel_at rows s
  unfolding entered
  still s h k = get_or-set_other rows (place_of tick) (place_of s) _ 0 (apart s tick h k)

  -- What replaces a named pixel is the corrected one.
  replaced : (s : ℕ) → tick ≡ s + 2 → names map (row_of s) (column_of s) ≡ true
      → replacement_in entered s ≡ corrected (names map) picture (row_of s) (column_of s)
  unfolding replacement_by
  replaced s e n =
      let row = row_of s in
      let column = column_of s in
      let left : (column ≡ 0 → ⊥) → pixel_at entered (s - 1) ≡ corrected (names map) picture row (column - 1) = λ c.
      let r : row_of (s - 1) ≡ row = omega arith in
      let d : column_of (s - 1) ≡ column - 1 = omega arith in
      still (s - 1) (omega arith) (omega arith) ∙ H.gone (s - 1) (omega arith) (omega arith) ∙ ap₂ (corrected (names map) picture) r d in
      let above : (row ≡ 0 → ⊥) → pixel_at entered (s - 752) ≡ corrected (names map) picture (row - 1) column = λ c.
      let r : row_of (s - 752) ≡ row - 1 = omega arith in
      let d : column_of (s - 752) ≡ column = omega arith in
      still (s - 752) (omega arith) (omega arith) ∙ H.gone (s - 752) (omega arith) (omega arith) ∙ ap₂ (corrected (names map) picture) r d in
      pick_cong (eqb column 0) (λ _. pick_cong (eqb row 0) (λ _. refl) (λ f. above (eqb-false row 0 f)))
      (λ d. pick_cong (eqb row 0) (λ _. left (eqb-false column 0 d))
      (λ f. ap₂ (λ (x y : ℕ). (x + y) / 2) (left (eqb-false column 0 d)) (above (eqb-false row 0 f))))
      ∙ sym (one_equation (names map) picture row column ∙ pick_true _ _ n)

  -- The pixel that leaves is the one of two ticks before, as it is to leave.
  leaving : (s : ℕ) → tick ≡ s + 2 → leaving_of map entered s ≡ to_leave map picture (row_of s) (column_of s)
  unfolding leaving_of to_leave
  leaving s e = pick_cong (names map (row_of s) (column_of s)) (λ n. ap Replaced (replaced s e n))
      (λ _. ap Kept (still s (omega arith) (omega arith) ∙ H.waiting s (omega arith) (omega arith)))

  -- The pixel that comes in is there.
  came_in : pixel_at entered tick ≡ picture (row_of tick) (column_of tick)
  unfolding entered
  came_in = get_or-set_same rows (place_of tick) _ 0 (omega (arith, H.long))

  -- The pixel that leaves is kept corrected.
  kept_corrected : (s : ℕ) → tick ≡ s + 2 → pixel_at (rows_after map entered s) s ≡ corrected (names map) picture (row_of s) (column_of s)
  unfolding rows_after entered
  kept_corrected s e =
      pick_case (λ (l : List ℕ). pixel_at l s ≡ corrected (names map) picture (row_of s) (column_of s)) (names map (row_of s) (column_of s))
      (λ n. get_or-set_same entered (place_of s) _ 0 (simp length-set (omega (arith, H.long))) ∙ replaced s e n)
      (λ n. still s (omega arith) (omega arith) ∙ H.waiting s (omega arith) (omega arith)
      ∙ sym (one_equation (names map) picture (row_of s) (column_of s) ∙ pick_false _ _ n))

  -- No pixel but the one that leaves changes.
  others_kept : (s u : ℕ) → (place_of s ≡ place_of u → ⊥) → pixel_at (rows_after map entered u) s ≡ pixel_at entered s
  unfolding rows_after
  others_kept s u n =
      pick_case (λ (l : List ℕ). pixel_at l s ≡ pixel_at entered s) (names map (row_of u) (column_of u))
      (λ _. get_or-set_other entered (place_of u) (place_of s) _ 0 n) (λ _. refl)

  length-after : (s : ℕ) → length (rows_after map entered s) ≡ 1504
  unfolding rows_after entered
  length-after s =
      pick_case (λ (l : List ℕ). length l ≡ 1504) (names map (row_of s) (column_of s))
      (λ _. simp length-set H.long) (λ _. simp length-set H.long)

  -- The pixels that wait at the next tick, before any leaves.
  waits : (s : ℕ) → s < tick + 1 → tick + 1 ≤ s + 2 → pixel_at entered s ≡ picture (row_of s) (column_of s)
  waits s i j = elim (dec_le tick s) [
    | yes a ↦ (let e : s ≡ tick = omega arith in rw e came_in)
    | no a ↦ still s (omega arith) (omega arith) ∙ H.waiting s (omega arith) (omega arith)
  ]

  -- The rows hold what they should at the next tick, where nothing left yet.
  nothing_left : tick < 2 → Holding map picture entered (tick + 1)
  unfolding entered
  nothing_left h = record { long = simp length-set H.long; waiting = waits; gone = λ s i j. absurd (omega arith) }

  -- The rows hold what they should at the next tick, where the pixel of two ticks before left.
  one_left : (u : ℕ) → tick ≡ u + 2 → Holding map picture (rows_after map entered u) (tick + 1)
  one_left u e = record {
    long = length-after u;
    waiting = λ s i j. others_kept s u (λ q. apart u s (omega arith) (omega arith) (sym q)) ∙ waits s i j;
    gone = λ s i j. elim (dec_le u s) [
      | yes a ↦ (let f : s ≡ u = omega arith in rw f (kept_corrected u e))
      | no a ↦ others_kept s u (apart s u (omega arith) (omega arith))
          ∙ still s (omega arith) (omega arith)
          ∙ H.gone s (omega arith) (omega arith)
    ];
  }

  -- What a tick keeps, and what it lets out.
  next_tick : {after : List ℕ} {given : Output} → Stepped map rows after tick (picture (row_of tick) (column_of tick)) given
      → Holding map picture after (tick + 1)
  unfolding entered
  next_tick S = elim (dec_le 2 tick) [
    | yes a ↦ rw (S.keeps ∙ pick_false _ _ (le-ltb tick 2 a)) (one_left (tick - 2) (omega arith))
    | no a ↦ rw (S.keeps ∙ pick_true _ _ (lt-ltb tick 2 (omega arith))) (nothing_left (omega arith))
  ]

  step_leaves : {after : List ℕ} {given : Output} → Stepped map rows after tick (picture (row_of tick) (column_of tick)) given → 2 ≤ tick
      → given.leaving ≡ to_leave map picture (row_of (tick - 2)) (column_of (tick - 2))
  unfolding entered
  step_leaves S h = S.leaves ∙ pick_false _ _ (le-ltb tick 2 h) ∙ leaving (tick - 2) (omega arith)

-- The rows hold what they should after every tick of a frame.
held : {map : List ℕ} {picture : ℕ → ℕ → ℕ} {tick : ℕ} {rows : List ℕ} → Ran map picture tick rows → Holding map picture rows tick
held (begun l) = record { long = l; waiting = λ s i j. absurd (omega arith); gone = λ s i j. absurd (omega arith) }
held (ticked R S) = next_tick (held R) S

-- The rows are two at every tick.
pub rows_stay_two : {map : List ℕ} {picture : ℕ → ℕ → ℕ} {tick : ℕ} {rows : List ℕ} → Ran map picture tick rows → length rows ≡ 1504
rows_stay_two R = (held R).long

-- Whatever stood in the rows before the frame: from the third tick on, what leaves is the pixel that came in two ticks
-- before, as the map has it leave.
pub what_leaves_is_corrected : {map : List ℕ} {picture : ℕ → ℕ → ℕ} {tick : ℕ} {before after : List ℕ} {given : Output}
    → Ran map picture tick before
    → Stepped map before after tick (picture (row_of tick) (column_of tick)) given → 2 ≤ tick
    → given.leaving ≡ to_leave map picture (row_of (tick - 2)) (column_of (tick - 2))
what_leaves_is_corrected R S h = step_leaves (held R) S h
