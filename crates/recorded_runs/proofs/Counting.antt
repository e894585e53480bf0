-- The loop that counts b has set the ends of b[->n], or of b[=n], that it passed.
use mathlib.Core.Bool.{Bool, true, false, ◌||◌}
use mathlib.Core.Path.{◌≡◌, refl, sym, subst}
use mathlib.Core.Logic.{inl}
use mathlib.Core.List.{List}
use Prim.Native.Nat.{ℕ, zero, suc, ◌+◌, ◌-◌, ◌≤◌, ◌<◌}
use native.Mathlib.Nat.{le_refl, le_antisymm}
use native.Mathlib.Numerals.{add-one}
use native.Mathlib.Omega.{arith}
use native.Mathlib.Decide.{dec_le}
use lib.Dec.{T}
use lib.ListN.{length, set}
use mir.Val.{bool_byte}
use Rattle.meaning.specs.Match.{GotoRuns, NonconsecRuns}
use Rattle.runs.specs.Ends.{Gains}
use Rattle.runs.proofs.Laws.{Gaining, gaining_begins, gaining_on, gaining_past, gaining_ends}
use Rattle.recorded_runs.specs.Recorded.{Counted}
use Rattle.recorded_runs.proofs.Often.{often_none, often_on, goto_with, goto_often, goto_here, last_of_often, often_grows}

-- The ends of b[->n], or of b[=n], from i on.
module _ (σ : ℕ → ℕ → Bool) (b i : ℕ) where
  -- At an end b was seen n times.
  counted_often : (goes_on : Bool) (n j : ℕ) → Counted goes_on σ b n i j → NonconsecRuns σ b n i j
  counted_often true n j x = x
  counted_often false n j x = goto_often σ b n i j x

  -- The n-th b is an end, whether the run may go on or not.
  counted_goto : (goes_on : Bool) (n j : ℕ) → GotoRuns σ b n i j → Counted goes_on σ b n i j
  counted_goto true n j x = goto_often σ b n i j x
  counted_goto false n j x = x

  -- No run is empty where n is not 0.
  counted_later : (goes_on : Bool) (n j : ℕ) → 0 < n → Counted goes_on σ b n i j → i < j
  counted_later goes_on zero j h x = absurd (omega arith)
  counted_later goes_on (suc n) j h x =
      let (t, l, l', _, _, _) = last_of_often σ b n i j (counted_often goes_on (suc n) j x) in omega arith

  -- The next end is none where b does not hold at the tick and the run may not go on.
  is_no_end : (t : ℕ) (here goes_on : Bool) (n : ℕ) → here ≡ σ t b → 0 < n → (here || goes_on) ≡ false
      → Counted goes_on σ b n i (t + 1) → ⊥
  is_no_end t true goes_on n h p o g = subst T o tt
  is_no_end t false true n h p o g = subst T o tt
  is_no_end t false false n h p o g = subst T (sym h) (goto_here σ b n i t p (rw (add-one t) at g))

  -- By how often b was seen before the tick:
  module _ (t seen : ℕ) (x : NonconsecRuns σ b seen i t) where
    -- The next end is one where b is seen n times with the tick, and holds at it or the run may go on.
    is_end : (here goes_on : Bool) (n : ℕ) → here ≡ σ t b → seen + bool_byte here ≡ n → (here || goes_on) ≡ true
        → Counted goes_on σ b n i (t + 1)
    is_end true goes_on n h e o =
        counted_goto goes_on n (t + 1) (rw (← e, add-one seen, add-one t) (goto_with σ b seen i t x (subst T h tt)))
    is_end false true n h e o =
        subst (λ z. NonconsecRuns σ b z i (t + 1)) e (often_on σ b false seen i t h x)
    is_end false false n h e o = absurd (subst T (sym o) tt)

    -- The next end is none where b is not seen n times.
    is_not_yet : (here goes_on : Bool) (n : ℕ) → here ≡ σ t b → (seen + bool_byte here ≡ n → ⊥)
        → Counted goes_on σ b n i (t + 1) → ⊥
    is_not_yet here goes_on n h d y =
        let z = often_on σ b here seen i t h x in
        let w = counted_often goes_on n (t + 1) y in
        d (le_antisymm (often_grows σ b _ n i _ _ (le_refl _) z w) (often_grows σ b n _ i _ _ (le_refl _) w z))

-- From i up to the tick b was seen so often, which is no more than n times, and the row gained the ends up to the tick.
pub record Counting (goes_on : Bool) (σ : ℕ → ℕ → Bool) (b n i : ℕ) (before after : List ℕ) (seen t : ℕ) : Type 0 where
  pub inside : t < length before
  pub often : NonconsecRuns σ b seen i t
  pub few : seen ≤ n
  pub gained : Gaining before after (Counted goes_on σ b n i) (t + 1)

-- At first b was not seen, and there is no end.
pub counting_begins : {goes_on : Bool} {σ : ℕ → ℕ → Bool} {b n i : ℕ} {row : List ℕ} → 0 < n → i < length row
    → Counting goes_on σ b n i row row 0 i
counting_begins {goes_on} {σ} {b} {n} {i} {row} h l = record {
  inside = omega arith;
  often = often_none σ b i;
  few = omega arith;
  gained = gaining_begins row _ (i + 1) (λ j x. omega (arith, counted_later σ b i goes_on n j h x));
}

-- One turn of the loop, by whether b holds at the tick, which is counted as one more if it does:
module _ {goes_on : Bool} {σ : ℕ → ℕ → Bool} {b n i : ℕ} {before after : List ℕ} {seen t : ℕ} {here : Bool} {more : ℕ}
    (c : Counting goes_on σ b n i before after seen t) (h : here ≡ σ t b) (m : more ≡ bool_byte here) where
  -- With the tick b is seen so often.
  often_now : NonconsecRuns σ b (seen + more) i (t + 1)
  often_now = rw m (often_on σ b here seen i t h c.often)

  -- Where b is seen too often no later end is one, and all are set.
  pub counting_stops : n < seen + more → Gains before after (Counted goes_on σ b n i)
  counting_stops l = gaining_ends (λ j u x. elim (dec_le (t + 1) j) [ yes k ↦ absurd (too_often j k x) | no k ↦ omega arith ]) c.gained
    where
      too_often : (j : ℕ) → t + 1 ≤ j → Counted goes_on σ b n i j → ⊥
      too_often j k x =
          omega (arith, often_grows σ b (seen + more) n i (t + 1) j k often_now (counted_often σ b i goes_on n j x))

  -- Where the next end is one it is set.
  pub counting_adds : t < length before - 1 → seen + more ≡ n → (here || goes_on) ≡ true
      → Counting goes_on σ b n i before (set after (t + 1) 1) (seen + more) (t + 1)
  counting_adds l e ends = record {
    inside = omega arith;
    often = often_now;
    few = omega arith;
    gained = gaining_on c.gained (omega (arith, c.gained.long)) (inl (is_end σ b i t seen c.often here goes_on n h (rw m at e) ends, refl));
  }

  -- Where the next end is none it is left.
  left : t < length before - 1 → seen + more ≤ n → (Counted goes_on σ b n i (t + 1) → ⊥)
      → Counting goes_on σ b n i before after (seen + more) (t + 1)
  left l f none = record { inside = omega arith; often = often_now; few = f; gained = gaining_past c.gained none }

  -- The next end is left where b does not hold and the run may not go on.
  pub counting_waits : t < length before - 1 → 0 < n → seen + more ≡ n → (here || goes_on) ≡ false
      → Counting goes_on σ b n i before after (seen + more) (t + 1)
  counting_waits l p e none = left l (omega arith) (is_no_end σ b i t here goes_on n h p none)

  -- The next end is left where b is not seen often enough.
  pub counting_on : t < length before - 1 → seen + more ≤ n → (seen + more ≡ n → ⊥)
      → Counting goes_on σ b n i before after (seen + more) (t + 1)
  counting_on l f d = left l f (is_not_yet σ b i t seen c.often here goes_on n h (rw m at d))
