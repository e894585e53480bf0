-- The sum of a kept alternative's hops, step by step.
use mathlib.Core.Path.{◌≡◌, refl, ap, ◌∙◌}
use mathlib.Core.List.{List}
use Prim.Native.Nat.{ℕ, suc, ◌+◌, ◌*◌, ◌-◌, ◌<◌, ◌≤◌}
use native.Mathlib.Numerals.{add-one}
use native.Mathlib.Omega.{arith}
use Rattle.meaning.specs.Root.{hop_length, hop_sum, window_len}
use Rattle.meaning.specs.declared.SeqStep.{SeqStep}
use Rattle.term.specs.declared.Kept.{Kept}
use Rattle.term.specs.Keeping.{step_of, steps_from, steps_of, Whole}

-- The hops before the k-th step are summed, and those from it on are left.
pub record Windowing (W : List ℕ) (a : Kept) (total k : ℕ) : Type 0 where
  pub low : total ≤ 1 + k * 4294967295
  pub rest : window_len (steps_of W a) ≡ total + hop_sum (steps_from W a k (a.steps - k))

pub windowing_begins : {W : List ℕ} {a : Kept} → Whole W a → Windowing W a 1 1
unfolding steps_from
windowing_begins {W} {a} whole =
    let e : a.steps ≡ suc (a.steps - 1) = omega (arith, whole.some) in
    record {
      low = omega arith;
      rest = ap (λ (c : ℕ). window_len (steps_from W a 0 c)) e ∙ omega arith;
    }

pub windowing_on : {W : List ℕ} {a : Kept} {total k d : ℕ} {s : SeqStep} → Windowing W a total k → k < a.steps → s ≡ step_of W a k → d ≡ hop_length s.hop
    → d ≤ 4294967295 → Windowing W a (total + d) (k + 1)
unfolding steps_from
windowing_on {W} {a} {total} {k} {d} {s} w h e q small = record {
  low = omega (arith, w.low);
  rest =
      let f : a.steps - k ≡ suc (a.steps - (k + 1)) = omega arith in
      let g : d ≡ hop_length (step_of W a k).hop = q ∙ ap (λ (x : SeqStep). hop_length x.hop) e in
      w.rest ∙ rw (f, add-one k) (omega (arith, g));
}

pub windowing_ends : {W : List ℕ} {a : Kept} {total k : ℕ} → Windowing W a total k → a.steps ≤ k → total ≡ window_len (steps_of W a)
unfolding steps_from
windowing_ends {W} {a} {total} {k} w h =
    let f : a.steps - k ≡ 0 = omega arith in
    let g : hop_sum (steps_from W a k (a.steps - k)) ≡ 0 = rw f refl in
    omega (arith, w.rest, g)
