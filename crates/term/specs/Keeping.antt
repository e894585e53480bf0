-- An alternative that is kept in work: its steps one after the other, then its guard, closed by the `and` with the expression that it
-- guards. What each code crate reads of it is said here, so that only crate `term` knows how it is laid out.
-- Example: `c throughout (a ##1 b)` is kept as the ten words of two steps, then `a2 any and`.
use Rattle.std.specs.Prelude.{◌≡◌, List, [], ◌∷◌, ℕ, zero, suc, ◌+◌, ◌*◌, ◌-◌, ◌<◌, ◌≤◌, length, take, drop}
use Rattle.meaning.specs.declared.SeqStep.{SeqStep}
use Rattle.term.specs.declared.Kept.{Kept}
use Rattle.term.specs.Steps.{term_atom, step_at}

-- The k-th step.
abbrev pub step_of : List ℕ → Kept → ℕ → SeqStep
step_of W a k = step_at W (a.from + k * 5)

-- So many steps of a kept alternative, from the k-th on; and all of its steps.
unfoldable pub steps_from : List ℕ → Kept → ℕ → ℕ → List SeqStep
steps_from W a k zero = []
steps_from W a k (suc count) = step_of W a k ∷ steps_from W a (suc k) count

abbrev pub steps_of : List ℕ → Kept → List SeqStep
steps_of W a = steps_from W a 0 a.steps

-- The words of the guard; none where there is none.
unfoldable pub guard_of : List ℕ → Kept → List ℕ
guard_of W a = take (a.end - a.guard) (drop a.guard W)

-- The steps are kept, the first of them as the k-th.
abbrev pub Stored : List ℕ → Kept → ℕ → List SeqStep → Type 0
Stored W a k [] = Unit {0}
Stored W a k (s ∷ ss) = (step_of W a k ≡ s) × Stored W a (suc k) ss

-- The alternative stands in work, has a step, no more steps than there is room for, and each atom fits into a listing's word: 1, "an atom or condition above
-- 65,535", came first.
pub record Whole (W : List ℕ) (a : Kept) : Type 0 where
  pub some : 1 ≤ a.steps
  pub many : a.steps ≤ 65536
  pub inside : a.from + a.steps * 5 ≤ length W
  pub order : a.guard ≤ a.end
  pub ends : a.end ≤ length W
  pub atoms : (k : ℕ) → k < a.steps → term_atom (step_of W a k).term < 65536
