-- What is read of a kept alternative: its guard, and its steps, which are those whose words were put.
use mathlib.Core.Path.{◌≡◌, refl, sym, ap, ap₂, ◌∙◌}
use mathlib.Core.List.{List, [], ◌∷◌, ◌++◌}
use Prim.Native.Nat.{ℕ, zero, suc, ◌+◌, ◌*◌, ◌-◌, ◌<◌}
use native.Mathlib.Nat.{add-zero, zero-add, sub_self}
use native.Mathlib.Omega.{arith}
use lib.ListN.{length, get_or, drop, length-append, length-drop, get_or-append}
use lib.Seq.{length-take-le, get_or-append-add}
use Rattle.meaning.specs.declared.SeqStep.{SeqStep}
use Rattle.term.specs.declared.Kept.{Kept}
use Rattle.term.specs.Steps.{term_atom, step_words, steps_words, SmallAtoms}
use Rattle.term.specs.Keeping.{step_of, steps_from, guard_of, Stored, Whole}
use Rattle.term.proofs.Round.{length-step_words, same_step, its_own_words}

-- The guard has as many words as it says.
pub length_of_guard : {W : List ℕ} {a : Kept} → Whole W a → length (guard_of W a) ≡ a.end - a.guard
unfolding guard_of
length_of_guard {W} {a} whole = length-take-le (a.end - a.guard) (drop a.guard W) (omega (arith, length-drop a.guard W, whole.ends))

-- Steps are kept where their words stand.
pub stored_words : (ss : List SeqStep) (W : List ℕ) (a : Kept) (k : ℕ)
    → ((j : ℕ) → j < length (steps_words ss) → get_or W (a.from + k * 5 + j) 0 ≡ get_or (steps_words ss) j 0) → Stored W a k ss
unfolding steps_words step_words
stored_words [] W a k e = tt
stored_words (s ∷ ss) W a k e = (
  same_step W (step_words s) (a.from + k * 5) 0 (λ j h. e j (longer (omega arith)) ∙ first j h) ∙ its_own_words s,
  stored_words ss W a (suc k) (λ j h. ap (λ (p : ℕ). get_or W p 0) (next j) ∙ e (5 + j) (longer (omega arith)) ∙ get_or-append-add (step_words s) (steps_words ss) j 0),
)
  where
    longer : {j : ℕ} → j < 5 + length (steps_words ss) → j < length (step_words s ++ steps_words ss)
    longer h = omega (arith, length-append (step_words s) (steps_words ss), length-step_words s)

    first : (j : ℕ) → j < 5 → get_or (step_words s ++ steps_words ss) j 0 ≡ get_or (step_words s) (0 + j) 0
    first j h = get_or-append (step_words s) (steps_words ss) 0 j (omega (arith, length-step_words s)) ∙ ap (λ (p : ℕ). get_or (step_words s) p 0) (sym (zero-add j))

    next : (j : ℕ) → a.from + suc k * 5 + j ≡ a.from + k * 5 + (5 + j)
    next j = omega arith

-- The words of steps, by themselves, keep those steps.
pub its_own_steps : (a : Kept) (ss : List SeqStep) → a.from ≡ 0 → Stored (steps_words ss) a 0 ss
its_own_steps a ss e = stored_words ss (steps_words ss) a 0 (λ j h. ap (λ (p : ℕ). get_or (steps_words ss) p 0) (omega (arith, e)))

-- The steps read are the steps stored.
pub steps_are : (W : List ℕ) (a : Kept) (ss : List SeqStep) (k : ℕ) → Stored W a k ss → steps_from W a k (length ss) ≡ ss
unfolding steps_from
steps_are W a [] k S = refl
steps_are W a (s ∷ ss) k S = ap₂ (λ (x : SeqStep) (xs : List SeqStep). x ∷ xs) S.0 (steps_are W a ss (suc k) S.1)

-- The atoms of the steps read are those of the steps stored.
pub stored_atoms : (W : List ℕ) (a : Kept) (ss : List SeqStep) (k : ℕ) → Stored W a k ss → SmallAtoms ss
    → (j : ℕ) → j < length ss → term_atom (step_of W a (k + j)).term < 65536
stored_atoms W a [] k S small j h = absurd (omega arith)
stored_atoms W a (s ∷ ss) k S small zero h = rw (add-zero k, S.0) small.0
stored_atoms W a (s ∷ ss) k S small (suc j) h = let e : k + suc j ≡ suc k + j = omega arith in rw e (stored_atoms W a ss (suc k) S.1 small.1 j (omega arith))
