-- A step takes five words, and one that was stored is read back.
use mathlib.Core.Path.{◌≡◌, refl, sym, ap, ◌∙◌}
use mathlib.Core.List.{List, [], ◌∷◌}
use Prim.Native.Nat.{ℕ, ◌+◌, ◌*◌, ◌≤◌, ◌<◌}
use native.Mathlib.Nat.{add-zero}
use native.Mathlib.Omega.{arith}
use lib.ListN.{length, get_or, length-append}
use Rattle.words.specs.Choice.{pick}
use Rattle.words.specs.Written.{written}
use Rattle.words.proofs.Laws.{read_back}
use Rattle.term.specs.Steps.{term_tag, term_atom, term_count, hop_tag, hop_ticks, term_from, hop_from, step_words, step_at, steps_words}
use Rattle.meaning.specs.declared.SeqTerm.{SeqTerm}
use Rattle.meaning.specs.declared.SeqTerm.TheVariants.{Bool as BoolTerm, Goto, Nonconsec, ConsecAtLeast, Empty}
use Rattle.meaning.specs.declared.SeqHop.{SeqHop}
use Rattle.meaning.specs.declared.SeqHop.TheVariants.{Fixed, AtLeast}
use Rattle.meaning.specs.declared.SeqStep.{SeqStep}

term_back : (x : SeqTerm) → term_from (term_tag x) (term_atom x) (term_count x) ≡ x
unfolding term_from pick
term_back (BoolTerm a) = refl
term_back (Goto a n) = refl
term_back (Nonconsec a n) = refl
term_back (ConsecAtLeast a n) = refl
term_back Empty = refl

hop_back : (h : SeqHop) → hop_from (hop_tag h) (hop_ticks h) ≡ h
unfolding hop_from pick
hop_back (Fixed d) = refl
hop_back (AtLeast d) = refl

-- Five words a step, and five times as many as there are steps.
pub length-step_words : (s : SeqStep) → length (step_words s) ≡ 5
unfolding step_words
length-step_words s = refl

pub length_of_steps : (ss : List SeqStep) → length (steps_words ss) ≡ 5 * length ss
unfolding steps_words
length_of_steps [] = omega arith
length_of_steps (s ∷ ss) = omega (arith, length-append (step_words s) (steps_words ss), length-step_words s, length_of_steps ss)

-- The step that was put is read.
pub stored_is_read_back : (o : List ℕ) (at : ℕ) (s : SeqStep) → at + 5 ≤ length o → step_at (written o at (step_words s)) at ≡ s
unfolding step_at step_words
stored_is_read_back o at s h =
    let ws = step_words s in
    let e₀ : get_or (written o at ws) at 0 ≡ term_tag s.term = ap (λ (n : ℕ). get_or (written o at ws) n 0) (sym (add-zero at)) ∙ read_back o at ws 0 h (omega arith) in
    rw (e₀, read_back o at ws 1 h (omega arith), read_back o at ws 2 h (omega arith), read_back o at ws 3 h (omega arith), read_back o at ws 4 h (omega arith), term_back s.term, hop_back s.hop)

-- A step is read from five words.
pub same_step : (ts us : List ℕ) (p q : ℕ) → ((j : ℕ) → j < 5 → get_or ts (p + j) 0 ≡ get_or us (q + j) 0) → step_at ts p ≡ step_at us q
unfolding step_at
same_step ts us p q e =
    let e₀ : get_or ts p 0 ≡ get_or us q 0 = ap (λ (k : ℕ). get_or ts k 0) (sym (add-zero p)) ∙ e 0 (omega arith) ∙ ap (λ (k : ℕ). get_or us k 0) (add-zero q) in
    rw (e₀, e 1 (omega arith), e 2 (omega arith), e 3 (omega arith), e 4 (omega arith)) refl

-- The five words of a step are that step.
pub its_own_words : (s : SeqStep) → step_at (step_words s) 0 ≡ s
unfolding written step_words
its_own_words s = stored_is_read_back (step_words s) 0 s (omega arith)
