-- An alternative's current expression as words, said from its steps alone, so that code can write it and store no expression.
-- Example: after its last step `a ##2 b` has the text `r1 a1 any and`, and its second term starts with `r1`.
use Rattle.std.specs.Prelude.{List, [], ◌∷◌, ◌++◌, ℕ, zero, suc, ◌+◌, ◌-◌}
use Rattle.term.specs.declared.Kept.{Kept}
use Rattle.term.specs.Keeping.{step_of, guard_of}
use Rattle.step_text.specs.Text.{one_word, reach, term_registers, step_registers, hop_text, step_text, lead_text}

-- The registers of the k-th step. The first step's hop is never taken.
unfoldable pub registers_at : List ℕ → Kept → ℕ → ℕ
registers_at W a zero = term_registers (step_of W a 0).term
registers_at W a (suc k) = step_registers (step_of W a (suc k))

-- The registers of all steps before the k-th.
unfoldable pub registers_before : List ℕ → Kept → ℕ → ℕ
registers_before W a zero = 0
registers_before W a (suc k) = registers_before W a k + registers_at W a k

-- The text after the k-th step, whose first register is r. "ANDed to the seed and to the value behind each delay register of a fixed hop."
unfoldable pub text_at : List ℕ → Kept → ℕ → ℕ → List ℕ
text_at W a zero r = lead_text r (step_of W a 0).term ++ guard_of W a
text_at W a (suc k) r = step_text (guard_of W a) r (step_of W a (suc k)) (text_at W a k (r - registers_at W a k))

-- What starts the k-th term: constant one at the first, else the text after its hop.
unfoldable pub activation_at : List ℕ → Kept → ℕ → ℕ → List ℕ
activation_at W a zero r = one_word ∷ []
activation_at W a (suc k) r = hop_text (guard_of W a) r (reach (step_of W a (suc k))) (text_at W a k (r - registers_at W a k))

-- No kept alternative has more registers: at most 65,536 steps, each with a hop of at most 2^32 - 1 registers and a term of at most 2^32.
abbrev pub most_registers : ℕ
most_registers = 562949953355776
