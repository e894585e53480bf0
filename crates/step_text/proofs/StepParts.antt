-- The parts of one step, its hop and its term, as the code meets them. They assume nothing.
use mathlib.Core.Path.{◌≡◌}
use Prim.Native.Nat.{ℕ, ◌+◌}
use native.Mathlib.Omega.{arith}
use Rattle.meaning.specs.declared.SeqStep.{SeqStep}
use Rattle.step_text.specs.Text.{reach, hop_registers, step_registers, TermFits, StepFits}

-- A later step's term fits where the step does, q being its first register.
pub term_small : (s : SeqStep) (r : ℕ) {q : ℕ} → q ≡ r + hop_registers (reach s) → StepFits r s → TermFits q s.term
unfolding step_registers
term_small s r i w = record { high = omega (arith, w.high, i); atom = w.atom }
