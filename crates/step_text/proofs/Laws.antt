-- How many registers a count stands for, and a term has. They assume nothing.
use mathlib.Core.Path.{◌≡◌}
use Prim.Native.Nat.{ℕ, ◌≤◌}
use native.Mathlib.Omega.{arith}
use lib.Dec.{eqb}
use borrow.Author.Tests.{eqb-true, eqb-false}
use Rattle.term.specs.Steps.{term_count}
use Rattle.meaning.specs.declared.SeqTerm.{SeqTerm}
use Rattle.meaning.specs.declared.SeqTerm.TheVariants.{Bool as BoolTerm, Goto, Nonconsec, ConsecAtLeast, Empty}
use Rattle.words.specs.Choice.{pick_case}
use Rattle.step_text.specs.Text.{at_least_one, term_registers}

pub at_least_some : (k : ℕ) → 1 ≤ at_least_one k
unfolding at_least_one
at_least_some k = pick_case (λ (z : ℕ). 1 ≤ z) (eqb k 0) (λ e. omega arith) (λ e. let q : k ≡ 0 → ⊥ = eqb-false k 0 e in omega arith)

pub at_least_itself : (k : ℕ) → k ≤ at_least_one k
unfolding at_least_one
at_least_itself k = pick_case (λ (z : ℕ). k ≤ z) (eqb k 0) (λ e. let q : k ≡ 0 = eqb-true k 0 e in omega arith) (λ e. omega arith)

-- A machine has as many registers as its count, and a nonconsecutive one more.
pub term_count_small : (x : SeqTerm) → term_count x ≤ term_registers x
unfolding term_registers
term_count_small (BoolTerm a) = omega arith
term_count_small (Goto b k) = at_least_itself k
term_count_small (Nonconsec b k) = omega (arith, at_least_itself k)
term_count_small (ConsecAtLeast b k) = at_least_itself k
term_count_small Empty = omega arith
