-- One tick of a listing whose registers are then lent again: what was `next` is `cur`.
use Rattle.std.specs.Prelude.{◌≡◌, Result, List, length, ℕ}
use Rattle.meaning.specs.Tick.{tick, next_after, stack_left}
use Rattle.meaning.specs.declared.refusal.TickRefusal.{TickRefusal}

-- The answer and the stack are tick's, and `next` and `cur` both hold the registers after it.
pub record Advanced (ws cur cur' atoms next next' stack stack' : List ℕ) (r : Result ℕ TickRefusal) : Type 0 where
  pub answer : r ≡ tick ws cur atoms (length next) (length stack)
  pub next_holds : next' ≡ next_after r ws cur atoms next
  pub cur_holds : cur' ≡ next'
  pub stack_holds : stack' ≡ stack_left r stack
