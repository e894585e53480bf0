-- One tick as its caller sees it: the answer, and what the two lent slices hold afterwards, on refusal too.
use Rattle.std.specs.Prelude.{◌≡◌, Result, List, length, ℕ}
use Rattle.meaning.specs.Tick.{tick, next_after, stack_left}
use Rattle.meaning.specs.declared.refusal.TickRefusal.{TickRefusal}

-- Each part is an equation, so that one outcome is possible.
pub record Stepped (ws cur atoms next next' stack stack' : List ℕ) (r : Result ℕ TickRefusal) : Type 0 where
  pub answer : r ≡ tick ws cur atoms (length next) (length stack)
  pub next_holds : next' ≡ next_after r ws cur atoms next
  pub stack_holds : stack' ≡ stack_left r stack
