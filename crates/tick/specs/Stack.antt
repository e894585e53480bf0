-- A lent slice as the stack of an expression: the values stand in its first places, the top last.
-- Example: the slice 1, 0, 7 at height 2 is the stack with 0 on top of 1.
use Rattle.std.specs.Prelude.{◌≡◌, true, List, [], ◌∷◌, ℕ, zero, suc, ◌<◌, ◌≤◌, eqb, length, get_or, take}
use Rattle.words.specs.Choice.{pick}
use Rattle.words.specs.Written.{written}
use Rattle.meaning.specs.Listing.{operation, argument, height, registers, deepest, atoms_named}
use Rattle.meaning.specs.Check.{check}
use Rattle.meaning.specs.Tick.{stack_after, stored, matched, all_bits, named_bits}
use Rattle.meaning.specs.Answers.{described}
use Rattle.listing.specs.Operands.{OperandFound}

-- The stack, top first, that stands in the first h places.
unfoldable pub stack_in : List ℕ → ℕ → List ℕ
stack_in places zero = []
stack_in places (suc h) = get_or places h 0 ∷ stack_in places h

-- What a word names is lent, of so many registers and atoms.
pub record Lent (cur atoms w : ℕ) : Type 0 where
  pub atom : operation w ≡ 1 → argument w < atoms
  pub register : operation w ≡ 2 → argument w < cur

-- What operations 1 to 4 put on the stack: an atom, a register, zero, one.
unfoldable pub value_of : List ℕ → List ℕ → ℕ → ℕ
value_of cur atoms w =
    pick (eqb (operation w) 1) (get_or atoms (argument w) 0) (pick (eqb (operation w) 2) (get_or cur (argument w) 0) (pick (eqb (operation w) 3) 0 1))

-- What a word of an expression, operations 1 to 8, asks of so many registers and atoms, and of the stack.
pub record Applicable (cur atoms : ℕ) (places : List ℕ) (h w : ℕ) : Type 0 where
  pub operand : OperandFound h w
  pub value : operation w < 9
  pub inside : h ≤ length places
  pub room : height h w ≤ length places
  pub lent : Lent cur atoms w
  pub bits : all_bits (stack_in places h) ≡ true

-- The stack after a word of an expression.
pub record Applied (cur atoms places after : List ℕ) (h w r : ℕ) : Type 0 where
  pub long : length after ≡ length places
  pub high : r ≡ height h w
  pub holds : stack_in after r ≡ stack_after cur atoms w (stack_in places h)

-- All that refusals 21, 22 and 23 leave: the premises of the evaluation.
pub record Ready (ws cur atoms next places : List ℕ) : Type 0 where
  pub described : check ws ≡ described
  pub cur_long : registers ws ≤ length cur
  pub next_long : registers ws ≤ length next
  pub atoms_long : atoms_named ws ≤ length atoms
  pub stack_long : deepest ws ≤ length places
  pub cur_bits : all_bits (take (registers ws) cur) ≡ true
  pub atom_bits : named_bits atoms ws ≡ true

-- The registers' stores in `next`, and the match bit.
pub record Evaluated (ws cur atoms next after : List ℕ) (bit : ℕ) : Type 0 where
  pub answer : bit ≡ matched cur atoms ws []
  pub holds : after ≡ written next 0 (stored cur atoms ws [])
