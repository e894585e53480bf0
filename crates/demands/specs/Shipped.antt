-- What a caller of the shipped functions does, and what demand 3 lets it expect. It speaks of the contracts of `lower` and of
-- `tick`, and of the standard's matches, and of nothing between them.
-- Example: of `a ##1 b` the answer is `listed 1 8 2`. The caller lends tick the first 8 words of the output, one byte of
-- registers now and one for the next, two atoms, and a stack of two bytes.
use Rattle.std.specs.Prelude.{◌≡◌, ◌↔◌, ◌⊎◌, List, ℕ, zero, suc, ◌≤◌, ◌<◌, length, get_or, take, replicate}
use Rattle.meaning.specs.Listing.{Names, atoms_named}
use Rattle.lower.specs.Answers.{Lowers}
use Rattle.tick.specs.Stepped.{Stepped}
use Rattle.matches.specs.Answers.{AMatchEnds}
use Rattle.std.specs.Prelude.{Result}
use Rattle.meaning.specs.Answers.{listed, ticked}
use Rattle.meaning.specs.declared.refusal.TickRefusal.{TickRefusal}

-- What is lent at each of so many ticks, to a listing of so many registers and this deepest stack. What stands at tick n is cur n, and
-- so for all that is lent then; next' n is what next n holds after the call.
pub record Lent (ticks : ℕ) (listing : List ℕ) (registers deepest : ℕ) (cur atoms next next' stack : ℕ → List ℕ) : Type 0 where
  -- The registers are zero at tick 0, and at each later tick as the one before left them; what stands behind them is anything.
  pub zeroed : take registers (cur zero) ≡ replicate registers 0
  pub goes_on : (n : ℕ) → suc n < ticks → take registers (cur (suc n)) ≡ take registers (next' n)
  -- What is lent has the sizes that the answer counts, and an atom for each that the words name.
  pub next_long : (n : ℕ) → n < ticks → registers ≤ length (next n)
  pub stack_long : (n : ℕ) → n < ticks → deepest ≤ length (stack n)
  pub atoms_long : (n : ℕ) → n < ticks → atoms_named listing ≤ length (atoms n)
  -- Each atom that the words name is 0 or 1.
  pub atoms_bits : (n : ℕ) → n < ticks → (a : ℕ) → Names listing a → get_or (atoms n) a 0 ≤ 1

-- A tree is lowered once, and its listing is ticked so many times; a run without end is one of every number of ticks. A name with a
-- prime is what was lent, after the call.
pub record RunsAsShipped (ticks : ℕ) (tree work work' out out' : List ℕ) (registers words deepest : ℕ)
    (cur atoms next next' stack stack' : ℕ → List ℕ) (answer : ℕ → Result ℕ TickRefusal) : Type 0 where
  -- The contract of `lower`, at an answer that is a listing.
  pub lowered : Lowers tree 0 work out (listed registers words deepest) work' out'
  -- The contract of `tick`, at each tick, for the words that were handed out.
  pub ticked : (n : ℕ) → n < ticks → Stepped (take words out') (cur n) (atoms n) (next n) (next' n) (stack n) (stack' n) (answer n)
  -- What the caller lends.
  pub lent : Lent ticks (take words out') registers deepest cur atoms next next' stack

-- An answer that is no refusal.
abbrev pub IsABit : Result ℕ TickRefusal → Type 0
IsABit answer = (answer ≡ ticked 1) ⊎ (answer ≡ ticked 0)

-- Demand 3 of the answer at tick n: 1 exactly when a match ends there, 0 exactly when none does, and one of the two.
pub record MeetsTheStandard (tree : List ℕ) (atoms : ℕ → List ℕ) (n : ℕ) (answer : Result ℕ TickRefusal) : Type 0 where
  pub one : (answer ≡ ticked 1) ↔ AMatchEnds tree atoms n
  pub none : (answer ≡ ticked 0) ↔ (AMatchEnds tree atoms n → ⊥)
  pub a_bit : IsABit answer
