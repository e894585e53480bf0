-- What a program in C does, and what demand 3 lets it expect: the same as in Shipped, of the contracts of `sva_lower` and `sva_tick`.
-- Example: of `a ##1 b` sva_lower returns 0 and stores 1, 8 and 2. At a tick where a match ends sva_tick returns 0 and stores 1.
use Rattle.std.specs.Prelude.{◌≡◌, ◌↔◌, ◌⊎◌, List, ℕ, ◌<◌, take}
use Rattle.sva_c.specs.Boundary.{LowersForC, TicksForC}
use Rattle.matches.specs.Answers.{AMatchEnds}
use Rattle.demands.specs.Shipped.{Lent}

-- At tick n number n is returned, held n is where the match bit goes before the call and matched n after it, and place n is the place.
pub record RunsForC (ticks : ℕ) (tree work work' out out' : List ℕ) (registers words deepest fault : ℕ)
    (cur atoms next next' stack stack' : ℕ → List ℕ) (held number matched place : ℕ → ℕ) : Type 0 where
  -- The contract of `sva_lower`, at a returned 0.
  pub lowered : LowersForC tree work out 0 work' out' registers words deepest fault
  -- The contract of `sva_tick`, at each tick, for the words that were handed out.
  pub ticked : (n : ℕ) → n < ticks
      → TicksForC (take words out') (cur n) (atoms n) (next n) (stack n) (held n) (number n) (next' n) (stack' n) (matched n) (place n)
  -- What the caller lends.
  pub lent : Lent ticks (take words out') registers deepest cur atoms next next' stack

-- Demand 3 at tick n: 0 is returned, and the match bit is 1 exactly when a match ends there, 0 exactly when none does.
pub record MeetsTheStandardForC (tree : List ℕ) (atoms : ℕ → List ℕ) (n number matched : ℕ) : Type 0 where
  pub not_refused : number ≡ 0
  pub one : (matched ≡ 1) ↔ AMatchEnds tree atoms n
  pub none : (matched ≡ 0) ↔ (AMatchEnds tree atoms n → ⊥)
  pub a_bit : (matched ≡ 1) ⊎ (matched ≡ 0)
