-- How a listing runs on, tick after tick, on whatever is lent: what it answers and stores; and that a run which stops is the beginning
-- of one that goes on for good.
use mathlib.Core.Path.{◌≡◌, refl}
use mathlib.Core.List.{List}
use Prim.Native.Nat.{ℕ, zero, suc, ◌≤◌, ◌<◌}
use native.Mathlib.Omega.{arith}
use borrow.Author.Tests.{ltb-true, lt-ltb}
use lib.Dec.{ltb}
use lib.ListN.{length, take}
use Rattle.words.specs.Choice.{pick, pick_true, pick_case}
use Rattle.meaning.specs.Tick.{tick, next_after}
use Rattle.std.specs.Prelude.{Result}
use Rattle.meaning.specs.declared.refusal.TickRefusal.{TickRefusal}

-- A listing, and what is lent at each tick.
module _ (listing : List ℕ) (atoms next stack : ℕ → List ℕ) where
  -- What a tick answers, and what it leaves in next.
  abbrev pub answer_from : List ℕ → ℕ → Result ℕ TickRefusal
  answer_from cur n = tick listing cur (atoms n) (length (next n)) (length (stack n))

  abbrev pub stored_from : List ℕ → ℕ → List ℕ
  stored_from cur n = next_after (answer_from cur n) listing cur (atoms n) (next n)

  -- Up to the last tick what a run had, and then what each tick left in next.
  module _ (cur : ℕ → List ℕ) (last : ℕ) where
    abbrev pub gone_on : ℕ → List ℕ
    gone_on zero = cur zero
    gone_on (suc n) = pick (ltb n last) (cur (suc n)) (stored_from (gone_on n) n)

    -- The run that goes on is the same run until the last tick.
    pub the_same_until_last : (n : ℕ) → n ≤ last → gone_on n ≡ cur n
    the_same_until_last zero l = refl
    the_same_until_last (suc n) l = pick_true _ _ (lt-ltb n last l)

    -- Where the registers were what each tick had left, they are so for good.
    pub goes_on_for_good : (registers : ℕ) → ((n : ℕ) → n < last → take registers (cur (suc n)) ≡ take registers (stored_from (cur n) n))
        → (n : ℕ) → take registers (gone_on (suc n)) ≡ take registers (stored_from (gone_on n) n)
    goes_on_for_good registers went_on n =
        pick_case (λ (then : List ℕ). take registers then ≡ take registers (stored_from (gone_on n) n)) (ltb n last)
        (λ e. let l = ltb-true n last e in rw (the_same_until_last n (omega arith)) (went_on n l)) (λ _. refl)
