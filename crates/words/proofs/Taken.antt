-- Which way a choice went, from what it gave: how an answer that is no refusal is read backwards. And choices between truths,
-- which are tests made of tests. Assumes nothing.
use mathlib.Core.Path.{◌≡◌, refl, sym, ◌∙◌}
use mathlib.Core.Bool.{Bool, true, false}
use mathlib.Core.Logic.{inl, inr}
use Prim.Native.Nat.{ℕ}
use native.Mathlib.Omega.{arith}
use Rattle.words.specs.Choice.{pick, Tells}

-- The second branch cannot give r, so the test holds.
pub first_taken : {A : Type 0} (b : Bool) {x y r : A} → (y ≡ r → ⊥) → pick b x y ≡ r → (b ≡ true) × (x ≡ r)
unfolding pick
first_taken true f e = (refl, e)
first_taken false f e = absurd (f e)

-- The first branch cannot give r, so the test does not hold.
pub second_taken : {A : Type 0} (b : Bool) {x y r : A} → (x ≡ r → ⊥) → pick b x y ≡ r → (b ≡ false) × (y ≡ r)
unfolding pick
second_taken true f e = absurd (f e)
second_taken false f e = (refl, e)

-- For a test that was passed.
pub false_is_not_true : false ≡ true → ⊥
false_is_not_true e = let z : ◌≡◌ {A = ℕ} 0 1 = cc in omega arith

-- What a test says whether it holds does, where the test holds, and does not, where it fails.
pub told : {b : Bool} {P : Type 0} → Tells b P → b ≡ true → P
told (inl (e, p)) q = p
told (inr (e, n)) q = absurd (false_is_not_true (sym e ∙ q))

pub told_not : {b : Bool} {P : Type 0} → Tells b P → b ≡ false → P → ⊥
told_not (inl (e, p)) q = absurd (false_is_not_true (sym q ∙ e))
told_not (inr (e, n)) q = n

-- A test before another: both hold.
pub both_hold : (b : Bool) {x : Bool} → pick b x false ≡ true → (b ≡ true) × (x ≡ true)
both_hold b e = first_taken b false_is_not_true e

-- A test that would have refused, before another: the first fails and the second holds.
pub second_holds : (b : Bool) {x : Bool} → pick b false x ≡ true → (b ≡ false) × (x ≡ true)
second_holds b e = second_taken b false_is_not_true e

-- Of two tests that would each have been enough, neither holds.
pub neither_holds : (b : Bool) {x : Bool} → pick b true x ≡ false → (b ≡ false) × (x ≡ false)
neither_holds b e = second_taken b (λ z. false_is_not_true (sym z)) e

-- One test.
pub one_test : (b : Bool) → pick b true false ≡ b
unfolding pick
one_test true = refl
one_test false = refl

-- One test, made twice.
pub made_twice : (b : Bool) → pick b b false ≡ b
unfolding pick
made_twice true = refl
made_twice false = refl

-- A test that is false whatever the other.
pub no_test : (b : Bool) → pick b false false ≡ false
unfolding pick
no_test true = refl
no_test false = refl
