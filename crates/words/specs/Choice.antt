-- A choice by a test. It is shut, so that a proof still sees the test and both branches after everything else computed.
-- Example: a chain of refusals is `pick (test 1) refusal-1 (pick (test 2) refusal-2 answer)`, and each return of the
-- code that makes these tests is answered by `search tests`.
use Rattle.std.specs.Prelude.{◌≡◌, refl, Bool, true, false, ◌⊎◌}
use Rattle.std.proofs.Common.{lt-ltb, le-ltb, le-leb, eq-eqb, ne_eqb}
use Rattle.std.proofs.lemmas.Bool.{lt-leb}

-- The first branch where the test holds, else the second.
unfoldable pub pick : {A : Type 0} → Bool → A → A → A
pick true x y = x
pick false x y = y

pub pick_true : {A : Type 0} {b : Bool} (x y : A) → b ≡ true → pick b x y ≡ x
unfolding pick
pick_true x y e = rw e

pub pick_false : {A : Type 0} {b : Bool} (x y : A) → b ≡ false → pick b x y ≡ y
unfolding pick
pick_false x y e = rw e

-- The test says whether P holds.
abbrev pub Tells : Bool → Type 0 → Type 0
Tells b P = ((b ≡ true) × P) ⊎ ((b ≡ false) × (P → ⊥))

-- Equal branches, each compared only where it is taken.
pub pick_cong : {A : Type 0} (b : Bool) {x x' y y' : A} → (b ≡ true → x ≡ x') → (b ≡ false → y ≡ y') → pick b x y ≡ pick b x' y'
unfolding pick
pick_cong true f g = f refl
pick_cong false f g = g refl

-- What holds of each branch where it is taken holds of the choice.
pub pick_case : {A : Type 0} (P : A → Type 0) (b : Bool) {x y : A} → (b ≡ true → P x) → (b ≡ false → P y) → P (pick b x y)
unfolding pick
pick_case P true f g = f refl
pick_case P false f g = g refl

pub pick_yes : {A : Type 0} {r x : A} {b : Bool} (y : A) → b ≡ true → r ≡ x → r ≡ pick b x y
unfolding pick
pick_yes y e q = rw e q

pub pick_no : {A : Type 0} {r y : A} {b : Bool} (x : A) → b ≡ false → r ≡ y → r ≡ pick b x y
unfolding pick
pick_no x e q = rw e q

-- For a return behind a chain of tests; `search tests depth 9` where the chain is long.
pub ruleset tests = (pick_yes, pick_no, lt-ltb, le-ltb, le-leb, lt-leb, eq-eqb, ne_eqb)
