-- The arithmetic of numbered alternatives as the code meets it: the two loops over copies, and what a repetition adds.
-- Assumes nothing.
use mathlib.Core.Path.{◌≡◌, refl, sym, ◌∙◌}
use Prim.Native.Nat.{ℕ, zero, suc, ◌+◌, ◌*◌, ◌-◌, ◌^◌, ◌<◌, ◌≤◌}
use native.Mathlib.Omega.{arith}
use native.Mathlib.Nat.{mul-le-mul, le_refl, add-zero, mul_assoc, mul-one, pow-zero, pow-suc}
use native.Mathlib.Numerals.{add-one}
use mir.Val.{Fits}
use mir.Syntax.{w32}
use borrow.Author.Tests.{lt-ltb, le-ltb}
use lib.Dec.{eqb}
use Rattle.words.specs.Choice.{pick_true, pick_false, pick_case}
use Rattle.expand.specs.ByNumber.{copies_count, block_of, empties}

-- One copy more multiplies by a, so that the counts do not fall.
copies_more : (a k : ℕ) → copies_count a (k + 1) ≡ copies_count a k * a
unfolding copies_count
copies_more a k = rw (add-one k) refl

copies_grow : (a k : ℕ) → 0 < a → copies_count a k ≤ copies_count a (suc k)
unfolding copies_count
copies_grow a k h =
    let b : copies_count a k * 1 ≤ copies_count a k * a = mul-le-mul (le_refl (copies_count a k)) (omega arith) in omega arith

copies_grow_by : (a j d : ℕ) → 0 < a → copies_count a j ≤ copies_count a (j + d)
copies_grow_by a j zero h = rw add-zero (le_refl (copies_count a j))
copies_grow_by a j (suc d) h =
    let e : j + suc d ≡ suc (j + d) = omega arith in rw e (omega (arith, copies_grow_by a j d h, copies_grow a (j + d) h))

-- More copies have no fewer alternatives.
pub copies_monotone : (a j k : ℕ) → 0 < a → j ≤ k → copies_count a j ≤ copies_count a k
copies_monotone a j k h p = let e : k ≡ j + (k - j) = omega arith in rw e (copies_grow_by a j (k - j) h)

-- What the loops multiply fits into 32 bits.
small_product : {a b : ℕ} → a ≤ 256 → b ≤ 256 → a * b ≤ 65536
small_product {a} {b} h k = let p : a * b ≤ 256 * 256 = mul-le-mul h k in omega arith

-- Copies are counted by a power.
pub copies_power : (a k : ℕ) → copies_count a k ≡ a * a ^ k
unfolding copies_count
copies_power a zero = sym (rw pow-zero (mul-one a))
copies_power a (suc k) = rw (copies_power a k, pow-suc) (mul_assoc a (a ^ k) a)

-- What `count_copies` computes fits into 32 bits.
pub power_fits : (a k : ℕ) → 0 < a → copies_count a k ≤ 256 → a ^ k < 4294967296
power_fits a k h q =
    let p : 1 * a ^ k ≤ a * a ^ k = mul-le-mul h (le_refl (a ^ k)) in omega (arith, copies_power a k)

pub copies_fit : (a k : ℕ) {p : ℕ} → p ≡ a ^ k → copies_count a k ≤ 256 → Fits w32 (a * p)
copies_fit a k e q = rw e (omega (arith, copies_power a k))

pub ruleset counting = (power_fits, copies_fit, copies_power)

-- The loop of `find_block`: number i of all blocks is number j of those from that of `later` on, whose count is p.
pub record Finding (a k more i p j later : ℕ) : Type 0 where
  pub power : p ≡ copies_count a later
  pub low : j ≤ i
  pub rest : block_of a k more i ≡ block_of a later (k + more - later) j

pub finding_begins : {a k more i p : ℕ} → p ≡ copies_count a k → Finding a k more i p i k
finding_begins {a} {k} {more} {i} e = record {
  power = e;
  low = omega arith;
  rest = (let f : k + more - k ≡ more = omega arith in rw f refl);
}

pub finding_here : {a k more i p j later : ℕ} → Finding a k more i p j later → later < k + more → j < p
    → record { later = later; index = j } ≡ block_of a k more i
unfolding block_of
finding_here {a} {k} {more} {i} {p} {j} {later} g h q =
    let e : k + more - later ≡ suc (k + more - (later + 1)) = omega arith in
    sym (g.rest ∙ rw e (pick_true _ _ (lt-ltb _ _ (rw g.power at q))))

pub finding_on : {a k more i p j later : ℕ} → Finding a k more i p j later → later < k + more → p ≤ j
    → Finding a k more i (p * a) (j - p) (later + 1)
unfolding block_of
finding_on {a} {k} {more} {i} {p} {j} {later} g h q =
    let e : k + more - later ≡ suc (k + more - (later + 1)) = omega arith in
    record {
      power = rw g.power (sym (copies_more a later));
      low = omega (arith, g.low);
      rest = g.rest ∙ rw (e, g.power, ← add-one later) (pick_false _ _ (le-ltb _ _ (rw g.power at q)));
    }

pub finding_fits : {a k more i p j later : ℕ} → a ≤ 256 → i ≤ 256 → Finding a k more i p j later → p ≤ j → Fits w32 (p * a)
finding_fits {a} {p = p} h q g x = omega (arith, small_product {a = p} {b = a} (omega (arith, g.low)) h)

pub finding_last : {a k more i p j later : ℕ} → Finding a k more i p j later → later ≤ k + more → k + more ≤ later
    → record { later = k + more; index = j } ≡ block_of a k more i
unfolding block_of
finding_last {a} {k} {more} {i} {p} {j} {later} g l h =
    let e : later ≡ k + more = omega arith in
    let f : k + more - (k + more) ≡ 0 = omega arith in
    sym (g.rest ∙ rw (e, f) refl)

pub ruleset finding = (finding_begins, finding_here, finding_fits, finding_last)

-- A number of Empties is 0 or 1.
pub empties_few : (min : ℕ) → empties min ≤ 1
unfolding empties
empties_few min = pick_case (λ (k : ℕ). k ≤ 1) (eqb min 0) (λ e. omega arith) (λ e. omega arith)
