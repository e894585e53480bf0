-- The search for the lowest node that fails a test, as the loops make it, and what follows it. Assumes nothing.
use mathlib.Core.Path.{◌≡◌, refl, sym, ◌∙◌}
use mathlib.Core.Bool.{Bool, true, false}
use Prim.Native.Nat.{ℕ, zero, suc, ◌+◌, ◌<◌, ◌≤◌}
use native.Mathlib.Omega.{arith}
use native.Mathlib.Decide.{ℕ_discrete}
use Rattle.std.specs.Prelude.{Result, Err}
use Rattle.words.specs.Choice.{pick, pick_true, pick_yes, pick_no}
use Rattle.meaning.specs.Refusals.{lowest_failing}
use Rattle.meaning.specs.Answers.{formed}
use Rattle.meaning.specs.declared.refusal.Refusal.{Refusal}
use Rattle.words.proofs.Taken.{first_taken}
use Rattle.meaning.proofs.Formed.{misformed_is_not_formed}

-- From n on, the lowest node that fails: it fails, and those before it pass.
lowest_from : (refusal : ℕ → Refusal) (test : ℕ → Bool) (then : Result (Unit {0}) Refusal) (count n place : ℕ) → n ≤ place → place < n + count
    → ((k : ℕ) → k < place → test k ≡ true) → test place ≡ false → Err (refusal place) ≡ lowest_failing refusal test count n then
unfolding lowest_failing
lowest_from refusal test then zero n place l h pass fail = absurd (omega arith)
lowest_from refusal test then (suc count) n place l h pass fail = elim (ℕ_discrete n place) [
  | yes here ↦ pick_no _ (rw here fail) (rw here refl)
  | no before ↦ pick_yes _ (pass n (omega arith)) (lowest_from refusal test then count (n + 1) place (omega arith) (omega arith) pass fail)
]

-- The lowest node that fails is refused.
pub lowest_fails : (refusal : ℕ → Refusal) (test : ℕ → Bool) (count n : ℕ) → n < count → ((k : ℕ) → k < n → test k ≡ true) → test n ≡ false
    → Err (refusal n) ≡ lowest_failing refusal test count 0 formed
lowest_fails refusal test count n h pass fail = lowest_from refusal test formed count 0 n (omega arith) (omega arith) pass fail

-- Where no node fails, what comes then is the answer.
none_from : (refusal : ℕ → Refusal) (test : ℕ → Bool) (then : Result (Unit {0}) Refusal) (count n : ℕ) → ((k : ℕ) → k < n + count → test k ≡ true)
    → then ≡ lowest_failing refusal test count n then
unfolding lowest_failing
none_from refusal test then zero n pass = refl
none_from refusal test then (suc count) n pass =
    pick_yes _ (pass n (omega arith)) (none_from refusal test then count (n + 1) (λ k h. pass k (omega arith)))

pub none_fails : (refusal : ℕ → Refusal) (test : ℕ → Bool) (count : ℕ) → ((k : ℕ) → k < count → test k ≡ true)
    → formed ≡ lowest_failing refusal test count 0 formed
none_fails refusal test count pass = none_from refusal test formed count 0 (λ k h. pass k (omega arith))

-- Where each node passes, what comes then is the answer.
pub then_follows : (refusal : ℕ → Refusal) (test : ℕ → Bool) (then : Result (Unit {0}) Refusal) (count n : ℕ) → lowest_failing refusal test count n formed ≡ formed
    → lowest_failing refusal test count n then ≡ then
unfolding lowest_failing
then_follows refusal test then zero n e = refl
then_follows refusal test then (suc count) n e =
    let (passes, more) = first_taken (test n) misformed_is_not_formed e in pick_true _ _ passes ∙ then_follows refusal test then count (n + 1) more

-- A refusal behind a test stays where the other branch keeps it.
refused_here : {x x' r : Result (Unit {0}) Refusal} (y : Result (Unit {0}) Refusal) (b : Bool) → (x ≡ r → x' ≡ r) → pick b x y ≡ r → pick b x' y ≡ r
unfolding pick
refused_here y true f e = f e
refused_here y false f e = e

-- A refusal is the answer, whatever would come after it.
pub refused_first : (refusal : ℕ → Refusal) (test : ℕ → Bool) (then : Result (Unit {0}) Refusal) {why : Refusal} (count n : ℕ)
    → lowest_failing refusal test count n formed ≡ Err why → lowest_failing refusal test count n then ≡ Err why
unfolding lowest_failing
refused_first refusal test then zero n e = absurd (misformed_is_not_formed (sym e))
refused_first refusal test then (suc count) n e =
    refused_here (Err (refusal n)) (test n) (λ e'. refused_first refusal test then count (n + 1) e') e

-- Tests that agree on the nodes that are looked at refuse the same node.
pub same_lowest : (refusal : ℕ → Refusal) (test test' : ℕ → Bool) (then : Result (Unit {0}) Refusal) (count n : ℕ) → ((m : ℕ) → m < n + count → test m ≡ test' m)
    → lowest_failing refusal test count n then ≡ lowest_failing refusal test' count n then
unfolding lowest_failing
same_lowest refusal test test' then zero n same = refl
same_lowest refusal test test' then (suc count) n same =
    rw (same n (omega arith), same_lowest refusal test test' then count (n + 1) (λ m l. same m (omega arith))) refl
