-- What the test of a repetition says. Assumes nothing.
use mathlib.Core.Path.{◌≡◌, refl, sym, ◌∙◌}
use mathlib.Core.Bool.{Bool, true, false, not}
use Prim.Native.Nat.{◌<◌}
use native.Mathlib.Omega.{arith}
use native.Mathlib.Decide.{ℕ_discrete}
use lib.Dec.{eqb}
use borrow.Author.Tests.{eqb-true, eqb-false, ne_eqb, not-true}
use Rattle.words.specs.Choice.{pick}
use Rattle.words.proofs.Taken.{both_hold, false_is_not_true}
use Rattle.meaning.specs.Tree.{unlimited}
use Rattle.meaning.specs.declared.Node.{Node}
use Rattle.outline.specs.Outline.{is_repeated}

-- What the three tests of a repetition say where they hold.
pub record Repetition (v : Node) : Type 0 where
  pub kind : v.kind ≡ 3
  pub limited : v.max ≡ unlimited → ⊥
  pub live : 0 < v.max

pub repetition : (v : Node) {b : Bool} → b ≡ is_repeated v → b ≡ true → Repetition v
unfolding is_repeated
repetition v p q =
    let (three, more) = both_hold (eqb v.kind 3) (sym p ∙ q) in
    let (some, ends) = both_hold (not (eqb v.max 0)) more in
    let live = eqb-false v.max 0 (not-true _ some) in
    record { kind = eqb-true _ _ three; limited = eqb-false _ _ (not-true _ ends); live = omega arith }

-- A finite [*] that is no repetition is [*0].
pub no_repetition : (v : Node) {b : Bool} → b ≡ is_repeated v → b ≡ false → v.kind ≡ 3 → (v.max ≡ unlimited → ⊥) → v.max ≡ 0
unfolding is_repeated pick
no_repetition v p q k l = elim (ℕ_discrete v.max 0) [
  | yes z ↦ z
  | no z ↦ absurd (false_is_not_true (sym q ∙ p ∙ rw (k, ne_eqb v.max 0 z, ne_eqb v.max unlimited l) refl))
]
