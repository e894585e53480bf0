-- The text of a kept alternative stands after its last step, whose registers are its last ones: as `text` meets it.
use mathlib.Core.Path.{◌≡◌}
use mathlib.Core.List.{List}
use Prim.Native.Nat.{ℕ, ◌+◌, ◌-◌, ◌≤◌}
use native.Mathlib.Omega.{arith}
use mir.Val.{Fits}
use mir.Syntax.{w32}
use lib.ListN.{length}
use Rattle.words.specs.Written.{Wrote}
use Rattle.term.specs.declared.Kept.{Kept}
use Rattle.current.specs.Text.{registers_at, registers_before, text_at}
use Rattle.current.specs.Walk.{Ready}
use Rattle.current.proofs.Walk.{registers_less}
use Rattle.pipeline.proofs.Laws.{ready_at}
use Rattle.alternative.specs.Keeping.{Ended, kept_text}

module _ {W : List ℕ} {a : Kept} {next own : ℕ} (E : Ended W a next) (q : own ≡ registers_at W a (a.steps - 1)) where
  last_register : next ≡ a.register + registers_before W a (a.steps - 1) + own
  last_register = omega (arith, E.behind, q, registers_less W a a.steps E.placed.whole.some)

  pub own_fit : Fits w32 own
  own_fit = omega (arith, last_register, E.behind, E.placed.registers)

  pub own_below : own ≤ next
  own_below = omega (arith, last_register)

  first_of_last : next - own ≡ a.register + registers_before W a (a.steps - 1)
  first_of_last = omega (arith, last_register)

  pub last_ready : Ready W a (a.steps - 1) (next - own)
  last_ready = ready_at E.placed (a.steps - 1) (omega (arith, E.placed.whole.some)) first_of_last

  pub text_room : (o : List ℕ) (at : ℕ) → at + length (kept_text W a) ≤ length o → at + length (text_at W a (a.steps - 1) (next - own)) ≤ length o
  unfolding kept_text
  text_room o at room = rw first_of_last room

  pub text_written : {o o₁ : List ℕ} {at p : ℕ} → Wrote o o₁ at p (text_at W a (a.steps - 1) (next - own)) → Wrote o o₁ at p (kept_text W a)
  unfolding kept_text
  text_written w = rw (← first_of_last) w
