-- Words put from a mark on, part after part, and the registers taken with them; and the room for each part.
use mathlib.Core.Path.{◌≡◌, refl, ◌∙◌}
use mathlib.Core.List.{List, [], ◌++◌}
use Prim.Native.Nat.{ℕ, ◌+◌}
use native.Mathlib.Omega.{arith}
use lib.ListN.{length-append}
use Rattle.words.specs.Written.{written}
use Rattle.words.proofs.Laws.{nothing_written, still_long, two_parts}
use Rattle.pair.specs.declared.Mark.{Mark}
use Rattle.pair.specs.Pairs.{Marked}
use Rattle.within.specs.Passes.{moved, MarkRoom}

-- No words, one part, and a part behind another.
pub none_marked : (o : List ℕ) (m : Mark) → Marked o o m.place m [] (m.register + 0)
none_marked o m = record { wrote = nothing_written o m.place; next = omega arith }

pub one_marked : (o : List ℕ) (m : Mark) (ws : List ℕ) (n : ℕ) → Marked o (written o m.place ws) m.place (moved m ws n) ws (m.register + n)
one_marked o m ws n = record { wrote = record { holds = refl; ends = refl }; next = refl }

pub both_marked : {o o₁ o₂ : List ℕ} {at : ℕ} {m m₁ : Mark} {vs ws : List ℕ} {a b c : ℕ} → Marked o o₁ at m vs a → Marked o₁ o₂ m.place m₁ ws b → b ≡ c
    → Marked o o₂ at m₁ (vs ++ ws) c
both_marked M N e = record { wrote = two_parts M.wrote N.wrote; next = N.next ∙ e }

-- The words and registers that were put are those.
pub is_moved : (m : Mark) (n : ℕ) {o o₁ : List ℕ} {m₁ : Mark} {ws : List ℕ} {r : ℕ} → Marked o o₁ m.place m₁ ws r → r ≡ m.register + n
    → ◌≡◌ {A = Mark × List ℕ} (m₁, o₁) (moved m ws n, written o m.place ws)
is_moved m n M e i = (record { place = M.wrote.ends i; register = (M.next ∙ e) i }, M.wrote.holds i)

-- Room for two parts.
module _ {o : List ℕ} {m : Mark} (vs ws : List ℕ) (a b : ℕ) (R : MarkRoom m (vs ++ ws) (a + b) o) where
  pub first_fits : MarkRoom m vs a o
  first_fits = record { few = omega (arith, R.few); room = omega (arith, R.room, length-append vs ws) }

  pub rest_fits : {o₁ : List ℕ} {m₁ : Mark} → Marked o o₁ m.place m₁ vs (m.register + a) → MarkRoom m₁ ws b o₁
  rest_fits M = record {
    few = omega (arith, R.few, M.next);
    room = omega (arith, R.room, M.wrote.ends, still_long M.wrote, length-append vs ws);
  }
