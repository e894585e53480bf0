-- Words put one part after the other, as equations: what the check needs, and no more, to follow a function that puts them. They assume nothing.
use mathlib.Core.Path.{◌≡◌, refl, sym}
use mathlib.Core.List.{List, [], ◌∷◌, ◌++◌}
use Prim.Native.Nat.{ℕ, ◌+◌}
use lib.ListN.{length, length-append}
use Rattle.words.specs.Choice.{pick_true, pick_false}
use Rattle.words.specs.Written.{written, Wrote}
use Rattle.words.proofs.Laws.{length-written, two_parts, nothing_written}

put_there : (o : List ℕ) (at : ℕ) (ws : List ℕ) → Wrote o (written o at ws) at (at + length ws) ws
put_there o at ws = record { holds = refl; ends = refl }

pub written_none : (o : List ℕ) (at : ℕ) → written o at [] ≡ o
written_none o at = sym (nothing_written o at).holds

pub written_parts : (o : List ℕ) (at : ℕ) (xs ys : List ℕ) → written o at (xs ++ ys) ≡ written (written o at xs) (at + length xs) ys
written_parts o at xs ys = sym (two_parts (put_there o at xs) (put_there (written o at xs) (at + length xs) ys)).holds

pub written_one : (o : List ℕ) (at w : ℕ) (ws : List ℕ) → written o at (w ∷ ws) ≡ written (written o at (w ∷ [])) (at + 1) ws
written_one o at w ws = written_parts o at (w ∷ []) ws

pub ruleset parts = (length-append, length-written, written_none, written_parts, written_one, pick_true, pick_false)
