-- Two words compared byte by byte; and the two ends of a program.
use Rattle.std.proofs.Common.{◌≡◌, refl, ◌∙◌, Bool, true, false, ◌&&◌, List, [], ◌∷◌, ℕ, eqb, ◌⊎◌, inl, inr}
use Rattle.std.specs.Cmp.Lexicographic.{pointwise}
use Rattle.std.proofs.lemmas.Bool.Decides.{nat_tests}
use Rattle.words.specs.Choice.{pick, pick_true, pick_false}
use Rattle.tool.specs.Request.{same_bytes, status_after}

-- A test before another.
pick_is_and : (b x : Bool) → pick b x false ≡ (b && x)
unfolding pick
pick_is_and true x = refl
pick_is_and false x = refl

-- Bytes are compared as std does.
pub same_is_pointwise : (a b : List ℕ) → same_bytes a b ≡ pointwise eqb a b
unfolding same_bytes
same_is_pointwise [] [] = refl
same_is_pointwise [] (y ∷ ys) = refl
same_is_pointwise (x ∷ xs) [] = refl
same_is_pointwise (x ∷ xs) (y ∷ ys) = rw (same_is_pointwise xs ys) (pick_is_and (eqb x y) (pointwise eqb xs ys))

pub ruleset asking = (same_is_pointwise, pick_true, pick_false, nat_tests)

-- A program ends with its own status or with 2.
pub ends_so : {status : ℕ} (written : Bool) {r : ℕ} → r ≡ status_after written status → (r ≡ status) ⊎ (r ≡ 2)
unfolding status_after
ends_so true e = inl (e ∙ pick_true _ _ refl)
ends_so false e = inr (e ∙ pick_false _ _ refl)
