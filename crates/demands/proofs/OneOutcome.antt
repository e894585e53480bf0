-- Why the contracts here leave one outcome: each is an equation for the result, words written from a place on, or a record of such
-- equations. One law for each form; the files beside this one name the functions, crate by crate.
use mathlib.Core.Path.{◌≡◌, sym, ap, ap₂, ◌∙◌}
use mathlib.Core.List.{List}
use Prim.Native.Nat.{ℕ}
use seplogic.Ra.Ura.{Ura}
use base.Logic.{ent, sep, via, mono∗, fst∗, snd∗}
use contract.Monad.{fact, fact_i, fact_use}
use Rattle.words.specs.Written.{Wrote}
use Rattle.demands.specs.OneOutcome.{Outcome}

-- An outcome, from its two parts.
abbrev pub outcome : {R L : Type 0} → R → L → Outcome R L
outcome r l = record { result = r; left = l }

-- Equal results are equal outcomes where nothing is lent to be written.
pub same_result : {R L : Type 0} {r r' : R} {l : L} → r ≡ r' → outcome r l ≡ outcome r' l
same_result {l = l} p = ap (λ r. outcome r l) p

-- Where one slice is lent to be written, `leaving` is what is left, from the list in it.
pub same_outcome : {R L : Type 0} (leaving : List ℕ → L) {r r' : R} {x x' : List ℕ} → r ≡ r' → x ≡ x' → outcome r (leaving x) ≡ outcome r' (leaving x')
same_outcome leaving p q = ap₂ outcome p (ap leaving q)

-- Where two slices are lent to be written, `leaving` is what is left, from the lists in them.
pub same_outcome_of_two : {R L : Type 0} (leaving : List ℕ → List ℕ → L) {r r' : R} {x x' y y' : List ℕ}
    → r ≡ r' → x ≡ x' → y ≡ y' → outcome r (leaving x y) ≡ outcome r' (leaving x' y')
same_outcome_of_two leaving p q s = ap₂ outcome p (ap₂ leaving q s)

-- Two things that are equal to a third.
pub same : {A : Type 0} {x y v : A} → x ≡ v → y ≡ v → x ≡ y
same p q = p ∙ sym q

-- Words written twice from the same place on leave the same behind.
wrote_the_same : {A L : Type 0} (leaving : List A → L) {before after after' words : List A} {place next next' : ℕ}
    → Wrote before after place next words → Wrote before after' place next' words → outcome next (leaving after) ≡ outcome next' (leaving after')
wrote_the_same leaving w w' = ap₂ outcome (same w.ends w'.ends) (ap leaving (same w.holds w'.holds))

module _ {M : Type 1} (𝓤 : Ura M) where
  -- What two claims of a contract give together.
  pub from_both : {φ φ' ψ : Type 0} → (φ → φ' → ψ) → ent 𝓤 (sep 𝓤 (fact 𝓤 φ) (fact 𝓤 φ')) (fact 𝓤 ψ)
  from_both {φ} {φ'} {ψ} f =
      let P = sep 𝓤 (fact 𝓤 φ) (fact 𝓤 φ') in
      fact_use 𝓤 φ (fst∗ 𝓤 (fact 𝓤 φ) (fact 𝓤 φ')) (λ p. fact_use 𝓤 φ' (snd∗ 𝓤 (fact 𝓤 φ) (fact 𝓤 φ')) (λ p'. fact_i 𝓤 ψ P (f p p')))

  -- The same of contracts of two clauses.
  pub from_all : {φ χ φ' χ' ψ : Type 0} → (φ → χ → φ' → χ' → ψ)
      → ent 𝓤 (sep 𝓤 (sep 𝓤 (fact 𝓤 φ) (fact 𝓤 χ)) (sep 𝓤 (fact 𝓤 φ') (fact 𝓤 χ'))) (fact 𝓤 ψ)
  from_all {φ} {χ} {φ'} {χ'} {ψ} f =
      via 𝓤 (sep 𝓤 (fact 𝓤 (φ × χ)) (fact 𝓤 (φ' × χ')))
      (mono∗ 𝓤 (from_both (λ p q. (p, q))) (from_both (λ p q. (p, q))))
      (from_both (λ p p'. f p.0 p.1 p'.0 p'.1))

  -- The result equals a value that the arguments name, and nothing is lent to be written.
  pub by_an_equation : {R L : Type 0} {r r' v : R} {l : L} → ent 𝓤 (sep 𝓤 (fact 𝓤 (r ≡ v)) (fact 𝓤 (r' ≡ v))) (fact 𝓤 (outcome r l ≡ outcome r' l))
  by_an_equation = from_both (λ p p'. same_result (same p p'))

  -- The result equals a value that the arguments name, and a bound is promised too.
  pub by_an_equation_and_a_bound : {R L : Type 0} {r r' v : R} {l : L} {χ χ' : Type 0}
      → ent 𝓤 (sep 𝓤 (sep 𝓤 (fact 𝓤 (r ≡ v)) (fact 𝓤 χ)) (sep 𝓤 (fact 𝓤 (r' ≡ v)) (fact 𝓤 χ'))) (fact 𝓤 (outcome r l ≡ outcome r' l))
  by_an_equation_and_a_bound = from_all (λ p b p' b'. same_result (same p p'))

  -- The words are written from a place on, and the result is the next place.
  pub by_writing : {A L : Type 0} (leaving : List A → L) {before after after' words : List A} {place next next' : ℕ}
      → ent 𝓤 (sep 𝓤 (fact 𝓤 (Wrote before after place next words)) (fact 𝓤 (Wrote before after' place next' words)))
      (fact 𝓤 (outcome next (leaving after) ≡ outcome next' (leaving after')))
  by_writing leaving = from_both (wrote_the_same leaving)

  -- Words are put into the one slice, the result is the next place, and a bound is promised too.
  pub by_writing_and_a_bound : {L : Type 0} (leaving : List ℕ → L) {before after after' words : List ℕ} {place next next' : ℕ} {χ χ' : Type 0}
      → ent 𝓤 (sep 𝓤 (sep 𝓤 (fact 𝓤 (Wrote before after place next words)) (fact 𝓤 χ)) (sep 𝓤 (fact 𝓤 (Wrote before after' place next' words)) (fact 𝓤 χ')))
      (fact 𝓤 (outcome next (leaving after) ≡ outcome next' (leaving after')))
  by_writing_and_a_bound leaving = from_all (λ w b w' b'. wrote_the_same leaving w w')

  -- The result and what one slice holds are two equations.
  pub by_equations : {R L : Type 0} (leaving : List ℕ → L) {r r' v : R} {after after' list : List ℕ}
      → ent 𝓤 (sep 𝓤 (sep 𝓤 (fact 𝓤 (r ≡ v)) (fact 𝓤 (after ≡ list))) (sep 𝓤 (fact 𝓤 (r' ≡ v)) (fact 𝓤 (after' ≡ list))))
      (fact 𝓤 (outcome r (leaving after) ≡ outcome r' (leaving after')))
  by_equations leaving = from_all (λ p q p' q'. same_outcome leaving (same p p') (same q q'))
