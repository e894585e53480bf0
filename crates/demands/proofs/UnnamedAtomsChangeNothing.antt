-- SPECIFICATION, "Tick": "An atom that the listing never names has no influence." Of the contracts: two ticks whose atoms are alike in all that the
-- listing names have one outcome, whatever their other atoms are and however many.
use mathlib.Core.Path.{◌≡◌, sym, ◌∙◌}
use mathlib.Core.List.{List}
use Prim.Native.Nat.{ℕ}
use lib.ListN.{length}
use Rattle.meaning.specs.Tick.{AlikeWhereNamed}
use Rattle.meaning.proofs.UnnamedAtoms.{unnamed_atoms_change_no_answer, unnamed_atoms_change_no_register}
use Rattle.tick.specs.Stepped.{Stepped}
use Rattle.sva_c.specs.Boundary.{TicksForC}
use Rattle.demands.proofs.RunsForC.{a_tick_for_C_is_a_tick}
use Rattle.std.specs.Prelude.{Result}
use Rattle.meaning.specs.declared.refusal.TickRefusal.{TickRefusal}

module _ {ws cur atoms atoms' next next₁ next₂ stack stack₁ stack₂ : List ℕ} where
  -- Neither the answer nor what is left in next and in the stack.
  pub an_atom_that_the_listing_never_names_changes_nothing : {r₁ r₂ : Result ℕ TickRefusal} → AlikeWhereNamed ws atoms atoms'
      → Stepped ws cur atoms next next₁ stack stack₁ r₁ → Stepped ws cur atoms' next next₂ stack stack₂ r₂
      → (r₁ ≡ r₂) × (next₁ ≡ next₂) × (stack₁ ≡ stack₂)
  an_atom_that_the_listing_never_names_changes_nothing {r₁} {r₂} alike one two =
      let same : r₁ ≡ r₂ = one.answer ∙ unnamed_atoms_change_no_answer cur atoms atoms' ws alike (length next) (length stack) ∙ sym two.answer in (
        same,
        one.next_holds ∙ unnamed_atoms_change_no_register cur atoms atoms' r₁ ws alike next ∙ rw same (sym two.next_holds),
        one.stack_holds ∙ rw same (sym two.stack_holds),
      )

  -- Nor does it change anything that `sva_tick` returns or stores, with the same byte held where the match bit goes.
  pub an_atom_that_the_listing_never_names_changes_nothing_for_C : {held number₁ number₂ matched₁ matched₂ place₁ place₂ : ℕ} → AlikeWhereNamed ws atoms atoms'
      → TicksForC ws cur atoms next stack held number₁ next₁ stack₁ matched₁ place₁ → TicksForC ws cur atoms' next stack held number₂ next₂ stack₂ matched₂ place₂
      → (number₁ ≡ number₂) × (next₁ ≡ next₂) × (stack₁ ≡ stack₂) × (matched₁ ≡ matched₂) × (place₁ ≡ place₂)
  an_atom_that_the_listing_never_names_changes_nothing_for_C alike one two =
      let (same, as-next, as-stack) = an_atom_that_the_listing_never_names_changes_nothing alike (a_tick_for_C_is_a_tick one) (a_tick_for_C_is_a_tick two) in (
        one.number_is ∙ rw same (sym two.number_is),
        as-next,
        as-stack,
        one.match_is ∙ rw same (sym two.match_is),
        one.place_is ∙ rw same (sym two.place_is),
      )
