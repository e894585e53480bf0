-- DEMAND 3. For every tree that lowering accepts, in which throughout stands only at the root or directly under another
-- throughout: run its words from zeroed registers, with atoms 0 or 1; at each tick the match is 1 exactly when some match of the
-- tree, as the standard defines it, began at tick 0 or later and ends there.
--
-- Read beside it: specs/Match.antt (what a match is), specs/Lower.antt (what lowering answers), specs/Demand3.antt (the premise, and
-- what running means). It rests on three things: an accepted tree is acceptable (ListingAnswer), the assignments of an acceptable
-- tree end where its matches end (MatchRuns), and the words compute the assignments (Ticking).
use mathlib.Core.Bool.{Bool, true, false}
use mathlib.Core.Path.{◌≡◌, refl, sym, ◌∙◌}
use mathlib.Core.Logic.Iff
use mathlib.Core.Logic.{◌↔◌}
use mathlib.Core.List.{List}
use Prim.Native.Nat.{ℕ, suc, ◌≤◌}
use native.Mathlib.Omega.{arith}
use lib.Dec.{T}
use lib.ListN.{length}
use Rattle.meaning.specs.Tree.{root}
use Rattle.meaning.specs.Match.{Match}
use Rattle.meaning.specs.Expression.{Synth}
use Rattle.meaning.specs.Listing.{registers, deepest}
use Rattle.meaning.specs.Check.{check}
use Rattle.meaning.specs.Tick.{tick}
use Rattle.meaning.specs.Lower.{synth_of, words_of, lower}
use Rattle.meaning.specs.Demand3.{ThroughoutOnTop, trace, Running}
use Rattle.meaning.specs.Answers.{listed, described, ticked}
use Rattle.meaning.proofs.Values.{val}
use Rattle.meaning.proofs.Uses.{SynthUses}
use Rattle.meaning.proofs.Bounds.{a_lowered_tree_is_bounded}
use Rattle.meaning.proofs.Evaluation.{bit}
use Rattle.meaning.proofs.Emitted.{a_listing_has_its_registers, a_lowered_listing_passes_the_check}
use Rattle.meaning.proofs.Ticking.{a_running_listing_answers_its_match, a_running_listing_drives_its_registers}
use Rattle.meaning.proofs.MatchRuns.{the_match_is_the_standards}
use Rattle.meaning.proofs.ListingAnswer.{PassedAll, a_listed_table_passed_all, a_listed_tree_is_acceptable}

-- A match bit of 1 is a value that holds.
bit_is_1 : (b : Bool) → (ticked (bit b) ≡ ticked 1) ↔ T b
bit_is_1 true = (λ e. tt, λ h. refl)
bit_is_1 false = (λ e. let z : ◌≡◌ {A = ℕ} 0 1 = cc in absurd (omega arith), λ h. absurd h)

-- One tree that lowering accepts, with the numbers of its answer.
module _ (t : List ℕ) (work out r w d : ℕ) (accepted : lower t work out 0 ≡ listed r w d) where
  abbrev o : Synth
  o = synth_of t 0

  abbrev passed : PassedAll t work out 0 r w d
  passed = a_listed_table_passed_all t work out 0 r w d accepted

  few : length o.stores ≤ 65536
  few = omega (arith, passed.fitting.few)

  bounded : SynthUses (length o.stores) 65536 o
  unfolding synth_of
  bounded = a_lowered_tree_is_bounded (length o.stores) (root t) passed.ranged 0 (omega arith)

  -- An accepted lowering's listing passes the check.
  pub an_accepted_listing_passes_the_check : check (words_of t 0) ≡ described
  unfolding words_of
  an_accepted_listing_passes_the_check = a_lowered_listing_passes_the_check o few bounded

  -- The registers, words and deepest stack of an accepted listing are counted in its words.
  pub the_registers_are_counted : r ≡ registers (words_of t 0)
  unfolding words_of
  the_registers_are_counted =
      passed.fitting.registers_are ∙ sym (a_listing_has_its_registers 0 (length o.stores) o (omega (arith, few)) few bounded)

  pub the_words_are_counted : w ≡ length (words_of t 0)
  unfolding words_of
  the_words_are_counted = passed.fitting.words_are

  pub the_deepest_stack_is_counted : d ≡ deepest (words_of t 0)
  unfolding words_of
  the_deepest_stack_is_counted = passed.fitting.deepest_is

  module _ (atoms cur next : ℕ → List ℕ) (stack : ℕ → ℕ) (running : Running (words_of t 0) atoms cur next stack) where
    -- Tick answers at every tick, and never refuses: buffers of the counted sizes are enough.
    pub an_accepted_listing_is_never_refused : (k : ℕ)
        → tick (words_of t 0) (cur k) (atoms k) (length (next k)) (stack k) ≡ ticked (bit (val o.cur (trace cur k) (trace atoms k)))
    unfolding words_of
    an_accepted_listing_is_never_refused k = a_running_listing_answers_its_match o few bounded atoms cur next stack running k

    -- DEMAND 3.
    pub lower_meets_the_standard : ThroughoutOnTop (root t) → (k : ℕ)
        → (tick (words_of t 0) (cur k) (atoms k) (length (next k)) (stack k) ≡ ticked 1)
        ↔ ((i : ℕ) × (i ≤ k) × Match (trace atoms) (root t) i (suc k))
    unfolding words_of synth_of
    lower_meets_the_standard top k =
        rw (an_accepted_listing_is_never_refused k)
        (Iff.trans
        (bit_is_1 (val o.cur (trace cur k) (trace atoms k)))
        (the_match_is_the_standards (trace atoms) (trace cur) (root t)
        (a_listed_tree_is_acceptable t work out 0 r w d accepted top) 0
        (a_running_listing_drives_its_registers o few bounded atoms cur next stack running) k))
