-- A pass over a listing, word by word, with the step of the check: what is counted of the words before a place, and what that tells about the
-- check. The pass has a count that register numbers are below. Where that is the slice's own count, the pass is the check; where it is the
-- bound of all register numbers, the check comes as far where no register named so far is missing, and a described listing is never
-- stopped. They assume nothing.
use mathlib.Core.Path.{◌≡◌, refl, sym, ◌∙◌}
use mathlib.Core.Bool.{Bool, true, false}
use mathlib.Core.List.{List, [], ◌∷◌}
use Rattle.std.proofs.Common.{Option, Some, None, Result, Ok}
use Rattle.std.specs.Option.{ok_or}
use Prim.Native.Nat.{ℕ, ◌+◌, ◌<◌, ◌≤◌, max}
use native.Mathlib.Nat.{add_assoc, add-zero, zero-add, max-zero, zero-max, max-le, le-max_left, le-max_right}
use native.Mathlib.Omega.{arith}
use native.Mathlib.Decide.{dec_le}
use lib.Dec.{eqb, ltb}
use lib.ListN.{length, get_or, drop, drop_of_length-le}
use borrow.Author.Tests.{eq-eqb, ne_eqb, lt-ltb, eqb-true}
use Rattle.words.specs.Choice.{pick, pick_true, pick_false, pick_case}
use Rattle.words.proofs.Laws.{drop_here}
use Rattle.words.proofs.Taken.{both_hold, second_holds, false_is_not_true}
use Rattle.meaning.specs.Listing.{operation, argument, word, rows, row_of, is_store, registers, deepest_from, deepest, atoms_named}
use Rattle.meaning.specs.Check.{argument_fits, word_fits, after_match, check_from, check}
use Rattle.meaning.specs.Answers.{described, faulty}
use Rattle.meaning.specs.declared.refusal.Fault.{Fault}
use Rattle.listing.specs.Step.{reach, tallied, noted, ended, Undescribed}
use Rattle.listing.specs.declared.Tally.{Tally}
use Rattle.listing.proofs.Laws.{height_rises_by_one, store_counts_one, max_assoc, Fitting, fitting, register_below, register_small, described_fits, described_goes_on, described_ends}
use Rattle.listing.proofs.NotedWord.{ended_fits}

-- The word at the place p.
abbrev pub word_at : List ℕ → ℕ → ℕ
word_at ws p = get_or ws p 0

-- The words behind a place.
abbrev pub behind : List ℕ → ℕ → List ℕ
behind ws p = drop (p + 1) ws

-- A register below another count may be named there too.
below_the_count : (b : Bool) (a count other : ℕ) (rest : Bool) → pick b (a + 1) 0 ≤ other
    → pick b (pick (ltb a count) (ltb a 65536) false) rest ≡ true → pick b (pick (ltb a other) (ltb a 65536) false) rest ≡ true
unfolding pick
below_the_count true a count other rest h e = rw (lt-ltb a other (omega arith)) (both_hold (ltb a count) e).1
below_the_count false a count other rest h e = e

-- What holds of the first branch, or of the second by a law.
either_way : (b x : Bool) {y z : Bool} → (y ≡ true → z ≡ true) → pick b x y ≡ true → pick b x z ≡ true
unfolding pick
either_way true x f e = e
either_way false x f e = f e

-- A word that fits under one count fits under another that the register it names is below.
fits_under : (count other k h w : ℕ) → word_fits count k h w ≡ true → reach 2 w ≤ other → word_fits other k h w ≡ true
unfolding word_fits argument_fits
fits_under count other k h w e l =
    let p = second_holds (eqb (operation w) 0) e in
    let q = second_holds (ltb 14 (operation w)) p.1 in
    let a = both_hold (argument_fits count k w) q.1 in
    let n = either_way (eqb (operation w) 1) _ (below_the_count (eqb (operation w) 2) (argument w) count other _ l) a.0 in
    pick_false _ _ p.0 ∙ pick_false _ _ q.0 ∙ pick_true _ _ n ∙ a.1

-- A word that fits names a register below the count, and below the bound of all register numbers.
module _ {count k h w : ℕ} (f : Fitting count k h w) where
  named_below : reach 2 w ≤ count
  named_below = pick_case (λ (n : ℕ). n ≤ count) (eqb (operation w) 2) (λ q. omega (arith, register_below f (eqb-true _ _ q))) (λ _. omega arith)

  named_small : reach 2 w ≤ 65536
  named_small = pick_case (λ (n : ℕ). n ≤ 65536) (eqb (operation w) 2) (λ q. omega (arith, register_small f (eqb-true _ _ q))) (λ _. omega arith)

-- A word that was noted fits, and the tally has it.
fits_noted : {x t : Tally} (b : Bool) → pick b (Some x) None ≡ Some t → (b ≡ true) × (t ≡ x)
unfolding pick
fits_noted true e = (refl, (cc))
fits_noted false e = absurd (let z : ◌≡◌ {A = ℕ} 0 1 = cc in omega arith)

-- The operation of a word that was noted is one of the fourteen.
pub noted_known : {n : Option Tally} {t : Tally} (count : ℕ) (s : Tally) (w : ℕ) → n ≡ noted count s w → n ≡ Some t → 1 ≤ operation w
unfolding noted
noted_known count s w e q = (fitting _ _ _ w (second_holds (eqb (operation w) 14) (fits_noted _ (sym e ∙ q)).0).1).operand.known

-- A word that was not noted does not fit, or is the match.
unfit_noted : (x : Tally) (b : Bool) → pick b (Some x) None ≡ None → b ≡ false
unfolding pick
unfit_noted x true e = absurd (let z : ◌≡◌ {A = ℕ} 0 1 = cc in omega arith)
unfit_noted x false e = refl

-- What fails in either case fails.
fails_too : (b f : Bool) → (b ≡ true → f ≡ false) → pick b false f ≡ false → f ≡ false
unfolding pick
fails_too true f g e = g refl
fails_too false f g e = e

-- What was let through was there.
was_there : {A E : Type 0} (n : Option A) (x : E) {t : A} → ok_or n x ≡ Ok t → n ≡ Some t
was_there (Some y) x e = cc
was_there None x e = absurd (let z : ◌≡◌ {A = ℕ} 0 1 = cc in omega arith)

-- What is counted of the words before the place p; where no register that they name is missing, the check comes this far.
pub record Passing (count : ℕ) (ws : List ℕ) (s : Tally) (p : ℕ) : Type 0 where
  pub inside : p ≤ length ws
  pub few : s.stores ≤ p
  pub low : s.height ≤ p
  pub bounded : s.named ≤ count
  pub stores : registers ws ≡ s.stores + registers (drop p ws)
  pub deep : deepest ws ≡ max s.deepest (deepest_from s.height (drop p ws))
  pub atoms : atoms_named ws ≡ max s.atoms (atoms_named (drop p ws))
  pub named : check ws ≡ described → s.named ≤ registers ws
  pub enough : s.named ≤ registers ws → check ws ≡ check_from (registers ws) (drop p ws) p s.stores s.height

-- Before the first word nothing is counted.
pub passing_begins : (count : ℕ) (ws : List ℕ) → Passing count ws (record { stores = 0; height = 0; deepest = 0; atoms = 0; named = 0 }) 0
unfolding check deepest
passing_begins count ws = record {
  inside = omega arith;
  few = omega arith;
  low = omega arith;
  bounded = omega arith;
  stores = sym (zero-add (registers ws));
  deep = sym (zero-max (deepest ws));
  atoms = sym (zero-max (atoms_named ws));
  named = λ _. omega arith;
  enough = λ _. refl;
}

-- The word at the place p.
module _ {count : ℕ} {ws : List ℕ} {s : Tally} {p : ℕ} (g : Passing count ws s p) (l : p < length ws) where
  -- What the check says, with the word at p apart.
  here : check_from (registers ws) (drop p ws) p s.stores s.height ≡ check_from (registers ws) (word_at ws p ∷ behind ws p) p s.stores s.height
  here = rw (drop_here ws p l) refl

  -- A described listing is described from here on.
  only_here : check ws ≡ described → check_from (registers ws) (word_at ws p ∷ behind ws p) p s.stores s.height ≡ described
  only_here d = sym (g.enough (g.named d) ∙ here) ∙ d

  -- A word of a described listing fits.
  fitting_here : check ws ≡ described → Fitting (registers ws) s.stores s.height (word_at ws p)
  fitting_here d = described_fits _ _ _ _ _ _ (only_here d)

  -- Behind a word that was noted the pass goes on.
  pub passing_on : {n : Option Tally} {t : Tally} → n ≡ noted count s (word_at ws p) → n ≡ Some t → Passing count ws t (p + 1)
  unfolding noted tallied check_from registers deepest_from atoms_named
  passing_on e q =
      let w = word_at ws p in
      let split = drop_here ws p l in
      let f = fits_noted (pick (eqb (operation w) 14) false (word_fits count s.stores s.height w)) (sym e ∙ q) in
      let b = second_holds (eqb (operation w) 14) f.0 in
      rw f.1 record {
        inside = omega arith;
        few = omega (arith, g.few, store_counts_one w);
        low = omega (arith, g.low, height_rises_by_one s.height w);
        bounded = max-le g.bounded (named_below (fitting _ _ _ _ b.1));
        stores = g.stores ∙ rw split (sym (add_assoc s.stores _ _));
        deep = g.deep ∙ rw split (sym (max_assoc s.deepest _ _));
        atoms = g.atoms ∙ rw split (sym (max_assoc s.atoms _ _));
        named = λ d. max-le (g.named d) (named_below (fitting_here d));
        enough = λ m.
            g.enough (omega (arith, le-max_left s.named (reach 2 w)))
            ∙ here
            ∙ pick_true _ _ (fits_under _ _ _ _ w b.1 (omega (arith, le-max_right s.named (reach 2 w))))
            ∙ pick_false _ _ b.0;
      }

  -- The same, where the check hands a word that was not noted up.
  pub goes_on : {n : Option Tally} {r : Result Tally Fault} {t : Tally} → n ≡ noted count s (word_at ws p) → r ≡ ok_or n (record { place = p }) → r ≡ Ok t
      → Passing count ws t (p + 1)
  goes_on {n} e f q = passing_on e (was_there n _ (sym f ∙ q))

  -- A word of a described listing that another follows is not the match.
  no_match_here : p + 1 < length ws → check ws ≡ described → operation (word_at ws p) ≡ 14 → ⊥
  no_match_here m d o =
      let z : behind ws p ≡ [] = described_ends _ _ _ _ _ _ (only_here d) o in
      let y : ◌≡◌ {A = ℕ} 0 1 = cc (drop_here ws (p + 1) m) in
      omega arith

  -- A word that was not noted, and that may not be the last, does not fit.
  unfit_there : {n : Option Tally} {b : Bool} → b ≡ ended s (word_at ws p) → b ≡ false → n ≡ noted count s (word_at ws p) → n ≡ None
      → word_fits count s.stores s.height (word_at ws p) ≡ false
  unfolding noted
  unfit_there u v e q =
      fails_too (eqb (operation (word_at ws p)) 14) _
      (λ o. sym (ended_fits count s (word_at ws p) (eqb-true _ _ o)) ∙ sym u ∙ v)
      (unfit_noted (tallied s (word_at ws p)) _ (sym e ∙ q))

  -- The match ends the listing, and fits.
  module _ {b : Bool} (u : b ≡ ended s (word_at ws p)) (v : b ≡ true) where
    pub ended_match : operation (word_at ws p) ≡ 14
    unfolding ended
    ended_match = omega (arith, eqb-true (word_at ws p) (word 14 0) (both_hold (eqb (word_at ws p) (word 14 0)) (sym u ∙ v)).0)

    ended_here : s.named ≤ registers ws → check ws ≡ after_match (p + 1) (behind ws p)
    unfolding check_from
    ended_here m =
        g.enough m
        ∙ here
        ∙ pick_true _ _ (sym (ended_fits (registers ws) s (word_at ws p) ended_match) ∙ sym u ∙ v)
        ∙ pick_true _ _ (eq-eqb _ _ ended_match)

-- The pass with the slice's own count is the check.
module _ {count : ℕ} {ws : List ℕ} {s : Tally} {p : ℕ} (g : Passing count ws s p) (c : count ≡ registers ws) where
  none_missing : s.named ≤ registers ws
  none_missing = omega (arith, g.bounded)

  module _ {b : Bool} (l : p < length ws) (u : b ≡ ended s (word_at ws p)) where
    -- The word does not fit: it is the first faulty one.
    pub faulty_here : {n : Option Tally} → b ≡ false → n ≡ noted count s (word_at ws p) → n ≡ None → faulty p ≡ check ws
    unfolding check_from
    faulty_here v e q = sym (g.enough none_missing ∙ here g l ∙ pick_false _ _ (rw c at (unfit_there g l u v e q)))

    -- A word follows the match: it is the first faulty one.
    pub faulty_past : b ≡ true → p + 1 < length ws → faulty (p + 1) ≡ check ws
    unfolding after_match
    faulty_past v m = sym (ended_here g l u v none_missing ∙ rw (drop_here ws (p + 1) m) refl)

    -- The match is the last word.
    pub described_there : b ≡ true → length ws ≤ p + 1 → described ≡ check ws
    unfolding after_match
    described_there v m = sym (ended_here g l u v none_missing ∙ rw (drop_of_length-le ws m) refl)

  -- The words end before a match: the word count is the place.
  pub ends_early : length ws ≤ p → faulty (length ws) ≡ check ws
  unfolding check_from
  ends_early m =
      let all : length ws ≡ p = omega (arith, g.inside) in
      sym (g.enough none_missing ∙ rw (drop_of_length-le ws m, all) refl)

-- The pass with the bound of register numbers lets each described listing through.
module _ {ws : List ℕ} {s : Tally} {p : ℕ} (g : Passing 65536 ws s p) where
  -- A word before the last that was not noted is in no described listing.
  pub never_unfit : {n : Option Tally} → p + 1 < length ws → n ≡ noted 65536 s (word_at ws p) → n ≡ None → Undescribed ws
  unfolding noted
  never_unfit m e q = record {
    never = λ d.
        let l : p < length ws = omega arith in
        let w = word_at ws p in
        let f = fitting_here g l d in
        let fits = fits_under _ 65536 _ _ w f.fits (named_small f) in
        false_is_not_true (sym (unfit_noted (tallied s w) _ (sym e ∙ q)) ∙ pick_false _ _ (ne_eqb _ _ (no_match_here g l m d)) ∙ fits);
  }

  -- The words end before a match.
  pub never_early : length ws ≤ p → Undescribed ws
  unfolding check_from
  never_early m = record {
    never = λ d. let q = rw (drop_of_length-le ws m) at (sym (g.enough (g.named d)) ∙ d) in let z : ◌≡◌ {A = ℕ} 0 1 = cc in omega arith;
  }

  -- The last word.
  module _ {b : Bool} (l : p < length ws) (m : length ws ≤ p + 1) (u : b ≡ ended s (word_at ws p)) where
    -- A described listing ends with the match.
    match_here : check ws ≡ described → operation (word_at ws p) ≡ 14
    unfolding check_from
    match_here d = elim (dec_le 14 (operation (word_at ws p))) [
      | yes o ↦ omega (arith, (fitting_here g l d).operand.last)
      | no o ↦ absurd
          (let q = rw (drop_of_length-le ws m) at (described_goes_on _ _ _ _ _ _ (only_here g l d) (λ z. omega arith)) in
          let z : ◌≡◌ {A = ℕ} 0 1 = cc in
          omega arith)
    ]

    -- One that does not end so is not described.
    pub never_unended : b ≡ false → Undescribed ws
    never_unended v = record {
      never = λ d. false_is_not_true (sym v ∙ u ∙ ended_fits (registers ws) s (word_at ws p) (match_here d) ∙ (fitting_here g l d).fits);
    }

    -- At the match all is counted.
    module _ (v : b ≡ true) where
      pub alone : drop p ws ≡ word_at ws p ∷ []
      alone = drop_here ws p l ∙ rw (drop_of_length-le ws m) refl

      pub all_stores : registers ws ≡ s.stores
      unfolding registers is_store pick
      all_stores = g.stores ∙ rw (alone, ended_match g l u v) (add-zero _)

      pub all_atoms : atoms_named ws ≡ s.atoms
      unfolding atoms_named pick
      all_atoms = g.atoms ∙ rw (alone, ended_match g l u v) (max-zero _)

      pub all_deep : deepest ws ≡ s.deepest
      unfolding ended deepest_from row_of rows
      all_deep = let one = eqb-true s.height 1 (both_hold (eqb (word_at ws p) (word 14 0)) (sym u ∙ v)).1 in g.deep ∙ rw (alone, ended_match g l u v, one) (max-zero _)

      -- A register without a store is named in no described listing.
      pub never_missing : s.stores < s.named → Undescribed ws
      never_missing n = record { never = λ d. omega (arith, g.named d, all_stores) }

      -- Where each register named has its store, the listing is described.
      pub described_last : s.named ≤ s.stores → check ws ≡ described
      unfolding after_match
      described_last n = ended_here g l u v (omega (arith, all_stores)) ∙ rw (drop_of_length-le ws m) refl

-- What the check answers, by where the pass with the slice's own count ends.
pub ruleset passes = (faulty_here, faulty_past, described_there, ends_early)
