-- The pass over a listing: that it lets through exactly the described ones, and what it has gathered of them. The check and the counts are the
-- step's (listing/proofs/OnePass.antt); here are the atoms that are lent. They assume nothing.
use mathlib.Core.Path.{◌≡◌, refl, sym, ◌∙◌}
use mathlib.Core.Bool.{Bool, true, false}
use mathlib.Core.List.{List, [], ◌∷◌, ◌++◌}
use Prim.Native.Nat.{ℕ, ◌+◌, ◌<◌, ◌≤◌}
use native.Mathlib.Omega.{arith}
use lib.Dec.{ltb}
use lib.ListN.{length, get_or, drop, get_or-append, length-append}
use lib.Seq.{get_or-append_seam}
use borrow.Author.Tests.{eq-eqb, ne_eqb}
use Rattle.words.specs.Choice.{pick, pick_false}
use Rattle.words.proofs.Laws.{drop_here}
use Rattle.words.proofs.Taken.{one_test}
use Rattle.meaning.specs.Listing.{operation, argument, word}
use Rattle.meaning.specs.Check.{check}
use Rattle.meaning.specs.Tick.{named_bits}
use Rattle.std.proofs.Common.{Option, Some, None, Result, Ok, Err}
use Rattle.meaning.specs.Answers.{described}
use Rattle.meaning.specs.declared.refusal.Fault.{Fault}
use Rattle.listing.specs.Step.{noted, ended, Undescribed}
use Rattle.listing.specs.declared.Tally.{Tally}
use Rattle.listing.proofs.OnePass.{word_at, behind, Passing, passing_begins, passing_on, noted_known, never_unfit, never_early}
use Rattle.listing.proofs.OnePass.{never_unended, never_missing, ended_match, alone, all_stores, all_atoms, all_deep, described_last}
use Rattle.std.specs.Result.{IsErr}
use Rattle.tick.specs.Survey.{surveyed_if, surveyed}

-- The exact check finds a fault where there is one.
pub fault_there : (c : Result (Unit {0}) Fault) (ws : List ℕ) → Undescribed ws → c ≡ check ws → IsErr c
fault_there (Ok passed) ws u e = absurd (u.never (sym e))
fault_there (Err fault) ws u e = refl

-- Bits so far, and those of an atom and of the words that remain.
bits_on : (above bits rest : Bool) → pick bits (pick above false rest) false ≡ pick (pick above false bits) rest false
unfolding pick
bits_on true true rest = refl
bits_on true false rest = refl
bits_on false bits rest = refl

-- The pass at the place p: the step's counts, and whether the atoms named so far are bits.
pub record Surveying (ws lent : List ℕ) (s : Tally) (b : Bool) (p : ℕ) : Type 0 where
  pub pass : Passing 65536 ws s p
  pub bits : named_bits lent ws ≡ pick b (named_bits lent (drop p ws)) false

-- Before the first word nothing is counted.
pub surveying_begins : (ws lent : List ℕ) → Surveying ws lent (record { stores = 0; height = 0; deepest = 0; atoms = 0; named = 0 }) true 0
unfolding pick
surveying_begins ws lent = record { pass = passing_begins 65536 ws; bits = refl }

-- A word before the last.
module _ {ws lent : List ℕ} (before : List ℕ) (last : ℕ) {s : Tally} {b : Bool} {p : ℕ} {n : Option Tally} (g : Surveying ws lent s b p) (o : ws ≡ before ++ (last ∷ []))
    (l : p < length before) (e : n ≡ noted 65536 s (word_at before p)) where
  -- It is a word of the listing, with another behind it.
  here : word_at before p ≡ word_at ws p
  here = rw (o, get_or-append before (last ∷ []) 0 p l) refl

  followed : p + 1 < length ws
  followed = rw (o, length-append before (last ∷ [])) (omega arith)

  noted_here : n ≡ noted 65536 s (word_at ws p)
  noted_here = e ∙ rw here refl

  -- One that was not noted is in no described listing.
  pub unfit_here : n ≡ None → Undescribed ws
  unfit_here q = never_unfit g.pass followed noted_here q

  -- Behind one that was noted the pass goes on.
  module _ {t : Tally} (q : n ≡ Some t) where
    -- The pass goes on with the counts of the step.
    pass_on : Passing 65536 ws t (p + 1)
    pass_on = passing_on g.pass (omega (arith, followed)) noted_here q

    -- An atom's byte decides.
    pub surveying_atom : {a : Bool} → word_at before p < word 2 0 → a ≡ pick (ltb 1 (get_or lent (argument (word_at before p)) 0)) false b → Surveying ws lent t a (p + 1)
    unfolding named_bits pick
    surveying_atom k u =
        let w = word_at ws p in
        let o : operation w ≡ 1 = omega (arith, here, noted_known 65536 s w noted_here q) in
        record {
          pass = pass_on;
          bits = g.bits ∙ rw (drop_here ws p (omega (arith, followed)), eq-eqb (operation w) 1 o, u, here) (bits_on (ltb 1 (get_or lent (argument w) 0)) b (named_bits lent (behind ws p)));
        }

    -- Another word names no atom.
    pub surveying_another : word 2 0 ≤ word_at before p → Surveying ws lent t b (p + 1)
    unfolding named_bits
    surveying_another k = record {
      pass = pass_on;
      bits = g.bits ∙ rw (drop_here ws p (omega (arith, followed))) (rw (pick_false _ _ (ne_eqb (operation (word_at ws p)) 1 (λ z. omega (arith, here)))) refl);
    }

-- A listing of no word ends before its match.
pub no_word : {ws : List ℕ} → length ws ≡ 0 → Undescribed ws
no_word {ws} m = never_early (passing_begins 65536 ws) (omega arith)

-- The last word.
module _ {ws lent : List ℕ} (before : List ℕ) (last : ℕ) {s : Tally} {b a : Bool} {p : ℕ} (g : Surveying ws lent s b p) (o : ws ≡ before ++ (last ∷ []))
    (l : length before ≤ p) (k : p ≤ length before) (u : a ≡ ended s last) where
  -- It stands behind all others.
  inside : p < length ws
  inside = rw (o, length-append before (last ∷ [])) (omega arith)

  ends : length ws ≤ p + 1
  ends = rw (o, length-append before (last ∷ [])) (omega arith)

  judged : a ≡ ended s (word_at ws p)
  judged = let e : p ≡ length before = omega arith in u ∙ rw (o, e, get_or-append_seam before last [] 0) refl

  -- A word that may not end a listing is not the last of a described one.
  pub unended : a ≡ false → Undescribed ws
  unended v = never_unended g.pass inside ends judged v

  -- The last word may end a listing.
  module _ (v : a ≡ true) where
    -- A register named has no store.
    pub register_missing : s.stores < s.named → Undescribed ws
    register_missing n = never_missing g.pass inside ends judged v n

    -- The pass lets the listing through, with what it counted.
    pub whole_there : s.named ≤ s.stores → Some (record { registers = s.stores; atoms = s.atoms; deepest = s.deepest; bits = b }) ≡ surveyed ws lent
    unfolding surveyed surveyed_if named_bits pick
    whole_there n =
        let j = judged in
        let z : b ≡ named_bits lent ws = sym (g.bits ∙ rw (alone g.pass inside ends j v, ended_match g.pass inside j v) (one_test b)) in
        rw (described_last g.pass inside ends j v n, all_stores g.pass inside ends j v, all_atoms g.pass inside ends j v, all_deep g.pass inside ends j v, ← z) refl

-- A listing that is not described is faulty, which is the pass's answer.
faulty_if : (c : Result (Unit {0}) Fault) (ws lent : List ℕ) → (c ≡ described → ⊥) → None ≡ surveyed_if c ws lent
unfolding surveyed_if
faulty_if (Ok passed) ws lent n = absurd (n refl)
faulty_if (Err fault) ws lent n = refl

pub faulty_there : (ws lent : List ℕ) → Undescribed ws → None ≡ surveyed ws lent
unfolding surveyed
faulty_there ws lent u = faulty_if (check ws) ws lent u.never
