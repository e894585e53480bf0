-- One step of the check (SPECIFICATION, "Refusals", 21): what is counted of the words so far and the next word, to what is counted with that word,
-- or to that it does not fit. The step knows no slice: which register numbers may be named is told by a count, for which the check takes the
-- stores of the whole slice. A reader that does not know them yet takes the bound of register numbers, 65,536, and compares the highest register
-- that was named with the stores at the end (proofs/OnePass.antt).
-- Example: behind a0 any seq0 r0 the tally has 1 store, height 1, deepest 1, 1 atom and 1 register named.
use Rattle.std.specs.Prelude.{◌≡◌, Bool, false, List, Option, Some, None, ℕ, ◌+◌, ◌^◌, ◌<◌, max, eqb}
use Rattle.words.specs.Choice.{pick}
use Rattle.meaning.specs.Listing.{word, operation, argument, height, is_store}
use Rattle.meaning.specs.Check.{word_fits, check}
use Rattle.meaning.specs.Answers.{described}
use Rattle.listing.specs.declared.Tally.{Tally}

-- The counts of fewer words than a slice can have.
pub record Small (s : Tally) : Type 0 where
  pub stores : s.stores < 2 ^ 63
  pub height : s.height < 2 ^ 63

-- One more than the argument of a word of this operation, else 0.
abbrev pub reach : ℕ → ℕ → ℕ
reach o w = pick (eqb (operation w) o) (argument w + 1) 0

-- The tally with all that the word adds to it. Atoms and registers are counted as 22 asks for them: one more than the highest that is named.
unfoldable pub tallied : Tally → ℕ → Tally
tallied s w =
    record {
      stores = s.stores + pick (is_store w) 1 0;
      height = height s.height w;
      deepest = max s.deepest (height s.height w);
      atoms = max s.atoms (reach 1 w);
      named = max s.named (reach 2 w);
    }

-- "a word behind the match is itself the faulty one", so a word before the last is not the match; and it fits.
unfoldable pub noted : ℕ → Tally → ℕ → Option Tally
noted count s w = pick (pick (eqb (operation w) 14) false (word_fits count s.stores s.height w)) (Some (tallied s w)) None

-- "the match ends the listing", with argument 0, and it leaves nothing behind.
unfoldable pub ended : Tally → ℕ → Bool
ended s w = pick (eqb w (word 14 0)) (eqb s.height 1) false

-- The listing is not as described.
pub record Undescribed (ws : List ℕ) : Type 0 where
  pub never : check ws ≡ described → ⊥
