-- Rows of 257 bytes: which two are the same, what the first part of one is, and what one carries that had no ends before.
use mathlib.Core.Bool.{Bool, true}
use mathlib.Core.Path.{◌≡◌, sym, ap, ◌∙◌}
use mathlib.Core.Logic.{◌↔◌}
use mathlib.Core.List.{List, ◌++◌}
use Prim.Native.Nat.{ℕ, ◌≤◌, ◌<◌}
use native.Mathlib.Omega.{arith}
use lib.Dec.{eqb}
use lib.Pointwise.{pointwise}
use Rattle.std.proofs.lemmas.Bool.Decides.{Decides-eqb}
use Rattle.std.proofs.lemmas.Slice.Eq.{slice_eq-Decides}
use lib.ListN.{length, get_or, take, drop, replicate, length-append, length-drop, get_or-append}
use lib.Seq.{get_or-take, length-take-le}
use Rattle.meaning.specs.Match.{Runs}
use Rattle.runs.specs.Ends.{Gains, In, Reached}
use Rattle.runs.proofs.Laws.{zeros_blank, part_blank, in_gained_blank}
use Rattle.repeated_runs.specs.Repeated.{Alike, Carries}

-- Two rows whose first bytes compare as equal are alike there.
pub alike_parts : (x y : List ℕ) (side : ℕ) {b : Bool} → b ≡ pointwise eqb (take side x) (take side y) → b ≡ true → Alike x y side
alike_parts x y side s e j l =
    let same = (slice_eq-Decides Decides-eqb _ _ _ s).0 e in
    sym (get_or-take side x j 0 l) ∙ ap (λ z. get_or z j 0) same ∙ get_or-take side y j 0 l

module _ (row : List ℕ) (n : ℕ) (w : length row ≡ 257) (f : n ≤ 257) where
  -- The first n bytes of a row are n.
  pub part_long : length (take n row) ≡ n
  part_long = length-take-le n row (omega arith)

  -- The first n bytes of a row carry what the row carries there.
  pub part_carries : {P : ℕ → Type 0} → Carries row n P → Carries (take n row) n P
  part_carries C = record { ends = λ j l. rw (get_or-take n row j 0 l) (C.ends j l) }

  module _ {after : List ℕ} {P : ℕ → Type 0} (g : Gains (take n row) after P) where
    -- Where the first n bytes gained ends, the row is as long as it was.
    pub whole_long : length (after ++ drop n row) ≡ 257
    whole_long = omega (arith, length-append after (drop n row), length-drop n row, g.long, part_long)

    -- Where the first n bytes gained ends, the row carries there what they carry.
    pub whole_carries : {Q : ℕ → Type 0} → ((j : ℕ) → j < n → In after j ↔ Q j) → Carries (after ++ drop n row) n Q
    whole_carries C = record {
      ends = λ j h. let k : j < length after = omega (arith, g.long, part_long) in rw (get_or-append after (drop n row) 0 j k) (C j h);
    }

    -- A row without ends whose first n bytes gained P carries P there.
    carries_what_it_gained : row ≡ replicate 257 0 → Carries (after ++ drop n row) n P
    carries_what_it_gained e =
        whole_carries (λ j h. in_gained_blank (part_blank n row (rw e (zeros_blank 257))) g j (omega (arith, part_long)))

-- A row without ends whose first bytes gained the ends that a table reaches carries these ends.
pub carries_what_is_reached : (R : Runs) (first : ℕ) (from : List ℕ) {row after : List ℕ} → row ≡ replicate 257 0 → length row ≡ 257
    → length from ≤ 257 → Gains (take (length from) row) after (Reached R from first 0)
    → Carries (after ++ drop (length from) row) (length from) (Reached R from first 0)
carries_what_is_reached R first from {row} e w f g = carries_what_it_gained row (length from) w f g e
