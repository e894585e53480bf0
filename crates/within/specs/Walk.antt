-- The walk over a within's rows and pairs, whatever is done at each: first at a row, an alternative of seq2, then at each pair beside it.
-- Example: `a within (b ##1 c)` has one row, b ##1 c, and beside it one pair.
use Rattle.std.specs.Prelude.{◌≡◌, List, [], ◌∷◌, ℕ, ◌≤◌}
use Rattle.meaning.specs.Alternative.{SeqAlt}
use Rattle.term.specs.declared.Kept.{Kept}
use Rattle.sizes.specs.Sizes.{Countable}
use Rattle.alternative.specs.Alternatives.{registers_in}
use Rattle.alternative.specs.Keeping.{Holds}
use Rattle.pair.specs.declared.Pair.{Pair}
use Rattle.pair.specs.Pairs.{Fitted, longest_window}
use Rattle.within.specs.AllPairs.{beside}

-- A pass keeps a value of S and an output. With which register those of the next alternative begin; how the pass goes on at a row y, and at a pair f beside
-- the row y whose registers begin with r; what it asks for there, and what it learns there; and what is known at the end.
pub record Steps (S : Type 0) : Type 1 where
  pub register : S → ℕ
  pub at_row : SeqAlt → S × List ℕ → S × List ℕ
  pub at_pair : SeqAlt → ℕ → Fitted → S × List ℕ → S × List ℕ
  pub TakesRow : SeqAlt → S × List ℕ → Type 0
  pub TakesPair : SeqAlt → ℕ → Fitted → S × List ℕ → Type 0
  pub SmallRow : SeqAlt → Type 0
  pub SmallPair : Fitted → Type 0
  pub Ends : S × List ℕ → Type 0

-- A row that is kept, for a pass that can take it; and how it goes on.
pub record RowGiven {S : Type 0} (P : Steps S) (work : List ℕ) (two : Kept) (s : S × List ℕ) : Type 0 where
  pub alternative : SeqAlt
  pub holds : Holds work two alternative (P.register s.0)
  pub countable : registers_in alternative ≤ 65536 → Countable work two
  pub takes : P.TakesRow alternative s

pub record RowDone {S : Type 0} (P : Steps S) (work : List ℕ) (two : Kept) (s s' : S × List ℕ) : Type 0 where
  pub goes : (y : SeqAlt) → Holds work two y (P.register s.0) → s' ≡ P.at_row y s
  pub small : (y : SeqAlt) → Holds work two y (P.register s.0) → P.SmallRow y

-- A pair that is kept beside its row.
pub record PairHeld {S : Type 0} (P : Steps S) (work : List ℕ) (pair : Pair) (s : S × List ℕ) (y : SeqAlt) (f : Fitted) : Type 0 where
  pub two : Holds work pair.two y pair.two.register
  pub one : Holds work pair.one f.alternative (P.register s.0)
  pub delays : pair.delays ≡ f.delays

pub record PairGiven {S : Type 0} (P : Steps S) (work : List ℕ) (pair : Pair) (s : S × List ℕ) : Type 0 where
  pub row : SeqAlt
  pub fitted : Fitted
  pub held : PairHeld P work pair s row fitted
  pub low : pair.delays ≤ longest_window
  pub countable : registers_in fitted.alternative ≤ 65536 → Countable work pair.one
  pub takes : P.TakesPair row pair.two.register fitted s

pub record PairDone {S : Type 0} (P : Steps S) (work : List ℕ) (pair : Pair) (s s' : S × List ℕ) : Type 0 where
  pub goes : (y : SeqAlt) (f : Fitted) → PairHeld P work pair s y f → s' ≡ P.at_pair y pair.two.register f s
  pub small : (y : SeqAlt) (f : Fitted) → PairHeld P work pair s y f → P.SmallPair f

-- Over pairs beside a row, and over all rows.
unfoldable pub over_pairs : {S : Type 0} → Steps S → SeqAlt → ℕ → List Fitted → S × List ℕ → S × List ℕ
over_pairs P y r [] s = s
over_pairs P y r (f ∷ fs) s = over_pairs P y r fs (P.at_pair y r f s)

unfoldable pub over_rows : {S : Type 0} → Steps S → List SeqAlt → List SeqAlt → S × List ℕ → S × List ℕ
over_rows P xs [] s = s
over_rows P xs (y ∷ ys) s = over_rows P xs ys (over_pairs P y (P.register s.0) (beside xs y) (P.at_row y s))

-- The pass can take them one after the other, given what it learns of each.
unfoldable pub TakesPairs : {S : Type 0} → Steps S → SeqAlt → ℕ → List Fitted → (S × List ℕ → Type 0) → S × List ℕ → Type 0
TakesPairs P y r [] Then s = Then s
TakesPairs P y r (f ∷ fs) Then s = P.TakesPair y r f s × (P.SmallPair f → TakesPairs P y r fs Then (P.at_pair y r f s))

unfoldable pub TakesRows : {S : Type 0} → Steps S → List SeqAlt → List SeqAlt → S × List ℕ → Type 0
TakesRows P xs [] s = P.Ends s
TakesRows P xs (y ∷ ys) s = P.TakesRow y s × (P.SmallRow y → TakesPairs P y (P.register s.0) (beside xs y) (TakesRows P xs ys) (P.at_row y s))
