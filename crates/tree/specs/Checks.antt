-- What the checks 1, 2 and 3 start from (SPECIFICATION, "Refusals").
-- Example: the table 1,0,0,0,0 of one node is checkable with a list of one 0.
use Rattle.std.specs.Prelude.{◌≡◌, List, ℕ, ◌%◌, ◌≤◌, ◌<◌, length, replicate}
use Rattle.meaning.specs.Tree.{nodes}

-- Below count, what a call may answer is what f does.
abbrev pub AnswersAs : {A : Type 0} → ℕ → (ℕ → A → Type 0) → (ℕ → A) → Type 0
AnswersAs {A} count answers f = (n : ℕ) (a : A) → n < count → answers n a → a ≡ f n

-- A table of count nodes, and a cleared list in which each node has a place.
pub record Checkable (t used : List ℕ) (count : ℕ) : Type 0 where
  pub whole : count ≡ nodes t
  pub fives : length t % 5 ≡ 0
  pub some : 1 ≤ count
  pub few : length t ≤ 20480
  pub long : count ≤ length used
  pub clear : used ≡ replicate (length used) 0
