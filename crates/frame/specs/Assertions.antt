-- The assertions, as sequence trees of five words a node, and what they lower to.
-- Example: assertion 1 is `hot_in ##2 kept`, its atoms 0 and 6.
use Rattle.std.specs.Prelude.{Result, Ok, Err, List, [], ◌∷◌, ◌++◌, ℕ, eqb, get_or}
use Rattle.words.specs.Choice.{pick}
use Rattle.meaning.specs.Lower.{words_of, lower}
use Rattle.meaning.specs.declared.Listing.{Listing}
use Rattle.meaning.specs.declared.refusal.Refusal.{Refusal}

-- A node's five words: kind, p, q, min, max.
abbrev pub node : ℕ → ℕ → ℕ → ℕ → ℕ → List ℕ
node kind p q min max = kind ∷ p ∷ q ∷ min ∷ max ∷ []

abbrev atom : ℕ → List ℕ
atom a = node 1 a 0 0 0

-- hot_in ##2 kept
abbrev pub hot_kept : List (List ℕ)
hot_kept = atom 0 ∷ atom 6 ∷ node 2 0 1 2 2 ∷ []

-- good_in ##2 replaced
abbrev pub good_replaced : List (List ℕ)
good_replaced = atom 1 ∷ atom 5 ∷ node 2 0 1 2 2 ∷ []

-- in_row throughout (bad_in ##2 wrong)
abbrev pub wrong_in_row : List (List ℕ)
wrong_in_row = atom 2 ∷ atom 7 ∷ node 2 0 1 2 2 ∷ node 6 4 2 0 0 ∷ []

-- row_start within (bad_in ##2 wrong)
abbrev pub wrong_at_start : List (List ℕ)
wrong_at_start = atom 3 ∷ atom 2 ∷ atom 7 ∷ node 2 1 2 2 2 ∷ node 7 0 3 0 0 ∷ []

-- The words of nodes, five of each.
unfoldable pub words_in : List (List ℕ) → List ℕ
words_in [] = []
words_in (v ∷ vs) = node (get_or v 0 0) (get_or v 1 0) (get_or v 2 0) (get_or v 3 0) (get_or v 4 0) ++ words_in vs

-- The tree of an assertion, by its number.
unfoldable pub tree_of : ℕ → List ℕ
tree_of number =
    pick (eqb number 1) (words_in hot_kept)
    (pick (eqb number 2) (words_in good_replaced) (pick (eqb number 3) (words_in wrong_in_row) (words_in wrong_at_start)))

-- The words that a tree lowers to, with so much work and output; none where it is refused.
unfoldable pub listed_by : Result Listing Refusal → List ℕ → List ℕ
listed_by (Ok listing) tree = words_of tree 0
listed_by (Err refusal) tree = []

unfoldable pub listed : List ℕ → ℕ → ℕ → List ℕ
listed tree work out = listed_by (lower tree work out 0) tree
