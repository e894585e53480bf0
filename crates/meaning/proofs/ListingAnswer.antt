-- What a listing as the answer tells of the table: that no refusal fell on it, and what the three numbers are. So its tree is
-- acceptable where throughout stands only on top, which is the premise of demand 3.
use mathlib.Core.Path.{◌≡◌, refl, sym, ap}
use mathlib.Core.List.{List}
use Prim.Native.Nat.{ℕ, ◌+◌, ◌≤◌}
use native.Mathlib.Omega.{arith}
use lib.Dec.{ltb}
use lib.ListN.{length}
use borrow.Author.Tests.{ltb-false}
use Rattle.meaning.specs.Tree.{root}
use Rattle.meaning.specs.Expression.{Synth}
use Rattle.meaning.specs.Listing.{listing, deepest}
use Rattle.meaning.specs.Refusals.{table, walk_root, room_of, Found, at, nowhere, misplaced}
use Rattle.meaning.specs.Lower.{synth_of, words_of, fits, after_walk, after_table, after_nothing, lower}
use Rattle.meaning.specs.Lowerable.{FormedTable, Ranged, WalkableRoot}
use Rattle.meaning.specs.Demand3.{ThroughoutOnTop}
use Rattle.meaning.specs.declared.Counts.{Counts}
use Rattle.std.specs.Prelude.{Result, Ok, Err}
use Rattle.meaning.specs.Answers.{formed, counted, listed}
use Rattle.meaning.specs.declared.Listing.{Listing}
use Rattle.meaning.specs.declared.refusal.Refusal.{Refusal}
use Rattle.words.proofs.Taken.{second_taken}
use Rattle.meaning.proofs.Formed.{a_formed_table}
use Rattle.meaning.proofs.Ranges.{a_formed_root_is_ranged}
use Rattle.meaning.proofs.Walks.{a_walked_root_is_walkable}
use Rattle.meaning.proofs.Acceptable.{Acceptable}
use Rattle.meaning.proofs.Accepted.{an_accepted_tree_is_acceptable}

-- The words fit: 13 and 14 are past, and the numbers are those of the assignments and of the words.
pub record Fitting (o : Synth) (first out r w d : ℕ) : Type 0 where
  pub few : first + length o.stores ≤ 65536
  pub long_enough : length (listing first o) ≤ out
  pub registers_are : r ≡ length o.stores
  pub words_are : w ≡ length (listing first o)
  pub deepest_is : d ≡ deepest (listing first o)

-- The whole table passed.
pub record PassedAll (t : List ℕ) (work out first r w d : ℕ) : Type 0 where
  pub formed : FormedTable t
  pub ranged : Ranged (root t)
  pub walkable : WalkableRoot (room_of work) (root t)
  pub placed : misplaced (root t) ≡ nowhere
  pub fitting : Fitting (synth_of t first) first out r w d

same_listing : {l l' : Listing} → ◌≡◌ {A = Result Listing Refusal} (Ok l) (Ok l') → l ≡ l'
same_listing e = cc

module _ (r w d : ℕ) where
  -- A refusal is another answer than a listing.
  refused_is_not_listed : {refusal : Refusal} → Err refusal ≡ listed r w d → ⊥
  refused_is_not_listed e = let z : ◌≡◌ {A = ℕ} 0 1 = cc in omega arith

  -- A listing was let pass by 13 and 14.
  fits_listed : (t : List ℕ) (first out : ℕ) → fits (length (synth_of t first).stores) (words_of t first) first out ≡ listed r w d
      → Fitting (synth_of t first) first out r w d
  unfolding fits words_of
  fits_listed t first out e =
      let (many, more) = second_taken (ltb 65536 (first + length (synth_of t first).stores)) refused_is_not_listed e in
      let (short, same) = second_taken (ltb out (length (words_of t first))) refused_is_not_listed more in
      record { few = ltb-false _ _ many; long_enough = ltb-false _ _ short; registers_are = ap (λ (l : Listing). l.registers) (sym (same_listing same)); words_are = ap (λ (l : Listing). l.words) (sym (same_listing same)); deepest_is = ap (λ (l : Listing). l.deepest) (sym (same_listing same)) }

  -- A listing was let pass by 12.
  placed_listed : (found : Found) (t : List ℕ) (first out : ℕ) → after_walk found t first out ≡ listed r w d
      → (found ≡ nowhere) × (fits (length (synth_of t first).stores) (words_of t first) first out ≡ listed r w d)
  unfolding after_walk
  placed_listed (at i) t first out e = absurd (refused_is_not_listed e)
  placed_listed nowhere t first out e = (refl, e)

  -- A listing was let pass by 4 to 11.
  walked_listed : (walked : Result Counts Refusal) (t : List ℕ) (first out : ℕ) → after_table walked t first out ≡ listed r w d
      → ((c : Counts) × (walked ≡ counted c)) × (after_walk (misplaced (root t)) t first out ≡ listed r w d)
  unfolding after_table
  walked_listed (Err refusal) t first out e = absurd (refused_is_not_listed e)
  walked_listed (Ok c) t first out e = ((c, refl), e)

  -- A listing was let pass by 1 to 3.
  formed_listed : (checked : Result (Unit {0}) Refusal) (t : List ℕ) (work out first : ℕ) → after_nothing checked t work out first ≡ listed r w d
      → (checked ≡ formed) × (after_table (walk_root (room_of work) (root t)) t first out ≡ listed r w d)
  unfolding after_nothing
  formed_listed (Err refusal) t work out first e = absurd (refused_is_not_listed e)
  formed_listed (Ok passed) t work out first e = (refl, e)

-- 1 to 3 fell on no table whose answer is a listing.
pub a_listed_table_is_formed : (t : List ℕ) (work out first r w d : ℕ) → lower t work out first ≡ listed r w d → table t ≡ formed
unfolding lower
a_listed_table_is_formed t work out first r w d e = (formed_listed r w d (table t) t work out first e).0

-- No refusal of 1 to 14 fell on a table whose answer is a listing.
pub a_listed_table_passed_all : (t : List ℕ) (work out first r w d : ℕ) → lower t work out first ≡ listed r w d → PassedAll t work out first r w d
unfolding lower
a_listed_table_passed_all t work out first r w d e =
    let (formed, walking) = formed_listed r w d (table t) t work out first e in
    let ((c, counted), placing) = walked_listed r w d (walk_root (room_of work) (root t)) t first out walking in
    let (placed, fitting) = placed_listed r w d (misplaced (root t)) t first out placing in
    record {
      formed = a_formed_table t formed;
      ranged = a_formed_root_is_ranged t (a_formed_table t formed);
      walkable = a_walked_root_is_walkable (room_of work) (root t) c counted;
      placed = placed;
      fitting = fits_listed r w d t first out fitting;
    }

-- What demand 3 asks for, from its own premises.
pub a_listed_tree_is_acceptable : (t : List ℕ) (work out first r w d : ℕ) → lower t work out first ≡ listed r w d → ThroughoutOnTop (root t) → Acceptable (root t)
a_listed_tree_is_acceptable t work out first r w d e top =
    let all = a_listed_table_passed_all t work out first r w d e in
    an_accepted_tree_is_acceptable (room_of work) (root t) all.ranged all.walkable all.placed top
