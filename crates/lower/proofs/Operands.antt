-- Every word of a lowering finds its operands: an expression leaves one value more than it found, and a store or the match takes
-- it away. So the deepest stack of the written words can be counted.
use mathlib.Core.Path.{◌≡◌, refl}
use mathlib.Core.List.{List, [], ◌∷◌, ◌++◌, append_assoc}
use Prim.Native.Nat.{ℕ, suc, ◌+◌, ◌-◌, ◌≤◌, ◌<◌}
use native.Mathlib.Omega.{arith}
use lib.ListN.{length}
use Rattle.meaning.specs.Tree.{root}
use Rattle.meaning.specs.Expression.{Expr, a·, r·, zero·, one·, any, not·, and·, or·, Tag, seq, arm, gto, ncx, crl, Store, Synth}
use Rattle.meaning.specs.Listing.{word, operation, rows, row_of, store_operation, expression_words, store_words, listing}
use Rattle.meaning.specs.Lower.{synth_of, words_of}
use Rattle.meaning.specs.Lowerable.{Ranged}
use Rattle.listing.specs.Operands.{OperandsFound}
use Rattle.meaning.proofs.Uses.{Each, Uses, StoreUses, SynthUses}
use Rattle.meaning.proofs.Bounds.{a_lowered_tree_is_bounded}

-- A word at a height at which it finds what its operation takes; the words behind it start where it leaves the stack.
module _ (o : ℕ) (known : 1 ≤ o) (last : o ≤ 14) (takes leaves : ℕ) (t : (row_of o).takes ≡ takes) (l : (row_of o).leaves ≡ leaves) where
  a_word_finds : (a : ℕ) → a < 65536 → (h after : ℕ) (rest : List ℕ) → takes ≤ h → h + leaves ≡ after + takes
      → OperandsFound after rest → OperandsFound h (word o a ∷ rest)
  unfolding OperandsFound
  a_word_finds a small h after rest enough balance more =
      let same : operation (word o a) ≡ o = omega arith in
      let e : h - takes + leaves ≡ after = omega arith in
      (record { known = rw same known; last = rw same last; found = rw (same, t) enough }, rw (same, t, l, e) more)

-- The table's rows: 1 to 4 put a value, 5 and 6 change it, 7 and 8 join two, 9 to 14 take it.
module _ (o : ℕ) (known : 1 ≤ o) (last : o ≤ 14) where
  puts : (row_of o).takes ≡ 0 → (row_of o).leaves ≡ 1 → (a : ℕ) → a < 65536 → (h : ℕ) (rest : List ℕ) → OperandsFound (h + 1) rest → OperandsFound h (word o a ∷ rest)
  puts t l a small h rest more = a_word_finds o known last 0 1 t l a small h (h + 1) rest (omega arith) (omega arith) more

  changes : (row_of o).takes ≡ 1 → (row_of o).leaves ≡ 1 → (h : ℕ) (rest : List ℕ) → OperandsFound (h + 1) rest → OperandsFound (h + 1) (word o 0 ∷ rest)
  changes t l h rest more = a_word_finds o known last 1 1 t l 0 (omega arith) (h + 1) (h + 1) rest (omega arith) (omega arith) more

  joins : (row_of o).takes ≡ 2 → (row_of o).leaves ≡ 1 → (h : ℕ) (rest : List ℕ) → OperandsFound (h + 1) rest → OperandsFound (h + 1 + 1) (word o 0 ∷ rest)
  joins t l h rest more = a_word_finds o known last 2 1 t l 0 (omega arith) (h + 1 + 1) (h + 1) rest (omega arith) (omega arith) more

  takes_it : (row_of o).takes ≡ 1 → (row_of o).leaves ≡ 0 → (a : ℕ) → a < 65536 → (rest : List ℕ) → OperandsFound 0 rest → OperandsFound (0 + 1) (word o a ∷ rest)
  takes_it t l a small rest more = a_word_finds o known last 1 0 t l a small 1 0 rest (omega arith) (omega arith) more

module _ (R : ℕ) (few : R ≤ 65536) where
  an_expression_finds : (e : Expr) → Uses R 65536 e → (h : ℕ) (rest : List ℕ) → OperandsFound (h + 1) rest → OperandsFound h (expression_words e ++ rest)
  unfolding row_of rows
  an_expression_finds (a· a) p h rest more = puts 1 (omega arith) (omega arith) refl refl a p h rest more
  an_expression_finds (r· r) p h rest more = puts 2 (omega arith) (omega arith) refl refl r (omega arith) h rest more
  an_expression_finds zero· p h rest more = puts 3 (omega arith) (omega arith) refl refl 0 (omega arith) h rest more
  an_expression_finds one· p h rest more = puts 4 (omega arith) (omega arith) refl refl 0 (omega arith) h rest more
  an_expression_finds (any e) p h rest more =
      simp append_assoc (an_expression_finds e p h (word 5 0 ∷ rest) (changes 5 (omega arith) (omega arith) refl refl h rest more))
  an_expression_finds (not· e) p h rest more =
      simp append_assoc (an_expression_finds e p h (word 6 0 ∷ rest) (changes 6 (omega arith) (omega arith) refl refl h rest more))
  an_expression_finds (and· x y) p h rest more =
      simp append_assoc
      (an_expression_finds x p.0 h (expression_words y ++ (word 7 0 ∷ rest))
      (an_expression_finds y p.1 (h + 1) (word 7 0 ∷ rest) (joins 7 (omega arith) (omega arith) refl refl h rest more)))
  an_expression_finds (or· x y) p h rest more =
      simp append_assoc
      (an_expression_finds x p.0 h (expression_words y ++ (word 8 0 ∷ rest))
      (an_expression_finds y p.1 (h + 1) (word 8 0 ∷ rest) (joins 8 (omega arith) (omega arith) refl refl h rest more)))

  a_store_finds : (tag : Tag) (n : ℕ) (rest : List ℕ) → n < 65536 → OperandsFound 0 rest → OperandsFound (0 + 1) (word (store_operation tag) n ∷ rest)
  unfolding row_of rows
  a_store_finds seq n rest small more = takes_it 9 (omega arith) (omega arith) refl refl n small rest more
  a_store_finds arm n rest small more = takes_it 10 (omega arith) (omega arith) refl refl n small rest more
  a_store_finds gto n rest small more = takes_it 11 (omega arith) (omega arith) refl refl n small rest more
  a_store_finds ncx n rest small more = takes_it 12 (omega arith) (omega arith) refl refl n small rest more
  a_store_finds crl n rest small more = takes_it 13 (omega arith) (omega arith) refl refl n small rest more

  stores_find : (ss : List Store) (n : ℕ) (rest : List ℕ) → Each (StoreUses R 65536) ss → n + length ss ≤ 65536 → OperandsFound 0 rest → OperandsFound 0 (store_words n ss ++ rest)
  stores_find [] n rest p room more = more
  stores_find (s ∷ ss) n rest p room more =
      simp append_assoc
      (an_expression_finds s.from p.0 0 (word (store_operation s.tag) n ∷ (store_words (suc n) ss ++ rest))
      (a_store_finds s.tag n (store_words (suc n) ss ++ rest) (omega arith) (stores_find ss (suc n) rest p.1 (omega arith) more)))

  -- The match word takes the last value.
  a_listing_finds : (o : Synth) (n : ℕ) → SynthUses R 65536 o → n + length o.stores ≤ 65536 → OperandsFound 0 (listing n o)
  unfolding row_of rows OperandsFound
  a_listing_finds o n p room =
      stores_find o.stores n (expression_words o.cur ++ (word 14 0 ∷ [])) p.0 room
      (an_expression_finds o.cur p.1 0 (word 14 0 ∷ []) (takes_it 14 (omega arith) (omega arith) refl refl 0 (omega arith) [] tt))

-- Every word of a lowering finds its operands.
pub a_lowering_finds_its_operands : (t : List ℕ) (first : ℕ) → Ranged (root t) → first + length (synth_of t first).stores ≤ 65536
    → OperandsFound 0 (words_of t first)
unfolding synth_of words_of
a_lowering_finds_its_operands t first ranged room =
    a_listing_finds 65536 (omega arith) (synth_of t first) first (a_lowered_tree_is_bounded 65536 (root t) ranged first room) room
