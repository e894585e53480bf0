-- A row and its pairs in work: each alternative of seq2 can be kept in front and each of seq1 behind it, and what stands in front stays.
use mathlib.Core.Path.{◌≡◌, ◌∙◌}
use mathlib.Core.List.{List}
use Prim.Native.Nat.{ℕ, ◌+◌, ◌*◌, ◌<◌, ◌≤◌}
use native.Mathlib.Omega.{arith}
use lib.ListN.{length}
use Rattle.meaning.specs.Refusals.{entries, room_of}
use Rattle.meaning.specs.Alternative.{SeqAlt}
use Rattle.meaning.specs.Root.{window_len}
use Rattle.meaning.proofs.Walks.{room_is_small}
use Rattle.outline.specs.Outline.{Expandable}
use Rattle.term.specs.declared.Kept.{Kept}
use Rattle.term.specs.Keeping.{steps_of}
use Rattle.expand.specs.ByNumber.{alternatives_of}
use Rattle.expand.proofs.Room.{size_within_entries}
use Rattle.alternative.specs.Keeping.{chosen, Keepable, Keeps}
use Rattle.alternative.proofs.Keeping.{room_in_work, few_to_keep, keepable_again, still_holds}
use Rattle.alternative.proofs.Laws.{kept_window}
use Rattle.pair.specs.Pairs.{longest_window}
use Rattle.pair.specs.declared.Pair.{Pair}
use Rattle.within.specs.declared.Row.{Row}
use Rattle.within.specs.declared.Operands.{Operands}
use Rattle.within.specs.Rows.{Paired, Ready, Rowed, Beside, twos}

-- Both operands' alternatives find room together, and there are at most 256 rows and 256 pairs.
module _ {t o : List ℕ} {one two work : ℕ} (P : Paired t o one two work) where
  both_fit : (entries (alternatives_of t one) + entries (alternatives_of t two)) * 16 ≤ work
  both_fit = omega (arith, P.pairs.fits, room_in_work work)

  both_few : entries (alternatives_of t one) + entries (alternatives_of t two) ≤ 65536
  both_few = omega (arith, P.pairs.fits, room_is_small work)

  one_node : Expandable t one
  one_node = record { formed = P.formed; inside = P.one_inside; room = room_of work; walkable = P.one_walkable }

  two_node : Expandable t two
  two_node = record { formed = P.formed; inside = P.two_inside; room = room_of work; walkable = P.two_walkable }

  pub one_keepable : Keepable t o one 0 work
  one_keepable = record { node = one_node; known = P.one_known; room = omega (arith, both_fit); few = omega (arith, both_few) }

  pub two_keepable : Keepable t o two 0 work
  two_keepable = record { node = two_node; known = P.two_known; room = omega (arith, both_fit); few = omega (arith, both_few) }

  pub few_rows_and_pairs : length (alternatives_of t two) * (length (alternatives_of t one) + 1) ≤ 512
  few_rows_and_pairs = omega (arith, P.pairs.few, few_to_keep two_keepable)

-- Work is as long as it was.
pub still_paired : {t o : List ℕ} {one two work work₁ : ℕ} → Paired t o one two work → work₁ ≡ work → Paired t o one two work₁
still_paired P e = rw e P

pub still_ready : {w : Operands} {work work₁ : ℕ} → Ready w work → work₁ ≡ work → Ready w work₁
still_ready R e = rw e R

-- The i-th alternative of seq2 in front.
pub row_made : {w : Operands} {i r l : ℕ} {work work₁ : List ℕ} {a : Kept} → Ready w (length work) → i < length (twos w)
    → Keeps (chosen w.tree.now w.two i) r work work₁ 0 a → l ≡ window_len (steps_of work₁ a) → l ≤ longest_window
    → Rowed w (chosen w.tree.now w.two i) r work₁ (record { two = a; window = l })
row_made {w} {i} R h K e low = record {
  holds = K.holds;
  window = e ∙ kept_window K.holds;
  low = low;
  room = record {
    node = one_node R.paired;
    known = R.paired.one_known;
    room = omega (arith, both_fit R.paired, K.short, K.long, size_within_entries (twos w) i h);
    few = omega (arith, both_few R.paired);
  };
}

-- Behind the row's alternative another is kept.
pub still_rowed : {w : Operands} {y z : SeqAlt} {r n : ℕ} {work work₁ : List ℕ} {row : Row} {pair : Pair} → Rowed w y r work row → Beside z row n work work₁ pair
    → Rowed w y r work₁ row
still_rowed {row = row} R B = record {
  holds = still_holds {e = row.two.end} B.keeps.front (omega arith) R.holds;
  window = R.window;
  low = R.low;
  room = keepable_again R.room B.keeps.long;
}
