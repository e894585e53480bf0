-- The number of a node's alternatives, kind by kind: hops times left times right, or an Empty and the blocks of copies. And the
-- bounds under which a number is taken apart without an overflow.
use mathlib.Core.Path.{◌≡◌, ap, ◌∙◌}
use mathlib.Core.List.{List}
use Prim.Native.Nat.{ℕ, suc, ◌+◌, ◌*◌, ◌-◌, ◌<◌, ◌≤◌}
use native.Mathlib.Omega.{arith}
use lib.ListN.{length, length-append}
use Rattle.meaning.specs.declared.Node.{Node}
use Rattle.meaning.specs.Tree.{node_at, max_of}
use Rattle.meaning.specs.Alternative.{hops, copies, copies_from}
use Rattle.meaning.proofs.Counting.{Tally, throughout_tallied}
use Rattle.outline.specs.Outline.{Expandable}
use Rattle.outline.proofs.Laws.{Repetition}
use Rattle.expand.specs.ByNumber.{alternatives_of, copies_count, empties}
use Rattle.expand.proofs.Index.{length-join_hops, length-copies, finite_blocks, length-with_empty}
use Rattle.expand.proofs.ByKind.{some_alternatives, few_alternatives, delay_alternatives, throughout_alternatives, copied_expandable, copies_in_order, repeated_alternatives}

module _ {t : List ℕ} {n : ℕ} {v : Node} (E : Expandable t n) (w : v ≡ node_at t n) where
  -- Hops times left times right.
  pub delay_count : v.kind ≡ 2
      → length (alternatives_of t n) ≡ length (hops v.min (max_of v.max)) * (length (alternatives_of t v.p) * length (alternatives_of t v.q))
  delay_count k =
      ap length (delay_alternatives E w k)
      ∙ length-join_hops (hops v.min (max_of v.max)) (alternatives_of t v.p) (alternatives_of t v.q)

  -- A guard changes no number.
  pub throughout_count : v.kind ≡ 6 → length (alternatives_of t n) ≡ length (alternatives_of t v.q)
  throughout_count k =
      ap length (throughout_alternatives E w k) ∙ ap (λ (x : Tally). x.alternatives) (throughout_tallied v.p (alternatives_of t v.q))

  -- A finite [*] that has copies.
  module _ (R : Repetition v) where
    -- The Empty, then the blocks.
    pub repeated_count : length (alternatives_of t n) ≡ empties v.min + length (copies_from (alternatives_of t v.p) (v.min - 1) (v.max - (v.min - 1)))
    repeated_count =
        ap length (repeated_alternatives E w R ∙ finite_blocks (alternatives_of t v.p) v.min v.max R.live) ∙ length-with_empty v.min _

    -- Neither the operand's count nor that of the first block is above 256.
    module _ {a : ℕ} (p : a ≡ length (alternatives_of t v.p)) where
      pub copied_some : 0 < a
      copied_some = rw p (some_alternatives (copied_expandable E w R))

      pub copied_few : a ≤ 256
      copied_few = rw p (few_alternatives (copied_expandable E w R))

      pub first_few : copies_count a (v.min - 1) ≤ 256
      first_few =
          let base = alternatives_of t v.p in
          let k = v.min - 1 in
          let more = v.max - k - 1 in
          let blocks : v.max - k ≡ suc more = omega (arith, copies_in_order E w R, R.live) in
          let all = ap (λ (z : ℕ). length (copies_from base k z)) blocks ∙ length-append (copies base k) (copies_from base (suc k) more) in
          rw (p, ← length-copies base k) (omega (arith, few_alternatives E, repeated_count, all))
