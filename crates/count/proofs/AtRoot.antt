-- The walk from the root: a root within from the answers of its operands, any other root as a node of depth 1; and which nodes the
-- outline has then.
use mathlib.Core.Path.{◌≡◌, refl, sym, ◌∙◌}
use mathlib.Core.Bool.{true, false}
use mathlib.Core.List.{List}
use Prim.Native.Nat.{ℕ, ◌+◌, ◌*◌, ◌-◌, ◌≤◌, ◌<◌}
use native.Mathlib.Omega.{arith}
use lib.ListN.{length}
use Rattle.std.specs.Prelude.{Result, Ok, Err}
use Rattle.meaning.specs.declared.refusal.Refusal.{Refusal}
use Rattle.meaning.specs.Tree.{node_at, tree_at, nodes, below, root}
use Rattle.meaning.specs.Alternative.{SeqAlt, expand}
use Rattle.meaning.specs.Refusals.{entries, counts, and_then, walk, pair_counts, limited_within, walk_root, room_of}
use Rattle.meaning.specs.Lowerable.{WellFormed, FormedTable}
use Rattle.meaning.specs.declared.Node.{Node}
use Rattle.meaning.specs.declared.Counts.{Counts}
use Rattle.meaning.proofs.Members.{below_is_one_less}
use Rattle.meaning.proofs.Ranges.{by_kind}
use Rattle.meaning.proofs.Walks.{the_walk_counts_the_expansion, room_is_small}
use Rattle.outline.specs.Outline.{Notes}
use Rattle.outline.proofs.ByWords.{well_formed, is_atom, is_delay, is_consec, is_goto, is_nonconsec, is_throughout, is_within}
use Rattle.outline.proofs.Noting.{still_known}
use Rattle.count.specs.Nodes.{Countable, IsWithin, OperandsKnown, limit, paired}
use Rattle.count.proofs.Stands.{limit_capped}

-- 9, 10 and 11 of a root within, from the counts of both operands.
paired_counts : (room n : ℕ) (xs ys : List SeqAlt) → room ≤ 65536 → paired room n (counts xs) (counts ys) ≡ limited_within room n xs ys
unfolding paired limited_within counts pair_counts limit
paired_counts room n xs ys h = rw (limit_capped room n (length xs * length ys) (entries xs + entries ys) true false h) refl

-- A root of another kind than within.
no_within : {t : List ℕ} {n : ℕ} (room : ℕ) → FormedTable t → n < nodes t → ((node_at t n).kind ≡ 7 → ⊥) → walk_root room (tree_at t n) ≡ walk room 1 (tree_at t n)
unfolding walk_root
no_within {t} {n} room F inside f =
    by_kind (node_at t n).kind (F.each n inside).known
    (λ k. rw (is_atom F inside refl k) refl)
    (λ k. rw (is_delay F inside refl k) refl)
    (λ k. rw (is_consec F inside refl k refl) refl)
    (λ k. rw (is_goto F inside refl k) refl)
    (λ k. rw (is_nonconsec F inside refl k) refl)
    (λ k. rw (is_throughout F inside refl k) refl)
    (λ k. absurd (f k))

-- ---- `walked_within`: v are the root's words, x and y the answers of its operands

module _ {t : List ℕ} {n room : ℕ} (I : IsWithin t n room) where
  module _ {v : Node} (w : v ≡ node_at t n) where
    words : WellFormed n v
    words = well_formed I.formed I.inside w

    kind : v.kind ≡ 7
    kind = rw w I.kind

    -- seq1, then seq2, then the pairs.
    within_walk : walk_root room (tree_at t n) ≡ and_then (walk room 1 (tree_at t v.p)) (and_then (walk room 1 (tree_at t v.q)) (limited_within room n (expand (tree_at t v.p)) (expand (tree_at t v.q))))
    unfolding walk_root
    within_walk = rw (is_within I.formed I.inside w kind) refl

    module _ {x : Result Counts Refusal} (a : x ≡ walk room 1 (tree_at t v.p)) where
      -- A refusal in seq1, or in seq2, is the answer.
      pub one_refused : {why : Refusal} → x ≡ Err why → Err why ≡ walk_root room (tree_at t n)
      unfolding and_then
      one_refused q = sym (within_walk ∙ rw (sym a ∙ q) refl)

      module _ {c : Counts} {y : Result Counts Refusal} (q : x ≡ Ok c) (b : y ≡ walk room 1 (tree_at t v.q)) where
        pub two_refused : {why : Refusal} → y ≡ Err why → Err why ≡ walk_root room (tree_at t n)
        unfolding and_then
        two_refused q' = sym (within_walk ∙ rw (sym a ∙ q, sym b ∙ q') refl)

        -- Where neither operand is refused, 9, 10 and 11 of the root are the answer.
        pub within_done : {c' : Counts} {z : Result Counts Refusal} → y ≡ Ok c' → z ≡ paired room n c c' → z ≡ walk_root room (tree_at t n)
        unfolding and_then
        within_done {c'} q' u =
            let one = the_walk_counts_the_expansion room 1 (tree_at t v.p) c (sym a ∙ q) in
            let two = the_walk_counts_the_expansion room 1 (tree_at t v.q) c' (sym b ∙ q') in
            let decided : paired room n c c' ≡ limited_within room n (expand (tree_at t v.p)) (expand (tree_at t v.q)) =
            rw (one, two) (paired_counts room n _ _ I.rooms) in
            u ∙ decided ∙ sym (within_walk ∙ rw (sym a ∙ q, sym b ∙ q') refl)

    -- The words of both operands are noted.
    pub operands_known : {o o₁ o₂ : List ℕ} → Notes t v.p o o₁ → Notes t v.q o₁ o₂ → OperandsKnown t o₂ n
    operands_known N N' = record { one = rw (← w) (still_known N.known N'); two = rw (← w) N'.known }

-- ---- `walked_root`

module _ (t : List ℕ) (work : ℕ) {room : ℕ} (F : FormedTable t) (e : room ≡ room_of work) where
  small : room ≤ 65536
  small = rw e (room_is_small work)

  inside : nodes t - 1 < nodes t
  inside = omega (arith, F.some)

  -- The root is the last node, which the code has as one less than their number.
  root_is : below (nodes t) ≡ nodes t - 1
  root_is = below_is_one_less (nodes t)

  -- The root may be walked as a node of depth 1.
  pub root_countable : Countable t (nodes t - 1) room 1
  root_countable = record { formed = F; inside = inside; rooms = small; deep = omega arith }

  module _ {v : Node} (w : v ≡ node_at t (nodes t - 1)) where
    pub root_within : v.kind ≡ 7 → IsWithin t (nodes t - 1) room
    root_within k = record { formed = F; inside = inside; rooms = small; kind = rw (← w) k }

    -- Any other root than a within.
    module _ (f : v.kind ≡ 7 → ⊥) where
      pub other_root_done : {z : Result Counts Refusal} → z ≡ walk room 1 (tree_at t (nodes t - 1)) → z ≡ walk_root (room_of work) (root t)
      other_root_done q = q ∙ rw (root_is, ← e) (sym (no_within room F inside (rw w at f)))
