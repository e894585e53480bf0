-- What the outline's word says of a node that is known: how many alternatives it has, which node is left of it without the [*1]
-- over it, and whether there is a guard.
use mathlib.Core.Path.{◌≡◌, refl, subst}
use mathlib.Core.List.{List}
use Prim.Native.Nat.{ℕ, zero, suc, ◌+◌, ◌*◌, ◌<◌, ◌≤◌}
use native.Mathlib.Omega.{arith}
use lib.ListN.{length, get_or}
use Rattle.words.specs.Choice.{pick, pick_case}
use Rattle.meaning.specs.Tree.{finite, unbounded, Seq, atom, delay, consec, goto, nonconsec, throughout, within, number, node_at, max_of, tree_at, nodes}
use Rattle.meaning.specs.Alternative.{expand}
use Rattle.meaning.specs.Refusals.{counts}
use Rattle.meaning.specs.Lowerable.{WellFormed, FormedTable}
use Rattle.meaning.proofs.Nodes.{number_of}
use Rattle.meaning.proofs.Ranges.{by_kind}
use Rattle.meaning.proofs.Walks.{a_walkable_tree_is_bounded}
use Rattle.outline.specs.Outline.{is_once, bare, counted_word, outline_word, guard_flag, count_in, bare_in, flag_in, Noted, Outlined, Expandable, Known}
use Rattle.outline.proofs.ByWords.{is_atom, is_delay, is_consec, is_goto, is_nonconsec, is_throughout, is_within}

-- A tree's own word is among its words.
own_word : (t o : List ℕ) (s : Seq) → Outlined t o s → Noted t o (number s)
unfolding Outlined
own_word t o (atom n a) O = O
own_word t o (delay n l r m x) O = O.2
own_word t o (consec n s m (finite zero)) O = O
own_word t o (consec n s m (finite (suc x))) O = O.1
own_word t o (consec n s m unbounded) O = O
own_word t o (goto n s k) O = O
own_word t o (nonconsec n s k) O = O
own_word t o (throughout n c s) O = O.1
own_word t o (within n s₁ s₂) O = O

-- The node that is left is no higher.
lower : (t : List ℕ) → FormedTable t → (fuel n : ℕ) → n < fuel → n < nodes t → bare (tree_at t n) ≤ n
unfolding bare
lower t formed zero n l inside = absurd (omega arith)
lower t formed (suc fuel) n l inside =
    by_kind (node_at t n).kind w.known
    (λ k. rw (is_atom formed inside refl k) (omega arith))
    (λ k. rw (is_delay formed inside refl k) (omega arith))
    (λ k. rw (is_consec formed inside refl k refl) (once (lower t formed fuel (node_at t n).p (omega (arith, w.consec_under k)) (omega (arith, w.consec_under k))) (w.consec_under k)))
    (λ k. rw (is_goto formed inside refl k) (omega arith))
    (λ k. rw (is_nonconsec formed inside refl k) (omega arith))
    (λ k. rw (is_throughout formed inside refl k) (omega arith))
    (λ k. rw (is_within formed inside refl k) (omega arith))
  where
    w : WellFormed n (node_at t n)
    w = formed.each n inside

    once : bare (tree_at t (node_at t n).p) ≤ (node_at t n).p → (node_at t n).p < n
        → pick (is_once (node_at t n).min (max_of (node_at t n).max)) (bare (tree_at t (node_at t n).p)) n ≤ n
    once under l =
        pick_case (λ (m : ℕ). m ≤ n) (is_once (node_at t n).min (max_of (node_at t n).max)) (λ _. omega arith) (λ _. omega arith)

pub bare_lower : (t : List ℕ) (n : ℕ) → FormedTable t → n < nodes t → bare (tree_at t n) ≤ n
bare_lower t n formed inside = lower t formed (suc n) n (omega arith) inside

module _ {t : List ℕ} {n : ℕ} (E : Expandable t n) where
  -- A node has at most 256 alternatives.
  pub few_alternatives : length (expand (tree_at t n)) ≤ 256
  few_alternatives = (a_walkable_tree_is_bounded E.room (tree_at t n) E.walkable).few

  few_nodes : bare (tree_at t n) < 4096
  few_nodes = omega (arith, bare_lower t n E.formed E.inside, E.inside, E.formed.few)

  module _ {o : List ℕ} (K : Known t o n) where
    pub inside_outline : n < length o
    inside_outline = omega (arith, E.inside, K.long)

    word_is : get_or o n 0 ≡ length (expand (tree_at t n)) + 512 * (bare (tree_at t n) + 4096 * guard_flag (tree_at t n))
    unfolding outline_word counted_word counts guard_flag
    word_is = subst (λ (m : ℕ). Noted t o m) (number_of t n) (own_word t o (tree_at t n) K.outline)

    pub count_known : count_in o n ≡ length (expand (tree_at t n))
    unfolding count_in
    count_known = rw word_is (omega (arith, few_alternatives))

    pub bare_known : bare_in o n ≡ bare (tree_at t n)
    unfolding bare_in
    bare_known = rw word_is (omega (arith, few_alternatives, few_nodes))

    pub flag_known : flag_in o n ≡ guard_flag (tree_at t n)
    unfolding flag_in
    flag_known = rw word_is (omega (arith, few_alternatives, few_nodes))
