-- The walk at a node whose operands it does not visit is what the code answers there, kind by kind.
use mathlib.Core.Path.{◌≡◌, refl, sym, ap, ◌∙◌}
use mathlib.Core.Bool.{false}
use mathlib.Core.List.{List, [], ◌∷◌}
use Prim.Native.Nat.{ℕ, zero, suc, ◌≤◌, ◌<◌}
use native.Mathlib.Omega.{arith}
use native.Mathlib.Decide.{ℕ_discrete}
use lib.Dec.{eqb, ltb}
use borrow.Author.Tests.{ne_eqb, le-ltb}
use Rattle.words.specs.Choice.{pick, pick_cong, pick_false}
use Rattle.std.specs.Prelude.{Err}
use Rattle.meaning.specs.declared.refusal.Refusal.TheVariants.{CountTooHigh, NotOverAnAtom, WithinBelowRoot}
use Rattle.meaning.specs.Tree.{finite, Seq, Operand, boolean, other, operand, node_at, unlimited, tree_at, nodes}
use Rattle.meaning.specs.Alternative.{SeqAlt, single, over, consec_unbounded}
use Rattle.meaning.specs.Refusals.{is_bool, limited, deep_enough, is_boolean, over_boolean, walk_in, walk}
use Rattle.meaning.specs.Lowerable.{WellFormed, FormedTable}
use Rattle.meaning.specs.declared.Node.{Node}
use Rattle.meaning.specs.declared.Counts.{Counts}
use Rattle.meaning.specs.declared.SeqTerm.{SeqTerm}
use Rattle.meaning.specs.declared.SeqTerm.TheVariants.{Bool as BoolTerm, Empty}
use Rattle.meaning.proofs.Ranges.{by_kind, finite_max}
use Rattle.outline.specs.Outline.{is_repeated}
use Rattle.outline.proofs.Laws.{no_repetition}
use Rattle.outline.proofs.ByWords.{well_formed, is_atom, is_delay, is_consec, is_unbounded, is_goto, is_nonconsec, is_throughout, is_within}
use Rattle.count.specs.Capped.{bool_term, other_term, with_empty}
use Rattle.count.specs.Nodes.{Countable, limit, over_node, unvisited}
use Rattle.count.proofs.Stands.{exact, Stands, limit_stands, other_term_stands, with_empty_stands}

-- A tree is one Boolean where its node is an atom.
is_an_atom : (t : List ℕ) (k : ℕ) → FormedTable t → k < nodes t → is_boolean (operand (tree_at t k)) ≡ eqb (node_at t k).kind 1
is_an_atom t k formed inside =
    by_kind (node_at t k).kind (formed.each k inside).known
    (λ e. rw (is_atom formed inside refl e, e) refl)
    (λ e. rw (is_delay formed inside refl e, e) refl)
    (λ e. rw (is_consec formed inside refl e refl, e) refl)
    (λ e. rw (is_goto formed inside refl e, e) refl)
    (λ e. rw (is_nonconsec formed inside refl e, e) refl)
    (λ e. rw (is_throughout formed inside refl e, e) refl)
    (λ e. rw (is_within formed inside refl e, e) refl)

-- 5 and 6 over a Boolean, where the counts stand for what is made of it.
over_stands : (room n count : ℕ) (x : Operand) (f : ℕ → List SeqAlt) (c : Counts) → room ≤ 65536 → ((b : ℕ) → Stands c (f b))
    → over_boolean n count x (limited room n (over x f)) ≡ pick (ltb 256 count) (Err (CountTooHigh n)) (pick (is_boolean x) (limit room n c) (Err (NotOverAnAtom n)))
unfolding over_boolean
over_stands room n count (boolean b) f c h s = rw (limit_stands room n h (s b)) refl
over_stands room n count other f c h s = pick_cong (ltb 256 count) (λ _. refl) (λ _. sixth)
  where
    sixth : pick false (limited room n []) (Err (NotOverAnAtom n)) ≡ pick false (limit room n c) (Err (NotOverAnAtom n))
    sixth = pick_false _ _ refl ∙ sym (pick_false _ _ refl)

-- A repetition from 1 on has no Empty.
one_term_stands : (m : ℕ) (x : SeqTerm) → 1 ≤ m → is_bool x ≡ false → Stands (with_empty m other_term) (single x ∷ [])
one_term_stands zero x some e = absurd (omega arith)
one_term_stands (suc m) x some e = with_empty_stands (suc m) (other_term_stands x e)

-- An atom's one alternative.
bool_term_stands : (a : ℕ) → Stands bool_term (single (BoolTerm a) ∷ [])
unfolding pick
bool_term_stands a = record { numbers = exact refl refl; plainly = refl; guardedly = refl }

-- At a depth that 4 lets pass, the walk is the node's own part.
pub not_too_deep : (room d : ℕ) (s : Seq) → d ≤ 256 → walk room d s ≡ walk_in room d s
unfolding walk deep_enough
not_too_deep room d s h = pick_false _ _ (le-ltb _ _ h)

-- v are the words that the code has read.
module _ {t : List ℕ} {n room d : ℕ} {v : Node} (S : Countable t n room d) (h : d ≤ 256) (w : v ≡ node_at t n) where
  f : WellFormed n v
  f = well_formed S.formed S.inside w

  -- The walk at a node that is this tree.
  walk_at : {s : Seq} → tree_at t n ≡ s → walk room d (tree_at t n) ≡ walk_in room d s
  walk_at {s} e = rw e (not_too_deep room d s h)

  -- A within that is walked is refused with 8.
  at_a_within : v.kind ≡ 7 → walk room d (tree_at t n) ≡ Err (WithinBelowRoot n)
  unfolding walk_in
  at_a_within k = walk_at (is_within S.formed S.inside w k)

  -- An atom: 10 and 11 of one Bool term.
  at_an_atom : v.kind ≡ 1 → walk room d (tree_at t n) ≡ limit room n bool_term
  unfolding walk_in
  at_an_atom k = walk_at (is_atom S.formed S.inside w k) ∙ sym (limit_stands room n S.rooms (bool_term_stands _))

  -- [*0]: 10 and 11 of one Empty, whatever the operand is.
  at_no_repetition : v.kind ≡ 3 → v.max ≡ 0 → walk room d (tree_at t n) ≡ limit room n other_term
  unfolding walk_in
  at_no_repetition k e =
      walk_at (is_consec S.formed S.inside w k (finite_max v.max (λ q. omega arith) ∙ ap finite e))
      ∙ sym (limit_stands room n S.rooms (other_term_stands Empty refl))

  -- The three kinds that stand over a Boolean.
  over_an_operand : (g : ℕ → List SeqAlt) → v.p < n → ((b : ℕ) → Stands (with_empty v.min other_term) (g b))
      → over_boolean n v.min (operand (tree_at t v.p)) (limited room n (over (operand (tree_at t v.p)) g)) ≡ over_node room n v (node_at t v.p)
  unfolding over_node
  over_an_operand g l s =
      over_stands room n _ (operand (tree_at t v.p)) g _ S.rooms s ∙ rw (is_an_atom t v.p S.formed (omega (arith, S.inside))) refl

  -- A walked [*m:$] is answered as a node over its operand.
  at_a_run : v.kind ≡ 3 → v.max ≡ unlimited → walk room d (tree_at t n) ≡ over_node room n v (node_at t v.p)
  unfolding walk_in
  at_a_run k e =
      walk_at (is_unbounded S.formed S.inside w k e)
      ∙ over_an_operand (consec_unbounded v.min) (f.consec_under k) (λ b. with_empty_stands _ (other_term_stands _ refl))

  -- A walked goto is answered as a node over its operand.
  at_a_goto : v.kind ≡ 4 → walk room d (tree_at t n) ≡ over_node room n v (node_at t v.p)
  unfolding walk_in
  at_a_goto k =
      walk_at (is_goto S.formed S.inside w k) ∙ over_an_operand _ (f.goto_under k) (λ b. one_term_stands _ _ (f.goto_count k) refl)

  -- A walked nonconsecutive repetition is answered as a node over its operand.
  at_a_nonconsec : v.kind ≡ 5 → walk room d (tree_at t n) ≡ over_node room n v (node_at t v.p)
  unfolding walk_in
  at_a_nonconsec k =
      walk_at (is_nonconsec S.formed S.inside w k)
      ∙ over_an_operand _ (f.nonconsec_under k) (λ b. one_term_stands _ _ (f.nonconsec_count k) refl)

  -- The nodes whose operands are not visited, as the code tells them apart.
  pub not_visited_walk : (v.kind ≡ 2 → ⊥) → (v.kind ≡ 6 → ⊥) → is_repeated v ≡ false → walk room d (tree_at t n) ≡ unvisited room n v (node_at t v.p)
  unfolding unvisited pick
  not_visited_walk no_delay no_throughout e =
      by_kind v.kind f.known
      (λ k. at_an_atom k ∙ rw k refl)
      (λ k. absurd (no_delay k))
      (λ k. no_or_run k (ℕ_discrete v.max 0))
      (λ k. at_a_goto k ∙ rw k refl)
      (λ k. at_a_nonconsec k ∙ rw k refl)
      (λ k. absurd (no_throughout k))
      (λ k. at_a_within k ∙ rw k refl)
    where
      no_or_run : v.kind ≡ 3 → Dec (v.max ≡ 0) → walk room d (tree_at t n) ≡ unvisited room n v (node_at t v.p)
      no_or_run k (yes q) = at_no_repetition k q ∙ rw (k, q) refl
      no_or_run k (no q) = elim (ℕ_discrete v.max unlimited) [
        | yes u ↦ at_a_run k u ∙ rw (k, ne_eqb v.max 0 q) refl
        | no l ↦ absurd (q (no_repetition v (sym e) refl k l))
      ]
