-- The alternatives of a node from those of its operands, kind by kind, for a node that the checks and the walk let pass.
use mathlib.Core.Path.{◌≡◌, refl, sym, ap, ◌∙◌}
use mathlib.Core.Bool.{Bool, true, false}
use mathlib.Core.List.{List, [], ◌∷◌}
use Prim.Native.Nat.{ℕ, zero, suc, ◌<◌, ◌≤◌}
use native.Mathlib.Omega.{arith}
use native.Mathlib.Decide.{ℕ_discrete}
use lib.Dec.{leb}
use lib.ListN.{length}
use borrow.Author.Tests.{lt-ltb, leb-false}
use Rattle.words.specs.Choice.{pick}
use Rattle.meaning.specs.declared.Node.{Node}
use Rattle.meaning.specs.declared.SeqTerm.TheVariants.{Bool as BoolTerm, Goto, Nonconsec}
use Rattle.meaning.specs.Tree.{finite, Seq, consec, Operand, boolean, operand, node_at, unlimited, max_of, tree_at, nodes}
use Rattle.meaning.specs.Alternative.{SeqAlt, single, join_hops, hops, consec_finite, over, consec_unbounded, guard_each, expand}
use Rattle.meaning.specs.Lowerable.{WellFormed, FormedTable, IsBoolean, Walkable}
use Rattle.meaning.proofs.Ranges.{by_kind, a_formed_tree_is_ranged}
use Rattle.meaning.proofs.Flags.{a_walkable_tree_has_alternatives}
use Rattle.outline.specs.Outline.{is_repeated, Expandable}
use Rattle.outline.proofs.Laws.{Repetition, no_repetition}
use Rattle.outline.proofs.ByWords.{well_formed, is_atom, is_delay, is_consec, is_finite, is_unbounded, is_goto, is_nonconsec, is_throughout, is_within}
use Rattle.outline.proofs.Readers.{few_alternatives as few_expanded}
use Rattle.expand.proofs.Index.{nth_unbounded, nth_finite_empty}
use Rattle.expand.specs.ByNumber.{alternatives_of, nth, empties, is_copies, single_term, OperandInside}

-- The operand of a goto, a nonconsecutive or a [*m:$] is an atom, and its first word is which.
boolean_operand : (t : List ℕ) (m : ℕ) → FormedTable t → m < nodes t → IsBoolean (operand (tree_at t m))
    → operand (tree_at t m) ≡ boolean (node_at t m).p
boolean_operand t m T i B =
    by_kind (node_at t m).kind (T.each m i).known
    (λ e. ap operand (is_atom T i refl e))
    (λ e. absurd (rw (is_delay T i refl e) at B))
    (λ e. absurd (rw (is_consec T i refl e refl) at B))
    (λ e. absurd (rw (is_goto T i refl e) at B))
    (λ e. absurd (rw (is_nonconsec T i refl e) at B))
    (λ e. absurd (rw (is_throughout T i refl e) at B))
    (λ e. absurd (rw (is_within T i refl e) at B))

-- 5 of a finite [*] that has copies, and what is known of its operand.
walkable_copies : (room n : ℕ) (s : Seq) (m x : ℕ) → 0 < x → Walkable room (consec n s m (finite x)) → Walkable room s × (x ≤ 256)
unfolding Walkable
walkable_copies room n s m zero h W = absurd (omega arith)
walkable_copies room n s m (suc x) h W = (W.0, W.1)

module _ {t : List ℕ} {n : ℕ} (E : Expandable t n) where
  -- A node has from 1 to 256 alternatives.
  pub some_alternatives : 0 < length (alternatives_of t n)
  unfolding alternatives_of
  some_alternatives = a_walkable_tree_has_alternatives E.room (tree_at t n) (a_formed_tree_is_ranged t E.formed n E.inside) E.walkable

  pub few_alternatives : length (alternatives_of t n) ≤ 256
  unfolding alternatives_of
  few_alternatives = few_expanded E

  module _ {v : Node} (w : v ≡ node_at t n) where
    words : WellFormed n v
    words = well_formed E.formed E.inside w

    -- A lower node that the walk let pass too.
    lower : (m : ℕ) → m < n → Walkable E.room (tree_at t m) → Expandable t m
    lower m l W = record { formed = E.formed; inside = omega (arith, E.inside); room = E.room; walkable = W }

    -- ---- delay

    delay_walkable : v.kind ≡ 2 → Walkable E.room (tree_at t v.p) × Walkable E.room (tree_at t v.q)
    unfolding Walkable
    delay_walkable k = let W = rw (is_delay E.formed E.inside w k) at E.walkable in (W.0, W.1)

    pub left_expandable : v.kind ≡ 2 → Expandable t v.p
    left_expandable k = lower v.p (words.delay_left k) (delay_walkable k).0

    pub right_expandable : v.kind ≡ 2 → Expandable t v.q
    right_expandable k = lower v.q (words.delay_right k) (delay_walkable k).1

    pub delay_alternatives : v.kind ≡ 2
        → alternatives_of t n ≡ join_hops (hops v.min (max_of v.max)) (alternatives_of t v.p) (alternatives_of t v.q)
    unfolding alternatives_of
    delay_alternatives k = rw (is_delay E.formed E.inside w k) refl

    -- ---- throughout

    pub guarded_expandable : v.kind ≡ 6 → Expandable t v.q
    unfolding Walkable
    guarded_expandable k = lower v.q (words.throughout_under k) (let W = rw (is_throughout E.formed E.inside w k) at E.walkable in W.0)

    pub throughout_alternatives : v.kind ≡ 6 → alternatives_of t n ≡ guard_each v.p (alternatives_of t v.q)
    unfolding alternatives_of
    throughout_alternatives k = rw (is_throughout E.formed E.inside w k) refl

    -- ---- consecutive

    pub finite_alternatives : v.kind ≡ 3 → (v.max ≡ unlimited → ⊥)
        → alternatives_of t n ≡ consec_finite (alternatives_of t v.p) v.min v.max
    unfolding alternatives_of
    finite_alternatives k l = rw (is_finite E.formed E.inside w k l) refl

    module _ (R : Repetition v) where
      -- What 5 and the walk say of a [*] that has copies, and its alternatives.
      copies_walkable : Walkable E.room (tree_at t v.p) × (v.max ≤ 256)
      copies_walkable =
          walkable_copies E.room n (tree_at t v.p) v.min v.max R.live (rw (is_finite E.formed E.inside w R.kind R.limited) at E.walkable)

      pub copied_expandable : Expandable t v.p
      copied_expandable = lower v.p (words.consec_under R.kind) copies_walkable.0

      pub few_copies : v.max ≤ 256
      few_copies = copies_walkable.1

      pub copies_in_order : v.min ≤ v.max
      copies_in_order = words.consec_range R.kind

      pub repeated_alternatives : alternatives_of t n ≡ consec_finite (alternatives_of t v.p) v.min v.max
      repeated_alternatives = finite_alternatives R.kind R.limited

    -- ---- the kinds over a Boolean

    -- What a term over the operand's Boolean gives.
    over_operand : (g : ℕ → List SeqAlt) → v.p < n → IsBoolean (operand (tree_at t v.p))
        → over (operand (tree_at t v.p)) g ≡ g (node_at t v.p).p
    over_operand g l B = ap (λ (x : Operand). over x g) (boolean_operand t v.p E.formed (omega (arith, E.inside)) B)

    pub unbounded_alternatives : v.kind ≡ 3 → v.max ≡ unlimited → alternatives_of t n ≡ consec_unbounded v.min (node_at t v.p).p
    unfolding alternatives_of Walkable
    unbounded_alternatives k u =
        ap expand (is_unbounded E.formed E.inside w k u)
        ∙ over_operand (consec_unbounded v.min) (words.consec_under k) (let W = rw (is_unbounded E.formed E.inside w k u) at E.walkable in W.1)

    pub goto_alternatives : v.kind ≡ 4 → alternatives_of t n ≡ single (Goto (node_at t v.p).p v.min) ∷ []
    unfolding alternatives_of Walkable
    goto_alternatives k =
        ap expand (is_goto E.formed E.inside w k)
        ∙ over_operand (λ b. single (Goto b v.min) ∷ []) (words.goto_under k) (let W = rw (is_goto E.formed E.inside w k) at E.walkable in W.1)

    pub nonconsec_alternatives : v.kind ≡ 5 → alternatives_of t n ≡ single (Nonconsec (node_at t v.p).p v.min) ∷ []
    unfolding alternatives_of Walkable
    nonconsec_alternatives k =
        ap expand (is_nonconsec E.formed E.inside w k)
        ∙ over_operand (λ b. single (Nonconsec b v.min) ∷ []) (words.nonconsec_under k) (let W = rw (is_nonconsec E.formed E.inside w k) at E.walkable in W.1)

    pub atom_alternatives : v.kind ≡ 1 → alternatives_of t n ≡ single (BoolTerm v.p) ∷ []
    unfolding alternatives_of
    atom_alternatives k = ap expand (is_atom E.formed E.inside w k)

    pub atom_alternative : v.kind ≡ 1 → (i : ℕ) → i < length (alternatives_of t n) → nth (alternatives_of t n) i ≡ single (BoolTerm v.p)
    unfolding nth
    atom_alternative k i h =
        let e = atom_alternatives k in
        let z : i ≡ 0 = omega (arith, rw e at h) in
        rw (e, z) refl

    -- 8: a within is the root's alone.
    pub no_within : v.kind ≡ 7 → ⊥
    unfolding Walkable
    no_within k = let W = rw (is_within E.formed E.inside w k) at E.walkable in W

    -- ---- the alternatives that are one term

    module _ (d : v.kind ≡ 2 → ⊥) (g : v.kind ≡ 6 → ⊥) where
      -- Four kinds are left.
      pub by_single_kind : {P : Type 0} → (v.kind ≡ 1 → P) → (v.kind ≡ 3 → P) → (v.kind ≡ 4 → P) → (v.kind ≡ 5 → P) → P
      by_single_kind p₁ p₃ p₄ p₅ =
          by_kind v.kind words.known p₁ (λ k. absurd (d k)) p₃ p₄ p₅ (λ k. absurd (g k)) (λ k. absurd (no_within k))

      -- A finite [*] has nothing but copies behind its Empty.
      before_copies : {b : Bool} (i : ℕ) → i < length (alternatives_of t n) → b ≡ is_copies v i → b ≡ false → v.kind ≡ 3
          → (v.max ≡ unlimited → ⊥) → i < empties v.min
      unfolding is_copies empties pick
      before_copies {b} i h c x k l = go (is_repeated v) refl
        where
          go : (r : Bool) → is_repeated v ≡ r → i < empties v.min
          go true e = let q : leb (empties v.min) i ≡ false = sym (rw e at c) ∙ x in leb-false _ _ q
          go false e =
              let z : v.max ≡ 0 = no_repetition v (sym e) refl k l in
              let m : v.min ≡ 0 = omega (arith, words.consec_range k) in
              rw m (rw (finite_alternatives k l, z) at h)

      -- Alternative i, where it is not made of copies, is the one term that its node and number say.
      pub single_alternative : {b : Bool} (i : ℕ) → i < length (alternatives_of t n) → b ≡ is_copies v i → b ≡ false
          → nth (alternatives_of t n) i ≡ single (single_term t v i)
      unfolding single_term pick nth
      single_alternative {b} i h c x =
          by_single_kind
          (λ k. rw (k, atom_alternatives k, only (atom_alternatives k)) refl)
          (λ k. elim (ℕ_discrete v.max unlimited) [
            | yes u ↦ (
                let e = unbounded_alternatives k u in
                rw (k, e) (nth_unbounded v.min (node_at t v.p).p i (rw e at h)))
            | no l ↦ (
                let e = before_copies i h c x k l in
                rw (k, lt-ltb _ _ e, finite_alternatives k l)
                (nth_finite_empty (alternatives_of t v.p) v.min v.max i (words.consec_range k) e))
          ])
          (λ k. rw (k, goto_alternatives k, only (goto_alternatives k)) refl)
          (λ k. rw (k, nonconsec_alternatives k, only (nonconsec_alternatives k)) refl)
        where
          only : {y : SeqAlt} → alternatives_of t n ≡ y ∷ [] → i ≡ 0
          only e = omega (arith, rw e at h)

      -- The operand of what is one term can be read, if there is one.
      pub operand_inside : OperandInside t v
      operand_inside = record {
        inside = λ x. omega (arith, under x, E.inside, E.formed.whole);
        few = λ x. omega (arith, under x, E.inside, E.formed.few);
      }
        where
          under : (v.kind ≡ 1 → ⊥) → v.p < n
          under x =
              by_single_kind
              (λ k. absurd (x k))
              (λ k. words.consec_under k)
              (λ k. words.goto_under k)
              (λ k. words.nonconsec_under k)
