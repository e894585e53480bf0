-- What the walk leaves of a root, by its kind: a node whose alternatives can be kept, or a within whose operands are paired. And what the root
-- lowers to: the choice of the one, all pairs of the other. So lengths do not depend on the first register.
use mathlib.Core.Path.{◌≡◌, refl, sym, ap, ap₂, subst, ◌∙◌}
use mathlib.Core.List.{List}
use Rattle.std.specs.Prelude.{Result, Ok}
use Prim.Native.Nat.{ℕ, ◌+◌, ◌-◌, ◌/◌, ◌<◌, ◌≤◌}
use native.Mathlib.Omega.{arith}
use native.Mathlib.Decide.{ℕ_discrete}
use lib.ListN.{length}
use borrow.Author.Tests.{eq-eqb, ne_eqb}
use Rattle.words.specs.Choice.{pick}
use Rattle.words.specs.Written.{Wrote}
use Rattle.meaning.specs.Tree.{within, Rooted, another, rooted, node_at, tree_at, nodes, below, root}
use Rattle.meaning.specs.Expression.{Synth}
use Rattle.meaning.specs.Root.{choice, synth_within, synth_rooted}
use Rattle.meaning.specs.Listing.{listing}
use Rattle.meaning.specs.Refusals.{room_of, nowhere, first_misplaced, misplaced_rooted, misplaced}
use Rattle.meaning.specs.Lower.{synth_of, words_of}
use Rattle.meaning.specs.Lowerable.{Walkable, WalkableRooted, WalkableRoot, Pairable}
use Rattle.meaning.specs.declared.Node.{Node}
use Rattle.meaning.specs.declared.refusal.Refusal.{Refusal}
use Rattle.meaning.proofs.Members.{below_is_one_less}
use Rattle.meaning.proofs.Roots.{a_node_of_another_kind}
use Rattle.meaning.proofs.Walks.{room_is_small, a_walkable_tree_is_bounded, a_walked_root_is_walkable}
use Rattle.outline.specs.Outline.{Expandable}
use Rattle.outline.proofs.ByWords.{well_formed, is_within}
use Rattle.expand.specs.ByNumber.{alternatives_of}
use Rattle.expand.proofs.ByKind.{some_alternatives}
use Rattle.alternative.specs.Keeping.{Keepable}
use Rattle.alternative.proofs.Keeping.{room_in_work}
use Rattle.choice.specs.ChoiceWords.{all_registers, choice_words, survey_by, survey_of, Numberable}
use Rattle.choice.proofs.Words.{the_registers_of_a_choice, the_listing_of_a_choice, as_long_a_choice}
use Rattle.choice.proofs.Surveys.{the_survey}
use Rattle.within.specs.AllPairs.{all_registers as within_registers, within_words}
use Rattle.within.specs.Rows.{Paired, Numberable as NumberablePairs}
use Rattle.within.proofs.PairByPair.{the_registers_of_a_within}
use Rattle.within.proofs.Lengths.{as_many_words as as_long_a_within}
use Rattle.lower.specs.Stages.{register_count, survey_root, root_by, root_of, Outlines}
use Rattle.lower.specs.declared.Root.{Root}
use Rattle.lower.specs.declared.Root.TheVariants.{Within, Other}

-- The passes over the words: what a pass counts, has room for and writes is the listing, whichever definition the pass has of it. Words are
-- counted with registers from 0 on.
pub few_from_0 : {registers : ℕ} → registers ≤ 65536 → 0 + registers ≤ 65536
few_from_0 few = omega arith

module _ {ws ws₁ : List ℕ} (same : ws ≡ ws₁) where
  pub counted_as : {words : ℕ} → words ≡ length ws₁ → words ≡ length ws
  counted_as q = q ∙ sym (ap length same)

  pub room_as : {out : ℕ} → length ws ≤ out → length ws₁ ≤ out
  room_as h = rw (← same) h

  pub written_as : {out out₁ : List ℕ} {end : ℕ} → Wrote out out₁ 0 end ws₁ → Wrote out out₁ 0 end ws
  written_as w = rw same w

-- What `Root::of` tells: the last node is a within, of these operands, or it is the node of this number.
pub record AtWithin (t : List ℕ) (one two : ℕ) : Type 0 where
  pub kind : (node_at t (length t / 5 - 1)).kind ≡ 7
  pub is_one : one ≡ (node_at t (length t / 5 - 1)).p
  pub is_two : two ≡ (node_at t (length t / 5 - 1)).q

pub record AtOther (t : List ℕ) (n : ℕ) : Type 0 where
  pub other : (node_at t (length t / 5 - 1)).kind ≡ 7 → ⊥
  pub is : n ≡ length t / 5 - 1

module _ (t : List ℕ) {r : Root} (e : r ≡ root_of t) where
  abbrev m : Node
  m = node_at t (length t / 5 - 1)

  pub told_within : {one two : ℕ} → r ≡ Within one two → AtWithin t one two
  unfolding root_of root_by pick
  told_within {one} {two} q =
      elim (ℕ_discrete m.kind 7) [
        | yes k ↦ (
            let same : Within one two ≡ Within m.p m.q = sym q ∙ rw (eq-eqb _ _ k) at e in
            record { kind = k; is_one = (let z : one ≡ m.p = cc in z); is_two = (let z : two ≡ m.q = cc in z) })
        | no x ↦ (let other : Within one two ≡ Other (length t / 5 - 1) = sym q ∙ rw (ne_eqb _ _ x) at e in absurd (let z : ◌≡◌ {A = ℕ} 0 1 = cc in omega arith))
      ]

  pub told_other : {n : ℕ} → r ≡ Other n → AtOther t n
  unfolding root_of root_by pick
  told_other {n} q =
      elim (ℕ_discrete m.kind 7) [
        | yes k ↦ (let pair : Other n ≡ Within m.p m.q = sym q ∙ rw (eq-eqb _ _ k) at e in absurd (let z : ◌≡◌ {A = ℕ} 0 1 = cc in omega arith))
        | no x ↦ (
            let same : Other n ≡ Other (length t / 5 - 1) = sym q ∙ rw (ne_eqb _ _ x) at e in
            record { other = x; is = (let z : n ≡ length t / 5 - 1 = cc in z) })
      ]

module _ {t o : List ℕ} {work : ℕ} (O : Outlines t o work) where
  abbrev last : ℕ
  last = length t / 5 - 1

  abbrev v : Node
  v = node_at t last

  is_last : last ≡ below (nodes t)
  is_last = sym (below_is_one_less (nodes t))

  is_inside : last < nodes t
  is_inside = omega (arith, O.formed.some)

  walkable_root : WalkableRoot (room_of work) (tree_at t last)
  walkable_root = rw is_last (a_walked_root_is_walkable (room_of work) (root t) O.counts (sym O.walks))

  -- A root of another kind than 7.
  module _ {n : ℕ} (A : AtOther t n) where
    is_another : rooted (tree_at t n) ≡ another (tree_at t n)
    is_another = rw A.is (a_node_of_another_kind t last A.other)

    walkable : Walkable (room_of work) (tree_at t n)
    unfolding WalkableRoot
    walkable = subst (WalkableRooted (room_of work)) is_another (rw (← A.is) at walkable_root)

    node : Expandable t n
    node = record { formed = O.formed; inside = rw A.is is_inside; room = room_of work; walkable = walkable }

    pub root_is_keepable : Keepable t o n 0 work
    unfolding alternatives_of
    root_is_keepable =
        let bounded = a_walkable_tree_is_bounded (room_of work) (tree_at t n) walkable in
        record {
          node = node;
          known = rw (A.is, is_last) (O.known.whole (λ k. A.other (rw is_last k)));
          room = omega (arith, bounded.fits, room_in_work work);
          few = omega (arith, bounded.fits, room_is_small work);
        }

    is_root : n ≡ below (nodes t)
    is_root = A.is ∙ is_last

    choice_misplaced : misplaced (root t) ≡ first_misplaced 0 (alternatives_of t n)
    unfolding alternatives_of misplaced
    choice_misplaced = rw (← is_root) (ap misplaced_rooted is_another)

    choice_synth : (first : ℕ) → synth_of t first ≡ choice (alternatives_of t n) first
    unfolding alternatives_of synth_of
    choice_synth first = rw (← is_root) (ap (λ (x : Rooted). synth_rooted x first) is_another)

    pub choice_registers : (first : ℕ) → length (synth_of t first).stores ≡ all_registers (alternatives_of t n)
    choice_registers first = ap (λ (y : Synth). length y.stores) (choice_synth first) ∙ the_registers_of_a_choice (alternatives_of t n) first

    pub choice_listing : (first : ℕ) → words_of t first ≡ choice_words (alternatives_of t n) first
    unfolding words_of
    choice_listing first = ap (listing first) (choice_synth first) ∙ the_listing_of_a_choice (alternatives_of t n) first (some_alternatives node)

    pub choice_surveyed : {survey : Result ℕ Refusal} → survey ≡ survey_of (alternatives_of t n) → survey ≡ survey_root t
    unfolding survey_root register_count
    choice_surveyed s = s ∙ the_survey (alternatives_of t n) ∙ sym (ap₂ survey_by choice_misplaced (choice_registers 0))

    pub root_is_numberable : (first : ℕ) → first + register_count t ≤ 65536 → Numberable t o n first work
    unfolding register_count
    root_is_numberable first few = record { keepable = root_is_keepable; few = omega (arith, choice_registers 0) }

  -- A root within.
  module _ {one two : ℕ} (A : AtWithin t one two) where
    is_pair : tree_at t last ≡ within last (tree_at t one) (tree_at t two)
    is_pair = is_within O.formed is_inside refl A.kind ∙ rw (A.is_one, A.is_two) refl

    both : Walkable (room_of work) (tree_at t one) × Walkable (room_of work) (tree_at t two) × Pairable (room_of work) (alternatives_of t one) (alternatives_of t two)
    unfolding alternatives_of WalkableRoot
    both = rw is_pair at walkable_root

    pub operands_are_paired : Paired t o one two work
    operands_are_paired =
        let formed = well_formed O.formed is_inside refl in
        let here : (node_at t (below (nodes t))).kind ≡ 7 = rw (← is_last) A.kind in
        record {
          formed = O.formed;
          one_inside = omega (arith, formed.within_one A.kind, is_inside, A.is_one);
          two_inside = omega (arith, formed.within_two A.kind, is_inside, A.is_two);
          one_walkable = both.0;
          two_walkable = both.1;
          one_known = rw (A.is_one, is_last) (O.known.one here);
          two_known = rw (A.is_two, is_last) (O.known.two here);
          pairs = both.2;
        }

    within_synth : (first : ℕ) → synth_of t first ≡ synth_within (alternatives_of t one) (alternatives_of t two) first
    unfolding alternatives_of synth_of
    within_synth first = rw (← is_last, is_pair) refl

    pub within_stored : (first : ℕ) → length (synth_of t first).stores ≡ within_registers (alternatives_of t one) (alternatives_of t two)
    within_stored first = ap (λ (y : Synth). length y.stores) (within_synth first) ∙ the_registers_of_a_within _ _ both.2.one both.2.two first

    pub within_listing : (first : ℕ) → words_of t first ≡ within_words (alternatives_of t one) (alternatives_of t two) first
    unfolding words_of within_words
    within_listing first = ap (listing first) (within_synth first)

    within_misplaced : misplaced (root t) ≡ nowhere
    unfolding misplaced
    within_misplaced = rw (← is_last, is_pair) refl

    pub within_surveyed : {registers : ℕ} → registers ≡ within_registers (alternatives_of t one) (alternatives_of t two) → Ok registers ≡ survey_root t
    unfolding survey_root register_count
    within_surveyed q = ap Ok q ∙ sym (ap₂ survey_by within_misplaced (within_stored 0))

    pub operands_are_numberable : (first : ℕ) → first + register_count t ≤ 65536 → NumberablePairs t o one two first work
    unfolding register_count
    operands_are_numberable first few = record { paired = operands_are_paired; few = omega (arith, within_stored 0) }

  -- From any register on there are as many registers and words.
  at_within : v.kind ≡ 7 → AtWithin t v.p v.q
  at_within k = record { kind = k; is_one = refl; is_two = refl }

  at_other : (v.kind ≡ 7 → ⊥) → AtOther t last
  at_other n = record { other = n; is = refl }

  pub as_many_registers : (first : ℕ) → length (synth_of t first).stores ≡ register_count t
  unfolding register_count
  as_many_registers first = elim (ℕ_discrete v.kind 7) [
    | yes k ↦ within_stored (at_within k) first ∙ sym (within_stored (at_within k) 0)
    | no n ↦ choice_registers (at_other n) first ∙ sym (choice_registers (at_other n) 0)
  ]

  pub as_many_words : (first : ℕ) → length (words_of t first) ≡ length (words_of t 0)
  as_many_words first = elim (ℕ_discrete v.kind 7) [
    | yes k ↦ (
        let pairs = (operands_are_paired (at_within k)).pairs in
        ap length (within_listing (at_within k) first) ∙ as_long_a_within _ _ pairs.one pairs.two first ∙ sym (ap length (within_listing (at_within k) 0)))
    | no n ↦ ap length (choice_listing (at_other n) first) ∙ as_long_a_choice (alternatives_of t last) first ∙ sym (ap length (choice_listing (at_other n) 0))
  ]
