-- The walk at a node from the answers below it, kind by kind; and what an answer that counts tells: its counts are small and stand
-- for an expansion that is not empty.
use mathlib.Core.Path.{◌≡◌, refl, sym, ap, ◌∙◌}
use mathlib.Core.Bool.{Bool, true, false}
use mathlib.Core.List.{List}
use Prim.Native.Nat.{ℕ, zero, suc, ◌+◌, ◌≤◌, ◌<◌}
use native.Mathlib.Omega.{arith}
use native.Mathlib.Decide.{ℕ_discrete}
use lib.Dec.{ltb}
use lib.ListN.{length}
use borrow.Author.Tests.{eq-eqb, ne_eqb, lt-ltb}
use Rattle.words.specs.Choice.{pick, pick_true, pick_false}
use Rattle.std.specs.Prelude.{Result, Ok, Err, OnOk}
use Rattle.meaning.specs.declared.refusal.Refusal.{Refusal}
use Rattle.meaning.specs.declared.refusal.Refusal.TheVariants.{TooDeep, CountTooHigh, ThroughoutNotPlain}
use Rattle.meaning.specs.Tree.{finite, Seq, delay, consec, node_at, unlimited, max_of, tree_at, nodes}
use Rattle.meaning.specs.Alternative.{consec_finite, guard_each, expand}
use Rattle.meaning.specs.Refusals.{plain, counts, limited, and_then, deep_enough, walk_in, walk}
use Rattle.meaning.specs.Lowerable.{WellFormed, FormedTable}
use Rattle.meaning.specs.declared.Node.{Node}
use Rattle.meaning.specs.declared.Counts.{Counts}
use Rattle.meaning.proofs.Nodes.{number_of}
use Rattle.meaning.proofs.Ranges.{a_formed_tree_is_ranged}
use Rattle.meaning.proofs.Walks.{a_walked_tree_is_walkable, the_walk_counts_the_expansion, a_walkable_tree_is_bounded}
use Rattle.meaning.proofs.Flags.{alternatives_are_led, a_walkable_tree_has_alternatives}
use Rattle.outline.specs.Outline.{is_repeated, Expandable}
use Rattle.outline.proofs.Laws.{Repetition, repetition}
use Rattle.outline.proofs.ByWords.{is_delay, is_finite, is_throughout}
use Rattle.count.specs.Capped.{neutral, Small, product, guarded_each}
use Rattle.count.specs.Nodes.{Countable, limit, delay_counts, consec_counts, repeated, covered, visits, operand_at}
use Rattle.count.proofs.Bounds.{neutral_product}
use Rattle.count.proofs.Stands.{Stands, counts_stand, limit_stands, fixed_stands, at_least_stands, consec_stands, guarded_each_stands}
use Rattle.count.proofs.NotVisited.{not_too_deep}

-- What holds where the answer counts.
pub where_counted : {P : Type 0} (z : Result Counts Refusal) → ((c : Counts) → z ≡ Ok c → P) → OnOk z P
where_counted (Ok c) f = f c refl
where_counted (Err why) f = tt

-- An answer that counts.
module _ (room d : ℕ) (s : Seq) {r : Result Counts Refusal} {c : Counts} (e : r ≡ walk room d s) (q : r ≡ Ok c) where
  answer_counts : c ≡ counts (expand s)
  answer_counts = the_walk_counts_the_expansion room d s c (sym e ∙ q)

  -- Counts that are answered stand for the expansion.
  pub answer_stands : Stands c (expand s)
  answer_stands = counts_stand answer_counts

  -- Counts that are answered are within their bounds.
  pub answer_is_small : room ≤ 65536 → Small c
  unfolding counts
  answer_is_small h =
      let b = a_walkable_tree_is_bounded room s (a_walked_tree_is_walkable room d s c (sym e ∙ q)) in
      rw answer_counts (record { few = omega (arith, b.few); short = omega (arith, b.fits) })

-- A counted node of a formed table has an alternative.
pub answer_has_some : (t : List ℕ) (k room d : ℕ) {r : Result Counts Refusal} {c : Counts} → FormedTable t → k < nodes t → r ≡ walk room d (tree_at t k) → r ≡ Ok c
    → 1 ≤ length (expand (tree_at t k))
answer_has_some t k room d {r} {c} formed inside e q =
    a_walkable_tree_has_alternatives room (tree_at t k) (a_formed_tree_is_ranged t formed k inside) (a_walked_tree_is_walkable room d (tree_at t k) c (sym e ∙ q))

-- 4 refuses a node that is too deep.
pub too_deep : (t : List ℕ) (n room d : ℕ) → 256 < d → Err (TooDeep n) ≡ walk room d (tree_at t n)
unfolding walk deep_enough
too_deep t n room d h = sym (pick_true _ _ (lt-ltb _ _ h) ∙ ap (λ (m : ℕ). Err (TooDeep m)) (number_of t n))

-- A finite [*] but [*0] visits its operand.
some_repetition : (room d n m x : ℕ) (s : Seq) → 0 < x
    → walk_in room d (consec n s m (finite x)) ≡ and_then (walk room (d + 1) s) (pick (ltb 256 x) (Err (CountTooHigh n)) (limited room n (consec_finite (expand s) m x)))
unfolding walk_in walk
some_repetition room d n m zero s f = absurd (omega arith)
some_repetition room d n m (suc x) s f = refl

-- ---- which operands are visited

-- Which operands of a node are visited, as the code tells the kinds apart.
pub data Visiting (v : Node) : Type 0 where
  both : v.kind ≡ 2 → is_repeated v ≡ false → visits v ≡ 2 → operand_at v 0 ≡ v.p → operand_at v 1 ≡ v.q → Visiting v
  covered_one : v.kind ≡ 6 → (v.kind ≡ 2 → ⊥) → is_repeated v ≡ false → visits v ≡ 1 → operand_at v 0 ≡ v.q → Visiting v
  repeated_one : Repetition v → is_repeated v ≡ true → visits v ≡ 1 → operand_at v 0 ≡ v.p → Visiting v
  none : (v.kind ≡ 2 → ⊥) → (v.kind ≡ 6 → ⊥) → is_repeated v ≡ false → visits v ≡ 0 → Visiting v

no_consecutive : (v : Node) → (v.kind ≡ 3 → ⊥) → is_repeated v ≡ false
unfolding is_repeated
no_consecutive v f = pick_false _ _ (ne_eqb v.kind 3 f)

pub visiting : (v : Node) → Visiting v
unfolding visits operand_at pick
visiting v = elim (ℕ_discrete v.kind 2) [
  | yes k ↦ both k (no_consecutive v (λ z. omega arith)) (rw k refl) (rw k refl) refl
  | no f ↦ elim (ℕ_discrete v.kind 6) [
    | yes k ↦ covered_one k f (no_consecutive v (λ z. omega arith)) (rw k refl) (rw k refl)
    | no g ↦ by_test (is_repeated v) refl f g
  ]
]
  where
    by_test : (b : Bool) → is_repeated v ≡ b → (v.kind ≡ 2 → ⊥) → (v.kind ≡ 6 → ⊥) → Visiting v
    by_test true r f g =
        repeated_one (repetition v refl r) r (rw (ne_eqb v.kind 2 f, ne_eqb v.kind 6 g, r) refl) (rw (ne_eqb v.kind 6 g) refl)
    by_test false r f g = none f g r (rw (ne_eqb v.kind 2 f, ne_eqb v.kind 6 g, r) refl)

module _ {t : List ℕ} {n room d : ℕ} (S : Countable t n room d) (h : d ≤ 256) where
  abbrev v : Node
  v = node_at t n

  pub words : WellFormed n (node_at t n)
  words = S.formed.each n S.inside

  -- What the walk answers below the node, and that it counts so many.
  abbrev below_it : ℕ → Result Counts Refusal
  below_it k = walk room (d + 1) (tree_at t k)

  -- What an operand's answer that counts says: its counts stand for its alternatives, there is one, and its words are expandable.
  module _ {k : ℕ} {c : Counts} (l : k < n) (e : below_it k ≡ Ok c) where
    operand_stands : Stands c (expand (tree_at t k))
    operand_stands = answer_stands room (d + 1) (tree_at t k) refl e

    operand_some : 1 ≤ length (expand (tree_at t k))
    operand_some = answer_has_some t k room (d + 1) S.formed (omega (arith, S.inside)) refl e

    pub operand_expandable : Expandable t k
    operand_expandable = record {
      formed = S.formed;
      inside = omega (arith, S.inside);
      room = room;
      walkable = a_walked_tree_is_walkable room (d + 1) (tree_at t k) c e;
    }

    -- Counts joined to nothing before them are what they are.
    pub operand_alone : {c₀ : Counts} → c₀ ≡ neutral → product c₀ c ≡ c
    unfolding counts
    operand_alone z =
        let b = a_walkable_tree_is_bounded room (tree_at t k) (a_walked_tree_is_walkable room (d + 1) (tree_at t k) c e) in
        let same = the_walk_counts_the_expansion room (d + 1) (tree_at t k) c e in
        rw z (neutral_product c (rw same b.few) (rw same (omega (arith, b.fits, S.rooms))))

  -- ---- a delay

  module _ (k : (node_at t n).kind ≡ 2) where
    -- A delay is walked left, then right, then 10 and 11 are decided.
    pub delay_walk : walk room d (tree_at t n) ≡ and_then (below_it v.p) (and_then (below_it v.q) (limited room n (expand (delay n (tree_at t v.p) (tree_at t v.q) v.min (max_of v.max)))))
    unfolding walk_in walk
    delay_walk = rw (is_delay S.formed S.inside refl k) (not_too_deep room d _ h)

    pub delay_decided : {l r : Counts} → below_it v.p ≡ Ok l → below_it v.q ≡ Ok r
        → limit room n (delay_counts v (product l r)) ≡ limited room n (expand (delay n (tree_at t v.p) (tree_at t v.q) v.min (max_of v.max)))
    unfolding delay_counts pick
    delay_decided {l} {r} e e' =
        let p = words.delay_left k in
        let p' = words.delay_right k in
        let ls = expand (tree_at t v.p) in
        let rs = expand (tree_at t v.q) in
        let led = alternatives_are_led (tree_at t v.q) in
        elim (ℕ_discrete v.max unlimited) [
          | yes at_least_lem ↦ rw (eq-eqb v.max unlimited at_least_lem) (limit_stands room n S.rooms (at_least_stands ls rs l r (operand_stands p e) (operand_stands p' e') (operand_some p e) (operand_some p' e') led v.min))
          | no fixed ↦ rw (ne_eqb v.max unlimited fixed) (limit_stands room n S.rooms (fixed_stands ls rs l r (operand_stands p e) (operand_stands p' e') (operand_some p e) (operand_some p' e') led v.min v.max (words.delay_range k)))
        ]

  -- ---- a throughout

  module _ (k : (node_at t n).kind ≡ 6) where
    -- Of a throughout the operand is walked, then 7, 10 and 11 are decided.
    pub throughout_walk : walk room d (tree_at t n) ≡ and_then (below_it v.q) (pick (plain (expand (tree_at t v.q))) (limited room n (guard_each v.p (expand (tree_at t v.q)))) (Err (ThroughoutNotPlain n)))
    unfolding walk_in walk
    throughout_walk = rw (is_throughout S.formed S.inside refl k) (not_too_deep room d _ h)

    pub throughout_decided : {s : Counts} → below_it v.q ≡ Ok s
        → covered room n s ≡ pick (plain (expand (tree_at t v.q))) (limited room n (guard_each v.p (expand (tree_at t v.q)))) (Err (ThroughoutNotPlain n))
    unfolding covered
    throughout_decided {s} e =
        let under = operand_stands (words.throughout_under k) e in
        let some = operand_some (words.throughout_under k) e in
        ap (λ (b : Bool). pick b (limit room n (guarded_each s)) (Err (ThroughoutNotPlain n))) under.plainly
        ∙ rw (limit_stands room n S.rooms (guarded_each_stands v.p (expand (tree_at t v.q)) s under some)) refl

  -- ---- a finite [*] other than [*0]

  module _ (R : Repetition (node_at t n)) where
    -- Of a repetition the operand is walked, then 5, 10 and 11 are decided.
    pub repetition_walk : walk room d (tree_at t n) ≡ and_then (below_it v.p) (pick (ltb 256 v.max) (Err (CountTooHigh n)) (limited room n (consec_finite (expand (tree_at t v.p)) v.min v.max)))
    repetition_walk =
        rw (is_finite S.formed S.inside refl R.kind R.limited) (not_too_deep room d _ h ∙ some_repetition room d n _ _ _ R.live)

    pub repetition_decided : {s : Counts} → below_it v.p ≡ Ok s
        → repeated room n v s ≡ pick (ltb 256 v.max) (Err (CountTooHigh n)) (limited room n (consec_finite (expand (tree_at t v.p)) v.min v.max))
    unfolding repeated consec_counts
    repetition_decided {s} e =
        let under = operand_stands (words.consec_under R.kind) e in
        let some = operand_some (words.consec_under R.kind) e in
        let led = alternatives_are_led (tree_at t v.p) in
        rw (limit_stands room n S.rooms (consec_stands (expand (tree_at t v.p)) s under some led v.min v.max (λ z. omega (arith, R.live)))) refl
