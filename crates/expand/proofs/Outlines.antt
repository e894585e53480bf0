-- What the outline says of a node that is known, for whoever takes numbers apart: the counts of its alternatives, the node that is left
-- of it without the [*1] over it, and that its operands are known too.
use mathlib.Core.Path.{◌≡◌, refl, sym, ap, ◌∙◌}
use mathlib.Core.List.{List, append-nil}
use Prim.Native.Nat.{ℕ, zero, suc, ◌-◌, ◌<◌, ◌≤◌, ◌/◌, ◌%◌}
use native.Mathlib.Omega.{arith}
use native.Mathlib.Nat.{div-eq_of_lt, mod-eq_of_lt, div-div-eq-div-mul, mul_comm}
use native.Mathlib.Decide.{ℕ_discrete}
use lib.ListN.{length}
use borrow.Author.Tests.{ne_eqb}
use Rattle.words.specs.Choice.{pick}
use Rattle.meaning.specs.declared.Node.{Node}
use Rattle.meaning.specs.declared.SeqHop.{SeqHop}
use Rattle.meaning.specs.Tree.{finite, Seq, consec, node_at, tree_at, unlimited}
use Rattle.meaning.proofs.Ranges.{by_kind}
use Rattle.outline.specs.Outline.{is_once, bare, count_in, bare_in, Outlined, Expandable, Known}
use Rattle.outline.proofs.Laws.{Repetition}
use Rattle.outline.proofs.ByWords.{is_atom, is_delay, is_finite, is_unbounded, is_goto, is_nonconsec, is_throughout}
use Rattle.outline.proofs.Readers.{count_known as count_read, bare_known}
use Rattle.expand.specs.ByNumber.{alternatives_of, hop_at, parts_of, delay_parts, copies_count, copy_number, DelayCounted}
use Rattle.expand.proofs.Arithmetic.{copies_monotone}
use Rattle.expand.proofs.ByKind.{no_within, copied_expandable, repeated_alternatives}

outlined_copies : (t o : List ℕ) (n : ℕ) (s : Seq) (m x : ℕ) → 0 < x → Outlined t o (consec n s m (finite x)) → Outlined t o s
unfolding Outlined
outlined_copies t o n s m zero h O = absurd (omega arith)
outlined_copies t o n s m (suc x) h O = O.0

module _ {t o : List ℕ} {n : ℕ} (E : Expandable t n) (K : Known t o n) where
  pub count_known : count_in o n ≡ length (alternatives_of t n)
  unfolding alternatives_of
  count_known = count_read E K

  -- ---- the operands

  module _ {v : Node} (w : v ≡ node_at t n) where
    pub left_known : v.kind ≡ 2 → Known t o v.p
    unfolding Outlined
    left_known k = record { long = K.long; outline = (let O = rw (is_delay E.formed E.inside w k) at K.outline in O.0) }

    pub right_known : v.kind ≡ 2 → Known t o v.q
    unfolding Outlined
    right_known k = record { long = K.long; outline = (let O = rw (is_delay E.formed E.inside w k) at K.outline in O.1) }

    pub guarded_known : v.kind ≡ 6 → Known t o v.q
    unfolding Outlined
    guarded_known k = record { long = K.long; outline = (let O = rw (is_throughout E.formed E.inside w k) at K.outline in O.0) }

    pub copied_known : Repetition v → Known t o v.p
    copied_known R = record {
      long = K.long;
      outline = outlined_copies t o n (tree_at t v.p) v.min v.max R.live (rw (is_finite E.formed E.inside w R.kind R.limited) at K.outline);
    }

-- ---- the node that is left without the [*1] over it

-- The node that is left is known too, and has the same alternatives.
pub record Bared (t o : List ℕ) (n m : ℕ) : Type 0 where
  pub node : Expandable t m
  pub known : Known t o m
  pub same : alternatives_of t m ≡ alternatives_of t n

module _ {t o : List ℕ} where
  itself : {n : ℕ} → Expandable t n → Known t o n → bare (tree_at t n) ≡ n → Bared t o n (bare (tree_at t n))
  itself E K e = rw e (record { node = E; known = K; same = refl })

  -- [*1] has its operand's alternatives.
  once : (n : ℕ) (E : Expandable t n) (K : Known t o n) → (node_at t n).kind ≡ 3 → (node_at t n).min ≡ 1 → (node_at t n).max ≡ 1
      → ((p : ℕ) → p < n → Expandable t p → Known t o p → Bared t o p (bare (tree_at t p))) → Bared t o n (bare (tree_at t n))
  unfolding bare is_once pick
  once n E K k m x below =
      let v = node_at t n in
      let R : Repetition v = record { kind = k; limited = λ u. absurd (omega arith); live = omega arith } in
      let B = below v.p ((E.formed.each n E.inside).consec_under k) (copied_expandable E refl R) (copied_known E K refl R) in
      let tree : bare (tree_at t n) ≡ bare (tree_at t v.p) = ap bare (is_finite E.formed E.inside refl k R.limited) ∙ rw (m, x) refl in
      let alts : alternatives_of t n ≡ alternatives_of t v.p = repeated_alternatives E refl R ∙ rw (m, x) (append-nil _) in
      rw tree (record { node = B.node; known = B.known; same = B.same ∙ sym alts })

  bared : (fuel n : ℕ) → n < fuel → (E : Expandable t n) (K : Known t o n) → Bared t o n (bare (tree_at t n))
  unfolding bare is_once pick
  bared zero n l E K = absurd (omega arith)
  bared (suc fuel) n l E K =
      by_kind v.kind (E.formed.each n E.inside).known
      (λ k. itself E K (ap bare (is_atom E.formed E.inside refl k)))
      (λ k. itself E K (ap bare (is_delay E.formed E.inside refl k)))
      (λ k. elim (ℕ_discrete v.max unlimited) [
        | yes u ↦ itself E K (ap bare (is_unbounded E.formed E.inside refl k u))
        | no f ↦ elim (ℕ_discrete v.min 1) [
          | no z ↦ itself E K (ap bare (is_finite E.formed E.inside refl k f) ∙ rw (ne_eqb _ _ z) refl)
          | yes m ↦ elim (ℕ_discrete v.max 1) [
            | no z ↦ itself E K (ap bare (is_finite E.formed E.inside refl k f) ∙ rw (m, ne_eqb _ _ z) refl)
            | yes x ↦ once n E K k m x (λ p q. bared fuel p (omega arith))
          ]
        ]
      ])
      (λ k. itself E K (ap bare (is_goto E.formed E.inside refl k)))
      (λ k. itself E K (ap bare (is_nonconsec E.formed E.inside refl k)))
      (λ k. itself E K (ap bare (is_throughout E.formed E.inside refl k)))
      (λ k. absurd (no_within E refl k))
    where
      v : Node
      v = node_at t n

  pub bare_found : {n m : ℕ} → Expandable t n → Known t o n → m ≡ bare_in o n → Bared t o n m
  bare_found {n} E K e = rw (e, bare_known E K) (bared (suc n) n (omega arith) E K)

-- ---- what the counts in the outline say of a number: `delay_parts` and `copy_number`

-- Number 0 has no other digit than 0.
zero_divided : {a : ℕ} → 0 < a → 0 / a ≡ 0
zero_divided h = div-eq_of_lt h

zero_left : {a : ℕ} → 0 < a → 0 % a ≡ 0
zero_left h = mod-eq_of_lt h

pub zero_parts : {o : List ℕ} {v : Node} {i : ℕ} {h : SeqHop} → DelayCounted o v i → i ≡ 0 → h ≡ hop_at v.min v.max 0
    → record { hop = h; left = 0; right = 0 } ≡ delay_parts o v i
unfolding delay_parts parts_of
zero_parts D e p = rw (p, e, zero_divided D.right_some, zero_divided D.left_some, zero_left D.left_some, zero_left D.right_some) refl

pub zero_copy_number : {a i : ℕ} (later : ℕ) → 0 < a → i ≡ 0 → 0 ≡ copy_number a i later
unfolding copy_number
zero_copy_number zero h e = rw (e, zero_left h) refl
zero_copy_number {a = a} (suc later) h e = rw (e, zero_divided h) (zero_copy_number {a = a} {i = 0} later h refl)

-- A copy that others follow: they are divided away at one stroke.
copy_weight : (a i later : ℕ) → copy_number a i (suc later) ≡ i / copies_count a later % a
unfolding copy_number copies_count
copy_weight a i zero = refl
copy_weight a i (suc later) =
    copy_weight a (i / a) later
    ∙ ap (λ (z : ℕ). z % a) (div-div-eq-div-mul i a (copies_count a later) ∙ ap (λ (z : ℕ). i / z) (mul_comm a (copies_count a later)))

module _ (o : List ℕ) (n i : ℕ) {a later : ℕ} (p : a ≡ count_in o n) where
  pub last_copy_found : later ≡ 0 → i % a ≡ copy_number (count_in o n) i later
  unfolding copy_number
  last_copy_found e = rw (e, p) refl

  module _ (m : later ≡ 0 → ⊥) where
    one_more : later ≡ suc (later - 1)
    one_more = omega arith

    pub earlier_copy_found : {w : ℕ} → w ≡ copies_count a (later - 1) → i / w % a ≡ copy_number (count_in o n) i later
    earlier_copy_found e = rw (e, p) (sym (ap (copy_number (count_in o n) i) one_more ∙ copy_weight (count_in o n) i (later - 1)))

    pub weight_few : 0 < count_in o n → copies_count (count_in o n) later ≤ 256 → copies_count a (later - 1) ≤ 256
    weight_few h q = rw p (omega (arith, copies_monotone (count_in o n) (later - 1) later h (omega arith)))

    pub weight_some : {w : ℕ} → 0 < count_in o n → w ≡ copies_count a (later - 1) → 0 < w
    unfolding copies_count
    weight_some h e = rw (e, p) (omega (arith, copies_monotone (count_in o n) 0 (later - 1) h (omega arith)))

pub ruleset copy_numbers = (zero_copy_number, last_copy_found, weight_few, weight_some, earlier_copy_found)
