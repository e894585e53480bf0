-- The words of an alternative's steps, as `alternative` and `repeated` put them: the words of its parts one after the other,
-- each reached by the hop in between.
use mathlib.Core.Path.{◌≡◌, refl, sym, ap, ◌∙◌}
use mathlib.Core.Bool.{Bool, false}
use mathlib.Core.List.{List, [], ◌∷◌, ◌++◌, append_assoc, append-nil}
use Prim.Native.Nat.{ℕ, zero, suc, ◌+◌, ◌-◌, ◌<◌, ◌≤◌, ◌/◌, ◌%◌}
use native.Mathlib.Omega.{arith}
use native.Mathlib.Nat.{mod-eq_of_lt}
use lib.ListN.{length, length-append}
use Rattle.words.specs.Written.{Wrote}
use Rattle.words.proofs.Laws.{same_words, first_room, second_room, both_done, Going, begin, go, last}
use Rattle.term.specs.Steps.{step_words, steps_words}
use Rattle.term.proofs.Round.{length-step_words}
use Rattle.meaning.specs.declared.Node.{Node}
use Rattle.meaning.specs.declared.SeqTerm.TheVariants.{Bool as BoolTerm}
use Rattle.meaning.specs.declared.SeqHop.{SeqHop}
use Rattle.meaning.specs.declared.SeqHop.TheVariants.{Fixed}
use Rattle.meaning.specs.declared.SeqStep.{SeqStep}
use Rattle.meaning.specs.Tree.{node_at, tree_at}
use Rattle.meaning.specs.Alternative.{SeqAlt, step, single, rehop, joined, expand, copies}
use Rattle.expand.specs.declared.Parts.{Parts}
use Rattle.expand.specs.declared.Block.{Block}
use Rattle.expand.specs.ByNumber.{alternatives_of, copies_of, nth, alternative_words, is_copies, single_term, copy_number, delay_parts, copies_block, OutlinedNumber, OutlinedCopies}
use Rattle.outline.specs.Outline.{count_in, bare_in}
use Rattle.expand.proofs.Every.{has_step, each_expanded, each_copies, each_nth}
use Rattle.expand.proofs.ByKind.{some_alternatives, atom_alternative, single_alternative}
use Rattle.expand.proofs.Numbers.{Copied, nth_of_delay, nth_of_throughout, nth_of_block, copy_counted, same_alternatives}
use Rattle.expand.proofs.Index.{nth_copies, copies_index}

-- ---- steps one after the other

pub steps_append : (xs ys : List SeqStep) → steps_words (xs ++ ys) ≡ steps_words xs ++ steps_words ys
unfolding steps_words
steps_append [] ys = refl
steps_append (x ∷ xs) ys =
    ap (λ (l : List ℕ). step_words x ++ l) (steps_append xs ys) ∙ sym (append_assoc (step_words x) (steps_words xs) (steps_words ys))

-- A hop replaces that of the first step alone.
rehop_append : (h : SeqHop) (xs ys : List SeqStep) → 0 < length xs → rehop h (xs ++ ys) ≡ rehop h xs ++ ys
rehop_append h [] ys p = absurd (omega arith)
rehop_append h (x ∷ xs) ys p = refl

-- The words of an alternative that has the steps of another.
words_of : (h : SeqHop) (xs ys : List SeqAlt) (i j : ℕ) → (nth xs i).steps ≡ (nth ys j).steps
    → alternative_words h xs i ≡ alternative_words h ys j
unfolding alternative_words
words_of h xs ys i j e = ap (λ (z : List SeqStep). steps_words (rehop h z)) e

-- The words of an alternative that is joined of two: the outer hop leads to the left, the inner one to the right.
words_of_two : (h h' : SeqHop) (xs ls rs : List SeqAlt) (i l r : ℕ) → nth xs i ≡ joined h' (nth ls l) (nth rs r)
    → 0 < length (nth ls l).steps
    → alternative_words h xs i ≡ alternative_words h ls l ++ alternative_words h' rs r
unfolding alternative_words
words_of_two h h' xs ls rs i l r e p =
    let ss = (nth ls l).steps in
    let rest = rehop h' (nth rs r).steps in
    ap (λ (y : SeqAlt). steps_words (rehop h y.steps)) e ∙ ap steps_words (rehop_append h ss rest p) ∙ steps_append (rehop h ss) rest

-- The words of an alternative that is a single term.
words_of_one : (h : SeqHop) (xs : List SeqAlt) (i : ℕ) (s : SeqStep) → nth xs i ≡ single s.term → s.hop ≡ h
    → alternative_words h xs i ≡ step_words s
unfolding alternative_words steps_words
words_of_one h xs i s e f =
    ap (λ (y : SeqAlt). steps_words (rehop h y.steps)) e ∙ append-nil (step_words (step s.term h)) ∙ ap (λ (z : SeqHop). step_words (step s.term z)) (sym f)

-- No alternative is without a step, so that there is one to take the hop.
some_steps : (t : List ℕ) (n i : ℕ) → 0 < length (nth (alternatives_of t n) i).steps
unfolding alternatives_of
some_steps t n i = each_nth has_step (expand (tree_at t n)) i (each_expanded has_step (tree_at t n))

some_copied_steps : (t : List ℕ) (n k i : ℕ) → 0 < length (nth (copies_of (alternatives_of t n) k) i).steps
unfolding alternatives_of copies_of
some_copied_steps t n k i =
    each_nth has_step (copies (expand (tree_at t n)) k) i (each_copies has_step (expand (tree_at t n)) k (each_expanded has_step (tree_at t n)))

-- ---- as the code meets them

-- The words that `alternative` and `repeated` put.
abbrev node_words : List ℕ → ℕ → SeqHop → ℕ → List ℕ
node_words t n h i = alternative_words h (alternatives_of t n) i

abbrev copies_words : List ℕ → ℕ → ℕ → SeqHop → ℕ → List ℕ
copies_words t n k h i = alternative_words h (copies_of (alternatives_of t n) k) i

-- The words of an alternative of a node are those of the node that is left without the [*1] over it.
module _ {t q : List ℕ} {n i m : ℕ} (h : SeqHop) (o : List ℕ) (at : ℕ) (N : OutlinedNumber t q n i) (e : m ≡ bare_in q n) where
  bare_words : node_words t m h i ≡ node_words t n h i
  bare_words = rw (same_alternatives N e) refl

  pub bare_room : at + length (node_words t n h i) ≤ length o → at + length (node_words t m h i) ≤ length o
  bare_room room = rw bare_words room

  pub bare_written : {o₁ : List ℕ} {z : ℕ} → Wrote o o₁ at z (node_words t m h i) → Wrote o o₁ at z (node_words t n h i)
  bare_written x = same_words bare_words x

module _ {t q : List ℕ} {n i : ℕ} {v : Node} (h : SeqHop) (o : List ℕ) (at : ℕ) (N : OutlinedNumber t q n i) (room : at + length (node_words t n h i) ≤ length o) (w : v ≡ node_at t n) where
  -- The words of a delay's alternative are those of its left part, then those of its right part.
  module _ {s : Parts} (k : v.kind ≡ 2) (c : s ≡ delay_parts q v i) where
    abbrev left : List ℕ
    left = node_words t v.p h s.left

    abbrev right : List ℕ
    right = node_words t v.q s.hop s.right

    delay_words : node_words t n h i ≡ left ++ right
    delay_words =
        words_of_two h s.hop (alternatives_of t n) (alternatives_of t v.p) (alternatives_of t v.q) i s.left s.right
        (nth_of_delay N w k c) (some_steps t v.p s.left)

    pub left_room : at + length (node_words t v.p h s.left) ≤ length o
    left_room = first_room at left right delay_words room

    module _ {o₁ : List ℕ} {z : ℕ} (x : Wrote o o₁ at z (node_words t v.p h s.left)) where
      pub right_room : z + length (node_words t v.q s.hop s.right) ≤ length o₁
      right_room = second_room left right delay_words room x

      pub delay_written : {o₂ : List ℕ} {y : ℕ} → Wrote o₁ o₂ z y (node_words t v.q s.hop s.right)
          → Wrote o o₂ at y (node_words t n h i)
      delay_written y = both_done delay_words x y

  -- The words of a throughout's alternative are those of its operand's.
  module _ (k : v.kind ≡ 6) where
    throughout_words : node_words t n h i ≡ node_words t v.q h i
    throughout_words =
        words_of h (alternatives_of t n) (alternatives_of t v.q) i i (ap (λ (y : SeqAlt). y.steps) (nth_of_throughout N w k))

    pub guarded_room : at + length (node_words t v.q h i) ≤ length o
    guarded_room = rw throughout_words at room

    pub throughout_written : {o₁ : List ℕ} {z : ℕ} → Wrote o o₁ at z (node_words t v.q h i)
        → Wrote o o₁ at z (node_words t n h i)
    throughout_written x = same_words (sym throughout_words) x

  -- The words of a repetition's alternative are those of its block of copies.
  module _ (R : Copied v i) {b : Block} (g : b ≡ copies_block q v i) where
    block_words : node_words t n h i ≡ copies_words t v.p b.later h b.index
    block_words =
        words_of h (alternatives_of t n) (copies_of (alternatives_of t v.p) b.later) i b.index
        (ap (λ (y : SeqAlt). y.steps) (nth_of_block N w R g))

    pub block_room : at + length (copies_words t v.p b.later h b.index) ≤ length o
    block_room = rw block_words at room

    pub block_written : {o₁ : List ℕ} {z : ℕ} → Wrote o o₁ at z (copies_words t v.p b.later h b.index)
        → Wrote o o₁ at z (node_words t n h i)
    block_written x = same_words (sym block_words) x

  -- The words of an atom's alternative are those of one step.
  atom_words : v.kind ≡ 1 → (s : SeqStep) → s.term ≡ BoolTerm v.p → s.hop ≡ h → node_words t n h i ≡ step_words s
  atom_words k s e f = words_of_one h (alternatives_of t n) i s (atom_alternative N.numbered.node w k i N.numbered.index ∙ ap single (sym e)) f

  pub atom_room : v.kind ≡ 1 → at + 5 ≤ length o
  atom_room k = let s = step (BoolTerm v.p) h in rw (atom_words k s refl refl, length-step_words s) at room

  pub atom_written : {o₁ : List ℕ} {z : ℕ} {s : SeqStep} → v.kind ≡ 1 → s.term ≡ BoolTerm v.p → s.hop ≡ h
      → Wrote o o₁ at z (step_words s) → Wrote o o₁ at z (node_words t n h i)
  atom_written {s = s} k e f y = same_words (sym (atom_words k s e f)) y

  -- The words of an alternative that is one term are those of one step.
  module _ {b : Bool} (d : v.kind ≡ 2 → ⊥) (g : v.kind ≡ 6 → ⊥) (c : b ≡ is_copies v i) (x : b ≡ false) where
    single_words : (s : SeqStep) → s.term ≡ single_term t v i → s.hop ≡ h → node_words t n h i ≡ step_words s
    single_words s e f =
        words_of_one h (alternatives_of t n) i s (single_alternative N.numbered.node w d g i N.numbered.index c x ∙ ap single (sym e)) f

    pub single_room : at + 5 ≤ length o
    single_room = let s = step (single_term t v i) h in rw (single_words s refl refl, length-step_words s) at room

    pub single_written : {o₁ : List ℕ} {z : ℕ} {s : SeqStep} → s.term ≡ single_term t v i → s.hop ≡ h
        → Wrote o o₁ at z (step_words s) → Wrote o o₁ at z (node_words t n h i)
    single_written {s = s} e f y = same_words (sym (single_words s e f)) y

-- ---- several copies, the earliest first

-- The words of the copies that are left, the next of them, which so many follow, reached by h.
pub copies_left : List ℕ → ℕ → ℕ → SeqHop → ℕ → List ℕ
copies_left t n i h zero = node_words t n h (copy_number (length (alternatives_of t n)) i zero)
copies_left t n i h (suc later) =
    node_words t n h (copy_number (length (alternatives_of t n)) i (suc later)) ++ copies_left t n i (Fixed 1) later

-- The words of the last copy stand behind those of the number that is left without it.
last_of_them : (t : List ℕ) (n i : ℕ) (h : SeqHop) (later : ℕ)
    → let a = length (alternatives_of t n) in copies_left t n i h (suc later) ≡ copies_left t n (i / a) h later ++ node_words t n (Fixed 1) (i % a)
unfolding copies_left copy_number
last_of_them t n i h zero = refl
last_of_them t n i h (suc later) =
    let a = length (alternatives_of t n) in
    let next = node_words t n h (copy_number a (i / a) (suc later)) in
    ap (λ (l : List ℕ). next ++ l) (last_of_them t n i (Fixed 1) later)
    ∙ sym (append_assoc next (copies_left t n (i / a) (Fixed 1) later) (node_words t n (Fixed 1) (i % a)))

-- The words of all copies are those of the copies' alternative.
all_of_them : (t : List ℕ) (n k i : ℕ) (h : SeqHop) → 0 < length (alternatives_of t n) → i < length (copies_of (alternatives_of t n) k)
    → copies_words t n k h i ≡ copies_left t n i h k
unfolding copies_left copies_of copy_number
all_of_them t n zero i h p q = rw (mod-eq_of_lt q) refl
all_of_them t n (suc k) i h p q =
    let base = alternatives_of t n in
    let a = length base in
    words_of_two h (Fixed 1) (copies base (suc k)) (copies base k) base i (i / a) (i % a) (nth_copies base k i p q) (some_copied_steps t n k (i / a))
    ∙ ap (λ (l : List ℕ). l ++ node_words t n (Fixed 1) (i % a)) (all_of_them t n k (i / a) h p (copies_index base k i p q))
    ∙ sym (last_of_them t n i h k)

-- The next copy's words are no more than those of all that are left.
next_is_short : (t : List ℕ) (n i : ℕ) (h : SeqHop) (later : ℕ)
    → length (node_words t n h (copy_number (length (alternatives_of t n)) i later)) ≤ length (copies_left t n i h later)
unfolding copies_left
next_is_short t n i h zero = omega arith
next_is_short t n i h (suc later) =
    omega (arith, length-append (node_words t n h (copy_number (length (alternatives_of t n)) i (suc later))) (copies_left t n i (Fixed 1) later))

-- The loop of `repeated`: it remains to put the copies that are left, the next of them, which `later` follow, reached by `hop`.
pub record Repeating (t : List ℕ) (n k i : ℕ) (h : SeqHop) (o : List ℕ) (at : ℕ) (o' : List ℕ) (hop : SeqHop) (p later : ℕ) : Type 0 where
  pub going : Going o at (copies_words t n k h i) o' p (copies_left t n i hop later)

pub repeating_begins : {t q : List ℕ} {n k i : ℕ} (h : SeqHop) (o : List ℕ) (at : ℕ) → OutlinedCopies t q n k i
    → Repeating t n k i h o at o h at k
repeating_begins {t} {n = n} {k} {i} h o at C =
    let N = C.numbered in
    record { going = rw (← all_of_them t n k i h (some_alternatives N.node) N.index) (begin o at _) }

module _ {t q : List ℕ} {n k i : ℕ} {h : SeqHop} {o : List ℕ} {at : ℕ} {o' : List ℕ} {hop : SeqHop} {p later d : ℕ}
    (C : OutlinedCopies t q n k i) (R : Repeating t n k i h o at o' hop p later)
    (e : d ≡ copy_number (count_in q n) i later) where
  pub copy_room : at + length (copies_words t n k h i) ≤ length o → p + length (node_words t n hop d) ≤ length o'
  copy_room room =
      omega (arith, room, R.going.long, R.going.place, next_is_short t n i hop later, ap (λ (z : ℕ). length (node_words t n hop z)) (copy_counted C later e))

  module _ {o'' : List ℕ} {z : ℕ} (x : Wrote o' o'' p z (node_words t n hop d)) where
    pub repeating_on : 0 < later → Repeating t n k i h o at o'' (Fixed 1) z (later - 1)
    unfolding copies_left
    repeating_on m =
        let s : later ≡ suc (later - 1) = omega arith in
        let left : copies_left t n i hop later ≡ node_words t n hop d ++ copies_left t n i (Fixed 1) (later - 1) =
        ap (copies_left t n i hop) s ∙ rw (copy_counted C later e, ← s) refl in
        record { going = go (node_words t n hop d) (copies_left t n i (Fixed 1) (later - 1)) (rw left at R.going) x }

    pub repeating_ends : later ≤ 0 → Wrote o o'' at z (copies_words t n k h i)
    unfolding copies_left
    repeating_ends m =
        let s : later ≡ 0 = omega arith in
        let left : copies_left t n i hop later ≡ node_words t n hop d =
        ap (copies_left t n i hop) s ∙ rw (copy_counted C later e, s) refl in
        last (rw left at R.going) x
