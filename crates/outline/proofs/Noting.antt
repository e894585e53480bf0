-- What a node's word adds to an outline that has the words of its operands, kind by kind: the words of the node and below are
-- there, and no right word is lost.
use mathlib.Core.Path.{◌≡◌, refl, sym, ap, ◌∙◌}
use mathlib.Core.Bool.{false}
use mathlib.Core.List.{List, [], ◌∷◌}
use Prim.Native.Nat.{ℕ, zero, suc, ◌<◌, ◌≤◌}
use native.Mathlib.Omega.{arith}
use native.Mathlib.Decide.{ℕ_discrete}
use lib.ListN.{length}
use lib.Seq.{get_or-set_same, get_or-set_other}
use Rattle.std.specs.Prelude.{Result, Ok}
use Rattle.words.specs.Choice.{pick_false}
use Rattle.words.specs.Written.{written}
use Rattle.words.proofs.Laws.{length-written}
use Rattle.words.proofs.Taken.{no_test}
use Rattle.meaning.specs.declared.Node.{Node}
use Rattle.meaning.specs.declared.Counts.{Counts}
use Rattle.meaning.specs.declared.refusal.Refusal.{Refusal}
use Rattle.meaning.specs.Tree.{Max, finite, unbounded, Seq, atom, delay, consec, goto, nonconsec, throughout, within, node_at, unlimited, tree_at, nodes}
use Rattle.meaning.specs.Refusals.{walk}
use Rattle.meaning.specs.Lowerable.{FormedTable}
use Rattle.meaning.proofs.Ranges.{by_kind, finite_max}
use Rattle.meaning.proofs.Walks.{the_walk_counts_the_expansion}
use Rattle.outline.specs.Outline.{is_repeated, is_once, bare, outline_word, noted, Noted, Outlined, Known, Notes}
use Rattle.outline.proofs.Laws.{no_repetition}
use Rattle.outline.proofs.ByWords.{well_formed, is_atom, is_consec, is_unbounded, is_goto, is_nonconsec, is_within}

-- Where no right word is lost, the words of a tree stay.
all_kept : (t o o' : List ℕ) → ((m : ℕ) → Noted t o m → Noted t o' m) → (s : Seq) → Outlined t o s → Outlined t o' s
unfolding Outlined
all_kept t o o' K (atom n a) O = K n O
all_kept t o o' K (delay n l r d x) O = (all_kept t o o' K l O.0, all_kept t o o' K r O.1, K n O.2)
all_kept t o o' K (consec n s d (finite zero)) O = K n O
all_kept t o o' K (consec n s d (finite (suc x))) O = (all_kept t o o' K s O.0, K n O.1)
all_kept t o o' K (consec n s d unbounded) O = K n O
all_kept t o o' K (goto n s k) O = K n O
all_kept t o o' K (nonconsec n s k) O = K n O
all_kept t o o' K (throughout n c s) O = (all_kept t o o' K s O.0, K n O.1)
all_kept t o o' K (within n s₁ s₂) O = K n O

-- A node that was known still is after another was noted.
pub still_known : {t o o' : List ℕ} {m n : ℕ} → Known t o m → Notes t n o o' → Known t o' m
still_known {t} {o} {o'} {m} K N = record { long = N.known.long; outline = all_kept t o o' N.kept (tree_at t m) K.outline }

-- A node of whose operands no word is needed.
pub record Alone (t : List ℕ) (n : ℕ) : Type 0 where
  pub itself : n ≡ bare (tree_at t n)
  pub enough : (o : List ℕ) → Noted t o n → Outlined t o (tree_at t n)

pub alone : {t : List ℕ} {n : ℕ} {v : Node} → FormedTable t → n < nodes t → v ≡ node_at t n → (v.kind ≡ 2 → ⊥) → (v.kind ≡ 6 → ⊥)
    → is_repeated v ≡ false → Alone t n
unfolding Outlined bare is_once
alone {t} {n} {v} formed inside w d g r =
    by_kind v.kind (well_formed formed inside w).known
    (λ k. of (is_atom formed inside w k) refl (λ o N. N))
    (λ k. absurd (d k))
    (λ k. elim (ℕ_discrete v.max unlimited) [
      | yes u ↦ of (is_unbounded formed inside w k u) (sym (pick_false _ _ refl)) (λ o N. N)
      | no l ↦ of (is_consec formed inside w k (finite_max _ l ∙ ap finite (no_repetition v (sym r) refl k l))) (sym (pick_false _ _ (no_test _))) (λ o N. N)
    ])
    (λ k. of (is_goto formed inside w k) refl (λ o N. N))
    (λ k. of (is_nonconsec formed inside w k) refl (λ o N. N))
    (λ k. absurd (g k))
    (λ k. of (is_within formed inside w k) refl (λ o N. N))
  where
    of : {s : Seq} → tree_at t n ≡ s → n ≡ bare s → ((o : List ℕ) → Noted t o n → Outlined t o s) → Alone t n
    of e b f = record { itself = b ∙ ap bare (sym e); enough = λ o N. rw e (f o N) }

-- A finite [*] that has copies of its operand.
copied_outlined : (t o : List ℕ) (n : ℕ) (s : Seq) (m x : ℕ) → 0 < x → Outlined t o s → Noted t o n → Outlined t o (consec n s m (finite x))
unfolding Outlined
copied_outlined t o n s m zero live under own = absurd (omega arith)
copied_outlined t o n s m (suc x) live under own = (under, own)

module _ (t : List ℕ) (n : ℕ) (o : List ℕ) {o' : List ℕ} (b room d : ℕ) {z : Result Counts Refusal} {c : Counts} (inside : n < nodes t)
    (left : b ≡ bare (tree_at t n)) (answer : z ≡ walk room d (tree_at t n)) (e : z ≡ Ok c) (put : o' ≡ noted o n b z) where
  -- What was put is the node's own word, since what the walk counts is the expansion.
  own_word_put : o' ≡ written o n (outline_word (tree_at t n) ∷ [])
  unfolding noted outline_word
  own_word_put = put ∙ rw (e, left, the_walk_counts_the_expansion room d (tree_at t n) c (sym answer ∙ e)) refl

  word_there : nodes t ≤ length o → Noted t o' n
  unfolding written
  word_there long = rw own_word_put (get_or-set_same o n (outline_word (tree_at t n)) 0 (omega arith))

  -- Putting the node's own word loses no right word.
  words_kept : nodes t ≤ length o → (m : ℕ) → Noted t o m → Noted t o' m
  unfolding written
  words_kept long m N = elim (ℕ_discrete m n) [
    | yes same ↦ rw same (word_there long)
    | no other ↦ rw own_word_put (get_or-set_other o n m (outline_word (tree_at t n)) 0 other ∙ N)
  ]

  still_long : nodes t ≤ length o → nodes t ≤ length o'
  still_long long = rw (own_word_put, length-written o n (outline_word (tree_at t n) ∷ [])) long

  -- A node without visited operands notes its own word alone.
  pub alone_notes : nodes t ≤ length o → Alone t n → Notes t n o o'
  alone_notes long A = record {
    known = record { long = still_long long; outline = A.enough o' (word_there long) };
    kept = words_kept long;
  }

  -- A delay notes both operands' words and then its own.
  pub delay_notes : {o₀ o₁ : List ℕ} {p q m : ℕ} {x : Max} → tree_at t n ≡ delay n (tree_at t p) (tree_at t q) m x
      → Notes t p o₀ o₁ → Notes t q o₁ o → Notes t n o₀ o'
  unfolding Outlined
  delay_notes {p = p} {q = q} is P Q =
      let long = Q.known.long in
      let right = all_kept t o o' (words_kept long) (tree_at t q) Q.known.outline in
      let one = all_kept t o o' (words_kept long) (tree_at t p) (still_known P.known Q).outline in
      record {
        known = record { long = still_long long; outline = rw is (one, right, word_there long) };
        kept = λ m N. words_kept long m (Q.kept m (P.kept m N));
      }

  -- A node over one visited operand notes the operand's words and then its own.
  over_one : {o₀ : List ℕ} {p : ℕ} → (Outlined t o' (tree_at t p) → Noted t o' n → Outlined t o' (tree_at t n)) → Notes t p o₀ o → Notes t n o₀ o'
  over_one {p = p} whole P =
      let long = P.known.long in
      record {
        known = record { long = still_long long; outline = whole (all_kept t o o' (words_kept long) (tree_at t p) P.known.outline) (word_there long) };
        kept = λ m N. words_kept long m (P.kept m N);
      }

  pub throughout_notes : {o₀ : List ℕ} {a q : ℕ} → tree_at t n ≡ throughout n a (tree_at t q) → Notes t q o₀ o → Notes t n o₀ o'
  unfolding Outlined
  throughout_notes is Q = over_one (λ under own. rw is (under, own)) Q

  pub repeated_notes : {o₀ : List ℕ} {p m x : ℕ} → tree_at t n ≡ consec n (tree_at t p) m (finite x) → 0 < x → Notes t p o₀ o → Notes t n o₀ o'
  repeated_notes {p = p} {m = m} {x = x} is live P = over_one (λ under own. rw is (copied_outlined t o' n (tree_at t p) m x live under own)) P
