-- The words of a guard, as `bare_guard`, `repeated_guard` and `guard_words` put them: of two guards, one after the other, and
-- an `and` where both wrote something.
use mathlib.Core.Path.{◌≡◌, refl, sym, ap, ◌∙◌}
use mathlib.Core.Bool.{Bool, true, false}
use mathlib.Core.List.{List, [], ◌∷◌, ◌++◌, append-nil}
use Prim.Native.Nat.{ℕ, zero, suc, ◌+◌, ◌-◌, ◌<◌, ◌≤◌, ◌/◌, ◌%◌}
use native.Mathlib.Omega.{arith}
use native.Mathlib.Nat.{mod-eq_of_lt}
use lib.ListN.{length, length-append}
use borrow.Author.Tests.{eq-eqb, ne_eqb}
use Rattle.words.specs.Choice.{pick, pick_true, pick_false}
use Rattle.words.specs.Written.{Wrote}
use Rattle.words.proofs.Taken.{false_is_not_true}
use Rattle.words.proofs.Laws.{still_long, begin, go, nothing_written, last, same_words}
use Rattle.term.specs.Guards.{guard_words}
use Rattle.meaning.specs.declared.Node.{Node}
use Rattle.meaning.specs.Tree.{node_at, tree_at}
use Rattle.meaning.specs.Expression.{a·, any}
use Rattle.meaning.specs.Listing.{word, expression_words}
use Rattle.meaning.specs.Alternative.{Guard, unguarded, guard, and_opt, SeqAlt, expand}
use Rattle.meaning.specs.Refusals.{has_guard, guarded}
use Rattle.meaning.proofs.Emitted.{some_words}
use Rattle.expand.specs.declared.Parts.{Parts}
use Rattle.expand.specs.declared.Block.{Block}
use Rattle.expand.specs.ByNumber.{alternatives_of, copies_of, nth, is_copies, copy_number, delay_parts, copies_block, OutlinedNumber, OutlinedCopies}
use Rattle.outline.specs.Outline.{guard_flag, count_in, bare_in, flag_in}
use Rattle.outline.proofs.ByWords.{well_formed}
use Rattle.outline.proofs.Readers.{flag_known}
use Rattle.expand.proofs.Index.{nth_copies, copies_index}
use Rattle.expand.proofs.ByKind.{some_alternatives, single_alternative}
use Rattle.expand.proofs.Numbers.{Copied, nth_of_delay, nth_of_throughout, nth_of_block, copy_counted, same_alternatives}
use Rattle.guards.specs.GuardText.{guard_expression, guard_text, closed_guard, joining}

-- ---- `join_guards`

-- What is put: nothing where one of the two wrote nothing, else `and`.
join_none : {from middle : ℕ} (end : ℕ) → from ≡ middle → joining from middle end ≡ []
unfolding joining
join_none end e = pick_true _ _ (eq-eqb _ _ e)

join_first : {from middle end : ℕ} → (from ≡ middle → ⊥) → middle ≡ end → joining from middle end ≡ []
unfolding joining
join_first e f = pick_false _ _ (ne_eqb _ _ e) ∙ pick_true _ _ (eq-eqb _ _ f)

join_both : {from middle end : ℕ} → (from ≡ middle → ⊥) → (middle ≡ end → ⊥) → joining from middle end ≡ word 7 0 ∷ []
unfolding joining
join_both e f = pick_false _ _ (ne_eqb _ _ e) ∙ pick_false _ _ (ne_eqb _ _ f)

-- The words that join two guards, as the code puts them.
pub none_joined : (o : List ℕ) {from middle : ℕ} (end : ℕ) → from ≡ middle → Wrote o o end end (joining from middle end)
none_joined o end e = same_words (sym (join_none end e)) (nothing_written o end)

pub first_joined : (o : List ℕ) {from middle end : ℕ} → (from ≡ middle → ⊥) → middle ≡ end
    → Wrote o o end end (joining from middle end)
first_joined o {end = end} e f = same_words (sym (join_first e f)) (nothing_written o end)

module _ {from middle end : ℕ} (e : from ≡ middle → ⊥) (f : middle ≡ end → ⊥) where
  pub both_room : (o : List ℕ) → end + length (joining from middle end) ≤ length o → end < length o
  both_room o room = let r : end + 1 ≤ length o = rw (join_both e f) at room in omega arith

  pub both_joined : {o o₁ : List ℕ} {next : ℕ} → Wrote o o₁ end next (word 7 0 ∷ []) → Wrote o o₁ end next (joining from middle end)
  both_joined x = same_words (sym (join_both e f)) x

-- ---- two guards

-- `and_opt` in words, wherever they are put.
text_of_two : (g h : Guard) (from middle end : ℕ) → middle ≡ from + length (guard_expression g) → end ≡ middle + length (guard_expression h)
    → guard_expression (and_opt g h) ≡ guard_expression g ++ (guard_expression h ++ joining from middle end)
text_of_two unguarded h from middle end p q =
    sym (ap (λ (l : List ℕ). guard_expression h ++ l) (join_none end (omega arith)) ∙ append-nil (guard_expression h))
text_of_two (guard x) unguarded from middle end p q =
    sym (ap (λ (l : List ℕ). expression_words x ++ l) (join_first (λ e. omega (arith, some_words x)) (omega arith)) ∙ append-nil (expression_words x))
text_of_two (guard x) (guard y) from middle end p q =
    ap (λ (l : List ℕ). expression_words x ++ (expression_words y ++ l)) (sym (join_both (λ e. omega (arith, some_words x)) (λ e. omega (arith, some_words y))))

first_shorter : (g h : Guard) → length (guard_expression g) ≤ length (guard_expression (and_opt g h))
first_shorter g h =
    let m = length (guard_expression g) in
    let z = m + length (guard_expression h) in
    omega (arith, ap length (text_of_two g h 0 m z (omega arith) refl), length-append (guard_expression g) (guard_expression h ++ joining 0 m z))

module _ (y g h : Guard) (e : y ≡ and_opt g h) (o : List ℕ) (at : ℕ) (room : at + length (guard_expression y) ≤ length o) where
  joined_room : at + length (guard_expression (and_opt g h)) ≤ length o
  joined_room = rw e at room

  first_guard_room : at + length (guard_expression g) ≤ length o
  first_guard_room =
      let m = at + length (guard_expression g) in
      let z = m + length (guard_expression h) in
      let l = ap length (text_of_two g h at m z refl refl) ∙ length-append (guard_expression g) (guard_expression h ++ joining at m z) in
      omega (arith, joined_room)

  module _ {o₁ : List ℕ} {middle : ℕ} (x : Wrote o o₁ at middle (guard_expression g)) where
    rooms : (end : ℕ) → end ≡ middle + length (guard_expression h)
        → at + (length (guard_expression g) + (length (guard_expression h) + length (joining at middle end))) ≤ length o
    rooms end q =
        rw (← length-append (guard_expression h), ← length-append (guard_expression g), ← text_of_two g h at middle end x.ends q) joined_room

    second_guard_room : middle + length (guard_expression h) ≤ length o₁
    second_guard_room = omega (arith, rooms (middle + length (guard_expression h)) refl, x.ends, still_long x)

    module _ {o₂ : List ℕ} {end : ℕ} (x₂ : Wrote o₁ o₂ middle end (guard_expression h)) where
      join_room : end + length (joining at middle end) ≤ length o₂
      join_room = omega (arith, rooms end x₂.ends, x.ends, x₂.ends, still_long x, still_long x₂)

      guards_joined : {o₃ : List ℕ} {next : ℕ} → Wrote o₂ o₃ end next (joining at middle end) → Wrote o o₃ at next (guard_expression y)
      guards_joined x₃ =
          same_words (sym (ap guard_expression e ∙ text_of_two g h at middle end x.ends x₂.ends))
          (last (go (guard_expression h) (joining at middle end) (go (guard_expression g) (guard_expression h ++ joining at middle end) (begin o at _) x) x₂) x₃)

-- ---- as the code meets them

-- The words that `guard_text` and `repeated_guard` put.
abbrev node_guard : List ℕ → ℕ → ℕ → List ℕ
node_guard t n i = guard_text (alternatives_of t n) i

abbrev copies_guard : List ℕ → ℕ → ℕ → ℕ → List ℕ
copies_guard t n k i = guard_text (copies_of (alternatives_of t n) k) i

-- Where no alternative has a guard, there is nothing to put.
no_guard : (alts : List SeqAlt) (i : ℕ) → guarded alts ≡ false → guard_text alts i ≡ []
unfolding guard_text nth pick
no_guard [] i e = refl
no_guard (y ∷ ys) zero e = by y.guard e
  where
    by : (g : Guard) → pick (has_guard g) true (guarded ys) ≡ false → guard_expression g ≡ []
    by unguarded p = refl
    by (guard x) p = absurd (false_is_not_true (sym p))
no_guard (y ∷ ys) (suc i) e = no_guard ys i (by (has_guard y.guard) e)
  where
    by : (g : Bool) → pick g true (guarded ys) ≡ false → guarded ys ≡ false
    by true p = absurd (false_is_not_true (sym p))
    by false p = p

pub unguarded_text : {t q : List ℕ} {n i f : ℕ} (o : List ℕ) (at : ℕ) → OutlinedNumber t q n i → f ≡ flag_in q n → f ≡ 0
    → Wrote o o at at (node_guard t n i)
unfolding guard_flag alternatives_of pick
unguarded_text {t} {q} {n} {i} o at N e z =
    same_words (sym (no_guard (alternatives_of t n) i (by (guarded (expand (tree_at t n))) (sym (flag_known N.numbered.node N.known) ∙ sym e ∙ z)))) (nothing_written o at)
  where
    by : (g : Bool) → ◌≡◌ {A = ℕ} (pick g 1 0) 0 → g ≡ false
    by true p = absurd (omega arith)
    by false p = refl

-- [*1], passed at one stroke
module _ {t q : List ℕ} {n i m : ℕ} (o : List ℕ) (at : ℕ) (N : OutlinedNumber t q n i) (e : m ≡ bare_in q n) where
  pub bare_guard_room : at + length (node_guard t n i) ≤ length o → at + length (node_guard t m i) ≤ length o
  bare_guard_room room = rw (same_alternatives N e) room

  pub bare_guarded : {o₁ : List ℕ} {z : ℕ} → Wrote o o₁ at z (node_guard t m i) → Wrote o o₁ at z (node_guard t n i)
  bare_guarded x = rw (same_alternatives N e) at x

module _ {t q : List ℕ} {n i : ℕ} {v : Node} (o : List ℕ) (at : ℕ) (N : OutlinedNumber t q n i) (room : at + length (node_guard t n i) ≤ length o) (w : v ≡ node_at t n) where
  abbrev own : Guard
  own = (nth (alternatives_of t n) i).guard

  -- The guard of a delay's alternative joins those of its two parts.
  module _ {s : Parts} (k : v.kind ≡ 2) (c : s ≡ delay_parts q v i) where
    abbrev left : Guard
    left = (nth (alternatives_of t v.p) s.left).guard

    abbrev right : Guard
    right = (nth (alternatives_of t v.q) s.right).guard

    delay_guard : own ≡ and_opt left right
    delay_guard = ap (λ (y : SeqAlt). y.guard) (nth_of_delay N w k c)

    pub left_room : at + length (node_guard t v.p s.left) ≤ length o
    unfolding guard_text
    left_room = first_guard_room own left right delay_guard o at room

    module _ {o₁ : List ℕ} {middle : ℕ} (x : Wrote o o₁ at middle (node_guard t v.p s.left)) where
      pub right_room : middle + length (node_guard t v.q s.right) ≤ length o₁
      unfolding guard_text
      right_room = second_guard_room own left right delay_guard o at room x

      module _ {o₂ : List ℕ} {end : ℕ} (y : Wrote o₁ o₂ middle end (node_guard t v.q s.right)) where
        pub delay_join_room : end + length (joining at middle end) ≤ length o₂
        unfolding guard_text
        delay_join_room = join_room own left right delay_guard o at room x y

        pub delay_guarded : {o₃ : List ℕ} {next : ℕ} → Wrote o₂ o₃ end next (joining at middle end)
            → Wrote o o₃ at next (node_guard t n i)
        unfolding guard_text
        delay_guarded z = guards_joined own left right delay_guard o at room x y z

  -- The guard of a throughout's alternative joins that of its operand's and the condition.
  module _ (k : v.kind ≡ 6) where
    abbrev under : Guard
    under = (nth (alternatives_of t v.q) i).guard

    abbrev condition : Guard
    condition = guard (any (a· v.p))

    throughout_guard : own ≡ and_opt under condition
    throughout_guard = ap (λ (y : SeqAlt). y.guard) (nth_of_throughout N w k)

    pub condition_small : v.p < 65536
    condition_small = (well_formed N.numbered.node.formed N.numbered.node.inside w).condition_small k

    pub under_room : at + length (node_guard t v.q i) ≤ length o
    unfolding guard_text
    under_room = first_guard_room own under condition throughout_guard o at room

    module _ {o₁ : List ℕ} {middle : ℕ} (x : Wrote o o₁ at middle (node_guard t v.q i)) where
      pub condition_room : middle + 2 ≤ length o₁
      unfolding guard_text
      condition_room = second_guard_room own under condition throughout_guard o at room x

      module _ {o₂ : List ℕ} {end : ℕ} (y : Wrote o₁ o₂ middle end (word 1 v.p ∷ word 5 0 ∷ [])) where
        pub throughout_join_room : end + length (joining at middle end) ≤ length o₂
        unfolding guard_text
        throughout_join_room = join_room own under condition throughout_guard o at room x y

        pub throughout_guarded : {o₃ : List ℕ} {next : ℕ} → Wrote o₂ o₃ end next (joining at middle end)
            → Wrote o o₃ at next (node_guard t n i)
        unfolding guard_text
        throughout_guarded z = guards_joined own under condition throughout_guard o at room x y z

  -- The guard of a repetition's alternative is that of its block of copies.
  module _ (R : Copied v i) {b : Block} (g : b ≡ copies_block q v i) where
    block_guard : node_guard t n i ≡ copies_guard t v.p b.later b.index
    unfolding guard_text
    block_guard = ap (λ (y : SeqAlt). guard_expression y.guard) (nth_of_block N w R g)

    pub block_room : at + length (copies_guard t v.p b.later b.index) ≤ length o
    block_room = rw block_guard at room

    pub block_guarded : {o₁ : List ℕ} {z : ℕ} → Wrote o o₁ at z (copies_guard t v.p b.later b.index)
        → Wrote o o₁ at z (node_guard t n i)
    block_guarded x = same_words (sym block_guard) x

  -- An alternative that is one term has no guard to put.
  pub single_unguarded : {b : Bool} → (v.kind ≡ 2 → ⊥) → (v.kind ≡ 6 → ⊥) → b ≡ is_copies v i → b ≡ false
      → Wrote o o at at (node_guard t n i)
  unfolding guard_text
  single_unguarded d g c x =
      same_words (ap (λ (y : SeqAlt). guard_expression y.guard) (sym (single_alternative N.numbered.node w d g i N.numbered.index c x))) (nothing_written o at)

-- ---- several copies, each joined to those before it

-- The guard of one of several copies.
abbrev copy_guard : List ℕ → ℕ → ℕ → ℕ → Guard
copy_guard t n i later = (nth (alternatives_of t n) (copy_number (length (alternatives_of t n)) i later)).guard

-- The guard of the copies so far, with those of the copies that are left: the next one, and the `later` that follow it.
pub joined_on : List ℕ → ℕ → ℕ → Guard → ℕ → Guard
joined_on t n i g zero = and_opt g (copy_guard t n i zero)
joined_on t n i g (suc later) = joined_on t n i (and_opt g (copy_guard t n i (suc later))) later

-- The guard of the last copy is joined to those of the number that is left without it.
last_joined : (t : List ℕ) (n i : ℕ) (g : Guard) (later : ℕ)
    → let a = length (alternatives_of t n) in joined_on t n i g (suc later) ≡ and_opt (joined_on t n (i / a) g later) (nth (alternatives_of t n) (i % a)).guard
unfolding joined_on copy_number
last_joined t n i g zero = refl
last_joined t n i g (suc later) = last_joined t n i (and_opt g (copy_guard t n i (suc (suc later)))) later

-- The guards of all copies, joined, are the guard of the copies' alternative.
all_joined : (t : List ℕ) (n k i : ℕ) → 0 < length (alternatives_of t n) → i < length (copies_of (alternatives_of t n) k)
    → (nth (copies_of (alternatives_of t n) k) i).guard ≡ joined_on t n i unguarded k
unfolding joined_on copies_of copy_number
all_joined t n zero i p q = ap (λ (z : ℕ). (nth (alternatives_of t n) z).guard) (sym (mod-eq_of_lt q))
all_joined t n (suc k) i p q =
    let base = alternatives_of t n in
    let a = length base in
    ap (λ (y : SeqAlt). y.guard) (nth_copies base k i p q)
    ∙ ap (λ (g : Guard). and_opt g (nth base (i % a)).guard) (all_joined t n k (i / a) p (copies_index base k i p q))
    ∙ sym (last_joined t n i unguarded k)

-- What is joined to a guard makes it no shorter.
no_shorter : (t : List ℕ) (n i : ℕ) (g : Guard) (later : ℕ) → length (guard_expression g) ≤ length (guard_expression (joined_on t n i g later))
unfolding joined_on
no_shorter t n i g zero = first_shorter g (copy_guard t n i zero)
no_shorter t n i g (suc later) =
    omega (arith, first_shorter g (copy_guard t n i (suc later)), no_shorter t n i (and_opt g (copy_guard t n i (suc later))) later)

next_is_short : (t : List ℕ) (n i : ℕ) (g : Guard) (later : ℕ)
    → length (guard_expression (and_opt g (copy_guard t n i later))) ≤ length (guard_expression (joined_on t n i g later))
unfolding joined_on
next_is_short t n i g zero = omega arith
next_is_short t n i g (suc later) = no_shorter t n i (and_opt g (copy_guard t n i (suc later))) later

-- The loop of `repeated_guard`: the guard so far stands there, and with the copies that are left it is the whole.
pub record Joining (t : List ℕ) (n k i : ℕ) (o : List ℕ) (at : ℕ) (o' : List ℕ) (middle later : ℕ) : Type 0 where
  pub so_far : Guard
  pub stands : Wrote o o' at middle (guard_expression so_far)
  pub rest : (nth (copies_of (alternatives_of t n) k) i).guard ≡ joined_on t n i so_far later

pub joining_begins : {t q : List ℕ} {n k i : ℕ} (o : List ℕ) (at : ℕ) → OutlinedCopies t q n k i → Joining t n k i o at o at k
joining_begins {t} {n = n} {k} {i} o at C = record {
  so_far = unguarded;
  stands = nothing_written o at;
  rest = all_joined t n k i (some_alternatives C.numbered.node) C.numbered.index;
}

module _ {t q : List ℕ} {n k i : ℕ} {o : List ℕ} {at : ℕ} {o₁ : List ℕ} {middle later d : ℕ}
    (C : OutlinedCopies t q n k i) (J : Joining t n k i o at o₁ middle later)
    (e : d ≡ copy_number (count_in q n) i later) (room : at + length (copies_guard t n k i) ≤ length o) where
  abbrev next_copy : Guard
  next_copy = (nth (alternatives_of t n) d).guard

  is_next : next_copy ≡ copy_guard t n i later
  is_next = ap (λ (z : ℕ). (nth (alternatives_of t n) z).guard) (copy_counted C later e)

  all_room : at + length (guard_expression (and_opt J.so_far next_copy)) ≤ length o
  unfolding guard_text
  all_room =
      rw is_next (omega (arith, room, ap (λ (g : Guard). length (guard_expression g)) J.rest, next_is_short t n i J.so_far later))

  pub copy_room : middle + length (node_guard t n d) ≤ length o₁
  unfolding guard_text
  copy_room = second_guard_room (and_opt J.so_far next_copy) J.so_far next_copy refl o at all_room J.stands

  module _ {o₂ : List ℕ} {end : ℕ} (x : Wrote o₁ o₂ middle end (node_guard t n d)) where
    pub copy_join_room : end + length (joining at middle end) ≤ length o₂
    unfolding guard_text
    copy_join_room = join_room (and_opt J.so_far next_copy) J.so_far next_copy refl o at all_room J.stands x

    module _ {o₃ : List ℕ} {next : ℕ} (y : Wrote o₂ o₃ end next (joining at middle end)) where
      one_joined : Wrote o o₃ at next (guard_expression (and_opt J.so_far next_copy))
      unfolding guard_text
      one_joined = guards_joined (and_opt J.so_far next_copy) J.so_far next_copy refl o at all_room J.stands x y

      pub joining_on : 0 < later → Joining t n k i o at o₃ next (later - 1)
      unfolding joined_on
      joining_on m =
          let s : later ≡ suc (later - 1) = omega arith in
          record {
            so_far = and_opt J.so_far next_copy;
            stands = one_joined;
            rest =
                J.rest ∙ ap (joined_on t n i J.so_far) s
                ∙ ap (λ (g : Guard). joined_on t n i (and_opt J.so_far g) (later - 1)) (ap (copy_guard t n i) (sym s) ∙ sym is_next);
          }

      pub joining_ends : later ≤ 0 → Wrote o o₃ at next (copies_guard t n k i)
      unfolding guard_text joined_on
      joining_ends m =
          let s : later ≡ 0 = omega arith in
          let whole = J.rest ∙ ap (joined_on t n i J.so_far) s ∙ ap (and_opt J.so_far) (ap (copy_guard t n i) (sym s) ∙ sym is_next) in
          same_words (sym (ap guard_expression whole)) one_joined

-- ---- `guard_words`

-- Nothing was written: there is no guard. Something was: the `and` is what is left.
unclosed : (g : Guard) → length (guard_expression g) ≡ 0 → guard_expression g ≡ guard_words g
unclosed unguarded e = refl
unclosed (guard x) e = absurd (omega (arith, some_words x))

closed : (g : Guard) → (length (guard_expression g) ≡ 0 → ⊥) → guard_words g ≡ guard_expression g ++ (word 7 0 ∷ [])
closed unguarded e = absurd (e refl)
closed (guard x) e = refl

-- The room for the closed guard is enough for its text.
text_shorter : (g : Guard) → length (guard_expression g) ≤ length (guard_words g)
text_shorter unguarded = omega arith
text_shorter (guard x) = omega (arith, length-append (expression_words x) (word 7 0 ∷ []))

module _ (alts : List SeqAlt) (i : ℕ) (o : List ℕ) (at : ℕ) (room : at + length (closed_guard alts i) ≤ length o) where
  abbrev g : Guard
  g = (nth alts i).guard

  pub text_room : at + length (guard_text alts i) ≤ length o
  unfolding guard_text closed_guard
  text_room = omega (arith, room, text_shorter g)

  module _ {o₁ : List ℕ} {end : ℕ} (x : Wrote o o₁ at end (guard_text alts i)) where
    pub none_to_close : at ≡ end → Wrote o o₁ at end (closed_guard alts i)
    unfolding guard_text closed_guard
    none_to_close e = same_words (unclosed g (omega (arith, x.ends))) x

    module _ (e : at ≡ end → ⊥) where
      is_closed : closed_guard alts i ≡ guard_text alts i ++ (word 7 0 ∷ [])
      unfolding guard_text closed_guard
      is_closed = closed g (λ z. e (omega (arith, x.ends)))

      pub close_room : end < length o₁
      close_room =
          omega (arith, room, ap length is_closed, length-append (guard_text alts i) (word 7 0 ∷ []), x.ends, still_long x)

      pub guard_closed : {o₂ : List ℕ} {next : ℕ} → Wrote o₁ o₂ end next (word 7 0 ∷ []) → Wrote o o₂ at next (closed_guard alts i)
      guard_closed y = same_words (sym is_closed) (last (go (guard_text alts i) (word 7 0 ∷ []) (begin o at _) x) y)

-- `put_condition`: its two words.
pub condition_put : {o o₁ o₂ : List ℕ} {at middle end : ℕ} (c : ℕ) → Wrote o o₁ at middle (word 1 c ∷ [])
    → Wrote o₁ o₂ middle end (word 5 0 ∷ []) → Wrote o o₂ at end (word 1 c ∷ word 5 0 ∷ [])
condition_put {o} {at = at} c x y = last (go (word 1 c ∷ []) (word 5 0 ∷ []) (begin o at _) x) y

-- Where the outline tells of no guard, nothing is to be closed.
pub nothing_closed : {t q : List ℕ} {n i f : ℕ} (o : List ℕ) (at : ℕ) → OutlinedNumber t q n i → at + length (closed_guard (alternatives_of t n) i) ≤ length o
    → f ≡ flag_in q n → f ≡ 0 → Wrote o o at at (closed_guard (alternatives_of t n) i)
nothing_closed {t} {q} {n} {i} o at N room e z = none_to_close (alternatives_of t n) i o at room (unguarded_text o at N e z) refl
