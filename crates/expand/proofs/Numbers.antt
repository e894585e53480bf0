-- Which alternatives of its operands an alternative is made of, from its number alone, and that they are numbered too: what
-- a recursion on the node number goes by, whatever it writes of the alternative.
use mathlib.Core.Path.{◌≡◌, refl, sym, ap, ◌∙◌}
use mathlib.Core.Bool.{Bool, true, false}
use mathlib.Core.List.{List}
use Prim.Native.Nat.{ℕ, zero, suc, ◌+◌, ◌*◌, ◌-◌, ◌<◌, ◌≤◌, ◌/◌, ◌%◌}
use native.Mathlib.Omega.{arith}
use native.Mathlib.Nat.{mod-lt}
use lib.Dec.{eqb}
use lib.ListN.{length, get_or}
use borrow.Author.Tests.{leb-true}
use Rattle.words.specs.Choice.{pick}
use Rattle.meaning.specs.declared.Node.{Node}
use Rattle.meaning.specs.declared.SeqHop.{SeqHop}
use Rattle.meaning.specs.declared.SeqHop.TheVariants.{Fixed, AtLeast}
use Rattle.meaning.specs.Tree.{finite, unbounded, node_at, unlimited, max_of}
use Rattle.meaning.specs.Expression.{a·, any}
use Rattle.meaning.specs.Alternative.{guard, and_opt, SeqAlt, alternative, joined, hops, copies_from}
use Rattle.meaning.specs.Lowerable.{WellFormed}
use Rattle.meaning.proofs.Counting.{length-hops}
use Rattle.words.proofs.Taken.{both_hold}
use Rattle.expand.specs.declared.Parts.{Parts}
use Rattle.expand.specs.declared.Block.{Block}
use Rattle.expand.specs.ByNumber.{alternatives_of, copies_of, nth, hop_at, parts_of, delay_parts, block_of, copies_block, empties, is_copies, copies_count, copy_number, DelayCounted, CopiesCounted, OutlinedNumber, OutlinedCopies}
use Rattle.outline.specs.Outline.{is_repeated, count_in, bare_in, Expandable, Known}
use Rattle.outline.proofs.Laws.{Repetition, repetition}
use Rattle.outline.proofs.ByWords.{well_formed}
use Rattle.outline.proofs.Readers.{bare_lower, inside_outline, bare_known}
use Rattle.expand.proofs.Arithmetic.{copies_monotone}
use Rattle.expand.proofs.Index.{nth_delay, nth_fixed_from, nth_guarded, digits_below, Digits, InBlock, nth_block, length-copies, finite_blocks, nth_past_empty}
use Rattle.expand.proofs.ByKind.{some_alternatives, few_alternatives, left_expandable, right_expandable, delay_alternatives, guarded_expandable, throughout_alternatives, copied_expandable, few_copies, copies_in_order, repeated_alternatives}
use Rattle.expand.proofs.Counted.{delay_count, throughout_count, copied_some, copied_few, first_few, repeated_count}
use Rattle.expand.proofs.Outlines.{Bared, count_known, left_known, right_known, guarded_known, copied_known, bare_found}

-- The k-th hop of a delay.
nth_hop : (min max k : ℕ) → k < length (hops min (max_of max)) → get_or (hops min (max_of max)) k (Fixed 0) ≡ hop_at min max k
unfolding hop_at pick
nth_hop min max k h = go (eqb max unlimited) h
  where
    go : (b : Bool) → k < length (hops min (pick b unbounded (finite max)))
        → get_or (hops min (pick b unbounded (finite max))) k (Fixed 0) ≡ pick b (AtLeast min) (Fixed (min + k))
    go true p = let e : k ≡ 0 = omega arith in rw e refl
    go false p = nth_fixed_from min (suc max - min) k (omega (arith, length-hops min (finite max)))

-- The k-th hop of a delay is a number of 32 bits.
hop_fits : (min max k : ℕ) → min < unlimited → max < 4294967296 → k < length (hops min (max_of max)) → min + k < 4294967296
unfolding pick
hop_fits min max k p q h = go (eqb max unlimited) h
  where
    go : (b : Bool) → k < length (hops min (pick b unbounded (finite max))) → min + k < 4294967296
    go true h = omega arith
    go false h = omega (arith, length-hops min (finite max))

module _ {t o : List ℕ} {n i : ℕ} {v : Node} (N : OutlinedNumber t o n i) (w : v ≡ node_at t n) where
  abbrev E : Expandable t n
  E = N.numbered.node

  abbrev K : Known t o n
  K = N.known

  words : WellFormed n v
  words = well_formed E.formed E.inside w

  -- ---- delay

  module _ (k : v.kind ≡ 2) where
    left_counted : count_in o v.p ≡ length (alternatives_of t v.p)
    left_counted = count_known (left_expandable E w k) (left_known E K w k)

    right_counted : count_in o v.q ≡ length (alternatives_of t v.q)
    right_counted = count_known (right_expandable E w k) (right_known E K w k)

    left_some : 0 < length (alternatives_of t v.p)
    left_some = some_alternatives (left_expandable E w k)

    right_some : 0 < length (alternatives_of t v.q)
    right_some = some_alternatives (right_expandable E w k)

    -- The three digits of the number are below their bases.
    bounds : Digits i (length (hops v.min (max_of v.max))) (length (alternatives_of t v.p)) (length (alternatives_of t v.q))
    bounds = digits_below i _ _ _ left_some right_some (rw (← delay_count E w k) N.numbered.index)

    pub delay_counts : v.max < 4294967296 → DelayCounted o v i
    delay_counts z = record {
      left_inside = inside_outline (left_expandable E w k) (left_known E K w k);
      right_inside = inside_outline (right_expandable E w k) (right_known E K w k);
      left_some = rw left_counted left_some;
      right_some = rw right_counted right_some;
      hop_small = rw (left_counted, right_counted) (hop_fits v.min v.max _ (words.delay_min k) z bounds.hop);
    }

  -- The measure falls: 3 for each node, one for each of the functions that call each other.
  pub left_below : {u : ℕ} → n * 3 ≡ u → v.kind ≡ 2 → v.p * 3 + 1 < u
  left_below e k = omega (arith, words.delay_left k)

  pub right_below : {u : ℕ} → n * 3 ≡ u → v.kind ≡ 2 → v.q * 3 + 1 < u
  right_below e k = omega (arith, words.delay_right k)

  -- Both operands' alternatives are numbered, and the delay's joins them.
  module _ {s : Parts} (k : v.kind ≡ 2) (c : s ≡ delay_parts o v i) where
    abbrev ls : List SeqAlt
    ls = alternatives_of t v.p

    abbrev rs : List SeqAlt
    rs = alternatives_of t v.q

    apart : s ≡ parts_of v.min v.max i (length ls) (length rs)
    unfolding delay_parts
    apart = c ∙ rw (left_counted k, right_counted k) refl

    pub left_numbered : OutlinedNumber t o v.p s.left
    unfolding parts_of
    left_numbered = record { numbered = record { node = left_expandable E w k; index = rw apart (bounds k).left }; known = left_known E K w k }

    pub right_numbered : OutlinedNumber t o v.q s.right
    unfolding parts_of
    right_numbered = record { numbered = record { node = right_expandable E w k; index = rw apart (bounds k).right }; known = right_known E K w k }

    pub nth_of_delay : nth (alternatives_of t n) i
        ≡ joined s.hop (nth (alternatives_of t v.p) s.left) (nth (alternatives_of t v.q) s.right)
    unfolding parts_of
    nth_of_delay =
        let hs = hops v.min (max_of v.max) in
        let h : i / length rs / length ls < length hs = (bounds k).hop in
        rw apart
        (ap (λ (z : List SeqAlt). nth z i) (delay_alternatives E w k)
        ∙ nth_delay hs ls rs i (left_some k) (right_some k) (rw (delay_alternatives E w k) at N.numbered.index)
        ∙ ap (λ (z : SeqHop). joined z (nth ls (i / length rs % length ls)) (nth rs (i % length rs))) (nth_hop v.min v.max _ h))

  -- ---- throughout: the operand's alternative of the same number, with one guard more

  pub guarded_below : {u : ℕ} → n * 3 ≡ u → v.kind ≡ 6 → v.q * 3 + 1 < u
  guarded_below e k = omega (arith, words.throughout_under k)

  pub guarded_numbered : v.kind ≡ 6 → OutlinedNumber t o v.q i
  guarded_numbered k = record {
    numbered = record { node = guarded_expandable E w k; index = rw (throughout_count E w k) at N.numbered.index };
    known = guarded_known E K w k;
  }

  pub nth_of_throughout : v.kind ≡ 6
      → let y = nth (alternatives_of t v.q) i in nth (alternatives_of t n) i ≡ alternative y.steps (and_opt y.guard (guard (any (a· v.p))))
  nth_of_throughout k =
      ap (λ (z : List SeqAlt). nth z i) (throughout_alternatives E w k)
      ∙ nth_guarded v.p (alternatives_of t v.q) i (guarded_numbered k).numbered.index

-- What the tests of `made_of_copies` say.
pub record Copied (v : Node) (i : ℕ) : Type 0 where
  pub repetition : Repetition v
  pub past : empties v.min ≤ i

module _ (v : Node) (i : ℕ) {b : Bool} (e : b ≡ is_copies v i) (y : b ≡ true) where
  pub copied : Copied v i
  unfolding is_copies
  copied =
      let (r, x) = both_hold (is_repeated v) (sym e ∙ y) in
      record { repetition = repetition v refl r; past = leb-true (empties v.min) i x }

-- ---- a finite [*], past its Empty

module _ {t o : List ℕ} {n i : ℕ} {v : Node} (N : OutlinedNumber t o n i) (w : v ≡ node_at t n) (R : Copied v i) where
  abbrev E' : Expandable t n
  E' = N.numbered.node

  abbrev Q : Repetition v
  Q = R.repetition

  base_counted : count_in o v.p ≡ length (alternatives_of t v.p)
  base_counted = count_known (copied_expandable E' w Q) (copied_known E' N.known w Q)

  pub copies_counts : CopiesCounted o v i
  copies_counts = record {
    inside = inside_outline (copied_expandable E' w Q) (copied_known E' N.known w Q);
    some = copied_some E' w Q base_counted;
    few = copied_few E' w Q base_counted;
    order = copies_in_order E' w Q;
    live = Q.live;
    few_copies = few_copies E' w Q;
    first_few = first_few E' w Q base_counted;
    past_empty = R.past;
    few_numbers = omega (arith, N.numbered.index, few_alternatives E');
  }

  -- The number stands in the block that was found, and is a number there.
  module _ {b : Block} (g : b ≡ copies_block o v i) where
    abbrev base : List SeqAlt
    base = alternatives_of t v.p

    abbrev more : ℕ
    more = v.max - (v.min - 1) - 1

    abbrev j : ℕ
    j = i - empties v.min

    blocks : v.max - (v.min - 1) ≡ suc more
    blocks = omega (arith, Q.live, copies_in_order E' w Q)

    in_blocks : nth (alternatives_of t n) i ≡ nth (copies_from base (v.min - 1) (suc more)) j
    in_blocks =
        ap (λ (z : List SeqAlt). nth z i) (repeated_alternatives E' w Q ∙ finite_blocks base v.min v.max Q.live)
        ∙ nth_past_empty v.min _ i R.past
        ∙ ap (λ (z : ℕ). nth (copies_from base (v.min - 1) z) j) blocks

    found : InBlock base (nth (alternatives_of t n) i) 256 256 b
    unfolding copies_block
    found =
        let k = v.min - 1 in
        let count = repeated_count E' w Q ∙ ap (λ (z : ℕ). empties v.min + length (copies_from base k z)) blocks in
        let there = nth_block base k more j (omega (arith, N.numbered.index, count, R.past)) in
        let few : (block_of (length base) k more j).later ≤ 256 = omega (arith, there.few, few_copies E' w Q, copies_in_order E' w Q, Q.live) in
        rw (g, base_counted)
        (record { same = in_blocks ∙ there.same; index = there.index; few = few; part = omega (arith, there.part, few_alternatives E', count) })

    pub block_below : {u : ℕ} → n * 3 ≡ u → v.p * 3 + 2 < u
    block_below e = omega (arith, (well_formed E'.formed E'.inside w).consec_under Q.kind)

    pub block_numbered : OutlinedCopies t o v.p b.later b.index
    unfolding copies_of
    block_numbered = record {
      numbered = record { node = copied_expandable E' w Q; few = found.few; few_numbers = found.part; index = found.index };
      known = copied_known E' N.known w Q;
    }

    pub nth_of_block : nth (alternatives_of t n) i ≡ nth (copies_of (alternatives_of t v.p) b.later) b.index
    unfolding copies_of
    nth_of_block = found.same

-- ---- k + 1 copies, of which one is looked at that so many others follow

-- The number of each copy is one of the operand's.
copy_number_below : (a i later : ℕ) → 0 < a → copy_number a i later < a
unfolding copy_number
copy_number_below a i zero h = mod-lt i h
copy_number_below a i (suc later) h = copy_number_below a (i / a) later h

module _ {t o : List ℕ} {n k i : ℕ} (C : OutlinedCopies t o n k i) where
  abbrev E'' : Expandable t n
  E'' = C.numbered.node

  pub copy_below : {u : ℕ} → n * 3 + 2 ≡ u → n * 3 + 1 < u
  copy_below e = omega arith

  pub copy_inside : n < length o
  copy_inside = inside_outline E'' C.known

  pub copy_some : 0 < count_in o n
  copy_some = rw (count_known E'' C.known) (some_alternatives E'')

  -- The loops have each copy with those that follow it.
  pub copy_few : {later : ℕ} → later ≤ k → copies_count (count_in o n) later ≤ 256
  unfolding copies_of
  copy_few {later} h =
      let a = length (alternatives_of t n) in
      rw (count_known E'' C.known)
      (omega (arith, copies_monotone a later k (some_alternatives E'') h, length-copies (alternatives_of t n) k, C.numbered.few_numbers))

  pub copy_numbered : (later : ℕ) {d : ℕ} → d ≡ copy_number (count_in o n) i later → OutlinedNumber t o n d
  copy_numbered later e = record {
    known = C.known;
    numbered = record { node = E''; index = rw (e, count_known E'' C.known) (copy_number_below (length (alternatives_of t n)) i later (some_alternatives E'')) };
  }

  pub copy_counted : (later : ℕ) {d : ℕ} → d ≡ copy_number (count_in o n) i later → d ≡ copy_number (length (alternatives_of t n)) i later
  copy_counted later e = e ∙ rw (count_known E'' C.known) refl

-- The node's own word can be read.
pub node_inside : {t o : List ℕ} {n i : ℕ} → OutlinedNumber t o n i → n < length o
node_inside N = inside_outline N.numbered.node N.known

-- ---- [*1]: the node that is left without it, which `alternative` has under the name m

module _ {t o : List ℕ} {n i m : ℕ} (N : OutlinedNumber t o n i) (e : m ≡ bare_in o n) where
  left_over : Bared t o n m
  left_over = bare_found N.numbered.node N.known e

  pub bare_below : {u : ℕ} → n * 3 + 1 ≡ u → m * 3 < u
  bare_below x =
      let E = N.numbered.node in
      omega (arith, e ∙ bare_known E N.known, bare_lower t n E.formed E.inside)

  pub bare_numbered : OutlinedNumber t o m i
  bare_numbered = record {
    numbered = record { node = left_over.node; index = rw left_over.same N.numbered.index };
    known = left_over.known;
  }

  pub same_alternatives : alternatives_of t m ≡ alternatives_of t n
  same_alternatives = left_over.same
