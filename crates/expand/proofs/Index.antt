-- The i-th alternative of a join, of copies, of blocks of copies and of a guarded list, from the i-th of their parts.
-- Positions are sums of products, by induction over the lists; at the end they are read off by division. Assumes nothing.
use mathlib.Core.Path.{◌≡◌, refl, sym, ap, ◌∙◌}
use mathlib.Core.Bool.{Bool, true, false}
use mathlib.Core.List.{List, [], ◌∷◌, ◌++◌}
use Prim.Native.Nat.{ℕ, zero, suc, ◌+◌, ◌*◌, ◌-◌, ◌<◌, ◌≤◌, ◌/◌, ◌%◌}
use native.Mathlib.Omega.{arith}
use native.Mathlib.Numerals.{add-one}
use native.Mathlib.Nat.{mul-le-mul, le_refl, add-zero, mod-lt, div-add-mod', div-lt_iff_lt-mul}
use lib.Dec.{ltb}
use borrow.Author.Tests.{ltb-true, ltb-false, ne_eqb}
use lib.ListN.{length, get_or, drop, length-append, get_or-append}
use lib.Seq.{get_or-append-add, drop-cons}
use Rattle.words.specs.Choice.{pick, pick_false}
use Rattle.meaning.specs.Tree.{below}
use Rattle.meaning.specs.declared.SeqTerm.TheVariants.{ConsecAtLeast, Empty}
use Rattle.meaning.specs.declared.SeqHop.{SeqHop}
use Rattle.meaning.specs.declared.SeqHop.TheVariants.{Fixed}
use Rattle.meaning.specs.Expression.{a·, any}
use Rattle.meaning.specs.Alternative.{guard, and_opt, SeqAlt, alternative, single, joined, join_rights, join_lefts, join_hops, fixed_from, copies, copies_from, with_empty, consec_finite, consec_unbounded, guard_each}
use Rattle.meaning.proofs.Counting.{Tally, tally, tally_copies, tally_lefts, tally_hops, copies_tallied}
use Rattle.meaning.proofs.Members.{below_is_one_less}
use Rattle.expand.specs.ByNumber.{nth, copies_count, block_of, empties}
use Rattle.expand.specs.declared.Block.{Block}
use Rattle.expand.proofs.Arithmetic.{empties_few}

abbrev alternatives_in : Tally → ℕ
alternatives_in x = x.alternatives

-- ---- lengths, from the tallies

length_rights : (h : SeqHop) (l : SeqAlt) (rs : List SeqAlt) → length (join_rights h l rs) ≡ length rs
length_rights h l [] = refl
length_rights h l (r ∷ rs) = ap suc (length_rights h l rs)

pub length_lefts : (h : SeqHop) (ls rs : List SeqAlt) → length (join_lefts h ls rs) ≡ length ls * length rs
length_lefts h ls rs = ap alternatives_in (tally_lefts h ls rs)

pub length-join_hops : (hs : List SeqHop) (ls rs : List SeqAlt) → length (join_hops hs ls rs) ≡ length hs * (length ls * length rs)
length-join_hops hs ls rs = ap alternatives_in (tally_hops hs ls rs)

count_copies : (x : Tally) (k : ℕ) → (tally_copies x k).alternatives ≡ copies_count x.alternatives k
unfolding copies_count
count_copies x zero = refl
count_copies x (suc k) = ap (λ (z : ℕ). z * x.alternatives) (count_copies x k)

pub length-copies : (base : List SeqAlt) (k : ℕ) → length (copies base k) ≡ copies_count (length base) k
length-copies base k = ap alternatives_in (copies_tallied base k) ∙ count_copies (tally base) k

-- ---- by number, positions as sums of products

-- The alternatives that are left, the next one in front.
pub rest_of : (alts : List SeqAlt) (i : ℕ) → i < length alts → drop i alts ≡ nth alts i ∷ drop (i + 1) alts
unfolding nth
rest_of alts i h = rw (add-one i) (drop-cons alts i (single Empty) h)

-- In front of the seam of two lists, and behind it.
nth_front : (xs ys : List SeqAlt) (i : ℕ) → i < length xs → nth (xs ++ ys) i ≡ nth xs i
unfolding nth
nth_front xs ys i h = get_or-append xs ys (single Empty) i h

nth_back : (xs ys : List SeqAlt) (i : ℕ) → nth (xs ++ ys) (length xs + i) ≡ nth ys i
unfolding nth
nth_back xs ys i = get_or-append-add xs ys i (single Empty)

nth_first : (x : SeqAlt) (xs : List SeqAlt) → x ≡ nth (x ∷ xs) 0
unfolding nth
nth_first x xs = refl

pub nth_next : (x : SeqAlt) (xs : List SeqAlt) (i : ℕ) → nth xs i ≡ nth (x ∷ xs) (suc i)
unfolding nth
nth_next x xs i = refl

nth_rights : (h : SeqHop) (l : SeqAlt) (rs : List SeqAlt) (r : ℕ) → r < length rs
    → nth (join_rights h l rs) r ≡ joined h l (nth rs r)
unfolding nth
nth_rights h l [] r p = absurd (omega arith)
nth_rights h l (x ∷ rs) zero p = refl
nth_rights h l (x ∷ rs) (suc r) p = nth_rights h l rs r (omega arith)

-- Left slower than right.
pub nth_lefts : (h : SeqHop) (ls rs : List SeqAlt) (l r : ℕ) → l < length ls → r < length rs
    → nth (join_lefts h ls rs) (l * length rs + r) ≡ joined h (nth ls l) (nth rs r)
nth_lefts h [] rs l r p q = absurd (omega arith)
nth_lefts h (x ∷ ls) rs zero r p q =
    let e : 0 * length rs + r ≡ r = omega arith in
    rw e (nth_front (join_rights h x rs) (join_lefts h ls rs) r (omega (arith, length_rights h x rs)) ∙ nth_rights h x rs r q
    ∙ ap (λ (z : SeqAlt). joined h z (nth rs r)) (nth_first x ls))
nth_lefts h (x ∷ ls) rs (suc l) r p q =
    let e : suc l * length rs + r ≡ length (join_rights h x rs) + (l * length rs + r) = omega (arith, length_rights h x rs) in
    rw e (nth_back (join_rights h x rs) (join_lefts h ls rs) (l * length rs + r) ∙ nth_lefts h ls rs l r (omega arith) q
    ∙ ap (λ (z : SeqAlt). joined h z (nth rs r)) (nth_next x ls l))

-- The alternatives of joined lists are numbered with the hops slowest.
pub nth_hops : (hs : List SeqHop) (ls rs : List SeqAlt) (k l r : ℕ) → k < length hs → l < length ls → r < length rs
    → nth (join_hops hs ls rs) (k * (length ls * length rs) + (l * length rs + r)) ≡ joined (get_or hs k (Fixed 0)) (nth ls l) (nth rs r)
nth_hops [] ls rs k l r o p q = absurd (omega arith)
nth_hops (h ∷ hs) ls rs zero l r o p q =
    let e : 0 * (length ls * length rs) + (l * length rs + r) ≡ l * length rs + r = omega arith in
    let b : suc l * length rs ≤ length ls * length rs = mul-le-mul (omega arith) (le_refl (length rs)) in
    rw e (nth_front (join_lefts h ls rs) (join_hops hs ls rs) (l * length rs + r) (omega (arith, length_lefts h ls rs)) ∙ nth_lefts h ls rs l r p q)
nth_hops (h ∷ hs) ls rs (suc k) l r o p q =
    let i : ℕ = k * (length ls * length rs) + (l * length rs + r) in
    let e : suc k * (length ls * length rs) + (l * length rs + r) ≡ length (join_lefts h ls rs) + i = omega (arith, length_lefts h ls rs) in
    rw e (nth_back (join_lefts h ls rs) (join_hops hs ls rs) i ∙ nth_hops hs ls rs k l r (omega arith) p q)

-- The hops of a range go up by 1.
pub nth_fixed_from : (m count k : ℕ) → k < count → get_or (fixed_from m count) k (Fixed 0) ≡ Fixed (m + k)
nth_fixed_from m zero k h = absurd (omega arith)
nth_fixed_from m (suc count) zero h = ap Fixed (sym (add-zero m))
nth_fixed_from m (suc count) (suc k) h = nth_fixed_from (suc m) count k (omega arith) ∙ ap Fixed (omega arith)

-- A guard changes no number.
pub nth_guarded : (c : ℕ) (ys : List SeqAlt) (i : ℕ) → i < length ys
    → nth (guard_each c ys) i ≡ alternative (nth ys i).steps (and_opt (nth ys i).guard (guard (any (a· c))))
unfolding nth
nth_guarded c [] i h = absurd (omega arith)
nth_guarded c (y ∷ ys) zero h = refl
nth_guarded c (y ∷ ys) (suc i) h = nth_guarded c ys i (omega arith)

-- ---- by division

-- A number is its hop, left and right digit.
digits : (i a b : ℕ) → i ≡ i / b / a * (a * b) + (i / b % a * b + i % b)
digits i a b =
    let e : (i / b / a * a + i / b % a) * b ≡ i / b * b = ap (λ (z : ℕ). z * b) (div-add-mod' (i / b) a) in
    omega (arith, div-add-mod' i b)

-- Each digit is below its base.
pub record Digits (i hops a b : ℕ) : Type 0 where
  pub hop : i / b / a < hops
  pub left : i / b % a < a
  pub right : i % b < b

pub digits_below : (i hops a b : ℕ) → 0 < a → 0 < b → i < hops * (a * b) → Digits i hops a b
digits_below i hops a b p q h = record {
  hop = (div-lt_iff_lt-mul {k = a} {x = i / b} {y = hops} p).1 ((div-lt_iff_lt-mul {k = b} {x = i} {y = hops * a} q).1 (omega arith));
  left = mod-lt (i / b) p;
  right = mod-lt i q;
}

-- Alternative i of a delay: "The hop varies slowest, then the left's alternative, then the right's".
pub nth_delay : (hs : List SeqHop) (ls rs : List SeqAlt) (i : ℕ) → 0 < length ls → 0 < length rs → i < length (join_hops hs ls rs)
    → nth (join_hops hs ls rs) i ≡ joined (get_or hs (i / length rs / length ls) (Fixed 0)) (nth ls (i / length rs % length ls)) (nth rs (i % length rs))
nth_delay hs ls rs i p q h =
    let d = digits_below i (length hs) (length ls) (length rs) p q (omega (arith, length-join_hops hs ls rs)) in
    ap (nth (join_hops hs ls rs)) (digits i (length ls) (length rs)) ∙ nth_hops hs ls rs _ _ _ d.hop d.left d.right

-- Number i of k + 2 copies leaves number i / length base of k + 1 copies.
pub copies_index : (base : List SeqAlt) (k i : ℕ) → 0 < length base → i < length (copies base (suc k))
    → i / length base < length (copies base k)
copies_index base k i p h =
    (div-lt_iff_lt-mul {k = length base} {x = i} {y = length (copies base k)} p).1 (omega (arith, length_lefts (Fixed 1) (copies base k) base))

-- Alternative i of k + 2 copies: "the earlier a copy, the slower it varies".
pub nth_copies : (base : List SeqAlt) (k i : ℕ) → 0 < length base → i < length (copies base (suc k))
    → nth (copies base (suc k)) i ≡ joined (Fixed 1) (nth (copies base k) (i / length base)) (nth base (i % length base))
nth_copies base k i p h =
    ap (nth (copies base (suc k))) (sym (div-add-mod' i (length base)))
    ∙ nth_lefts (Fixed 1) (copies base k) base (i / length base) (i % length base) (copies_index base k i p h) (mod-lt i p)

-- Number i of the blocks of k + 1, k + 2 .. k + 1 + more copies is a number of the block that `block_of` finds.
pub record InBlock (base : List SeqAlt) (y : SeqAlt) (highest all : ℕ) (b : Block) : Type 0 where
  pub same : y ≡ nth (copies base b.later) b.index
  pub index : b.index < length (copies base b.later)
  pub few : b.later ≤ highest
  pub part : length (copies base b.later) ≤ all

pub nth_block : (base : List SeqAlt) (k more i : ℕ) → i < length (copies_from base k (suc more))
    → InBlock base (nth (copies_from base k (suc more)) i) (k + more) (length (copies_from base k (suc more))) (block_of (length base) k more i)
unfolding block_of pick
nth_block base k zero i h =
    let e : length (copies base k ++ []) ≡ length (copies base k) + 0 = length-append (copies base k) [] in
    record { same = nth_front (copies base k) [] i (omega arith); index = omega arith; few = omega arith; part = omega arith }
nth_block base k (suc more) i h = go (ltb i c) refl (λ p. nth_block base (suc k) more (i - c) p)
  where
    c : ℕ
    c = copies_count (length base) k

    rest : List SeqAlt
    rest = copies_from base (suc k) (suc more)

    next : Block
    next = block_of (length base) (suc k) more (i - c)

    go : (t : Bool) → ltb i c ≡ t → (i - c < length rest → InBlock base (nth rest (i - c)) (suc k + more) (length rest) next)
        → InBlock base (nth (copies base k ++ rest) i) (k + suc more) (length (copies base k ++ rest)) (pick t (record { later = k; index = i }) next)
    go true e ih =
        let q : i < length (copies base k) = omega (arith, ltb-true i c e, length-copies base k) in
        record { same = nth_front (copies base k) rest i q; index = q; few = omega arith; part = omega (arith, length-append (copies base k) rest) }
    go false e ih =
        let q : c ≤ i = ltb-false i c e in
        let w : i ≡ length (copies base k) + (i - c) = omega (arith, length-copies base k) in
        let there = ih (omega (arith, length-append (copies base k) rest, length-copies base k)) in
        record {
          same = ap (nth (copies base k ++ rest)) w ∙ nth_back (copies base k) rest (i - c) ∙ there.same;
          index = there.index;
          few = omega (arith, there.few);
          part = omega (arith, there.part, length-append (copies base k) rest);
        }

-- ---- repetitions

-- SPECIFICATION, "Alternatives": "the larger of m and 1".
pub at_least_one : (m : ℕ) → suc (below m) ≡ m - 1 + 1
at_least_one m = omega (arith, below_is_one_less m)

pub no_empty : (m : ℕ) → (m ≡ 0 → ⊥) → empties m ≡ 0
unfolding empties
no_empty m h = pick_false _ _ (ne_eqb m 0 h)

-- A finite [*m:x] that has copies: its Empty, then the blocks.
pub finite_blocks : (base : List SeqAlt) (m x : ℕ) → 0 < x
    → consec_finite base m x ≡ with_empty m (copies_from base (m - 1) (x - (m - 1)))
finite_blocks base m zero h = absurd (omega arith)
finite_blocks base m (suc x) h = rw (below_is_one_less m) refl

pub length-with_empty : (m : ℕ) (ys : List SeqAlt) → length (with_empty m ys) ≡ empties m + length ys
unfolding empties pick
length-with_empty zero ys = omega arith
length-with_empty (suc m) ys = omega (arith, no_empty (suc m) (λ (z : suc m ≡ 0). omega arith))

-- The Empty in front, where the minimum is 0, and what stands behind it.
pub nth_empty : (m : ℕ) (ys : List SeqAlt) (i : ℕ) → i < empties m → nth (with_empty m ys) i ≡ single Empty
unfolding empties pick nth
nth_empty zero ys zero h = refl
nth_empty zero ys (suc i) h = absurd (omega arith)
nth_empty (suc m) ys i h = absurd (omega (arith, no_empty (suc m) (λ (z : suc m ≡ 0). omega arith)))

pub nth_past_empty : (m : ℕ) (ys : List SeqAlt) (i : ℕ) → empties m ≤ i → nth (with_empty m ys) i ≡ nth ys (i - empties m)
unfolding empties pick
nth_past_empty zero ys zero h = absurd (omega arith)
nth_past_empty zero ys (suc i) h = let e : suc i - 1 ≡ i = omega arith in rw e (sym (nth_next (single Empty) ys i))
nth_past_empty (suc m) ys i h =
    let e : i - empties (suc m) ≡ i = omega (arith, no_empty (suc m) (λ (z : suc m ≡ 0). omega arith)) in rw e refl

-- Alternative i of a finite [*], where it is the Empty.
pub nth_finite_empty : (base : List SeqAlt) (m x i : ℕ) → m ≤ x → i < empties m → nth (consec_finite base m x) i ≡ single Empty
unfolding nth
nth_finite_empty base m zero zero h k = refl
nth_finite_empty base m zero (suc i) h k = absurd (omega (arith, empties_few m))
nth_finite_empty base m (suc x) i h k =
    rw (finite_blocks base m (suc x) (omega arith)) (nth_empty m (copies_from base (m - 1) (suc x - (m - 1))) i k)

-- Alternative i of a [*m:$]: "an Empty alternative first if m is 0, then one run of at least max(m,1)".
pub nth_unbounded : (m b i : ℕ) → i < length (consec_unbounded m b)
    → nth (consec_unbounded m b) i ≡ single (pick (ltb i (empties m)) Empty (ConsecAtLeast b (m - 1 + 1)))
unfolding pick
nth_unbounded m b i h = go (ltb i (empties m)) refl
  where
    run : List SeqAlt
    run = single (ConsecAtLeast b (suc (below m))) ∷ []

    go : (t : Bool) → ltb i (empties m) ≡ t → nth (consec_unbounded m b) i ≡ single (pick t Empty (ConsecAtLeast b (m - 1 + 1)))
    go true e = nth_empty m run i (ltb-true _ _ e)
    go false e =
        let z : i - empties m ≡ 0 = omega (arith, length-with_empty m run) in
        nth_past_empty m run i (ltb-false _ _ e) ∙ rw (z, at_least_one m) (sym (nth_first _ _))
