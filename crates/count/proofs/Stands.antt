-- Capped counts stand for lists of alternatives: what 10 and 11 decide by them is what they would decide by the list. Each
-- operation on counts follows one on alternatives, so that the counts of a node stand for its expansion.
use mathlib.Core.Path.{◌≡◌, refl, sym, ap, ◌∙◌}
use mathlib.Core.Bool.{Bool, true, false}
use mathlib.Core.List.{List, [], ◌∷◌, ◌++◌, append-nil, append_assoc}
use Prim.Native.Nat.{ℕ, zero, suc, ◌+◌, ◌*◌, ◌-◌, ◌≤◌, ◌<◌}
use native.Mathlib.Nat.{mul-le-mul}
use native.Mathlib.Omega.{arith}
use lib.Dec.{ltb}
use lib.ListN.{length}
use borrow.Author.Tests.{ltb-true, ltb-false, lt-ltb, ne_eqb}
use Rattle.words.specs.Choice.{pick, pick_case, pick_cong, pick_true}
use Rattle.meaning.specs.Tree.{finite, unbounded, below}
use Rattle.meaning.specs.Alternative.{SeqAlt, single, join_lefts, join_hops, hops, copies, copies_from, with_empty, consec_finite, guard_each}
use Rattle.meaning.specs.Refusals.{entries, is_bool, plain, guarded, counts, limited}
use Rattle.meaning.specs.declared.Counts.{Counts}
use Rattle.meaning.specs.declared.SeqTerm.{SeqTerm}
use Rattle.meaning.specs.declared.SeqTerm.TheVariants.{Empty}
use Rattle.meaning.specs.declared.SeqHop.TheVariants.{Fixed}
use Rattle.meaning.proofs.Counting.{alternatives_of, entries_of, tally_append, tally_lefts, tally_delay, throughout_tallied}
use Rattle.meaning.proofs.Flags.{AllLed, some_copies, plain_append, guarded_append, plain_lefts, guarded_lefts, plain_delay, guarded_delay, at_least_is_not_plain, plain_guards, guarded_guards}
use Rattle.count.specs.Capped.{counts_of, nothing, other_term, capped, product, sum, times, copied, summed, with_empty as empty_counted, not_plain, guarded_each}
use Rattle.count.specs.Nodes.{limit}

-- Numbers of alternatives and entries, and others that decide the same: both too many alternatives; as many, and both too
-- many entries; or the same numbers.
pub data Same (a e a' e' : ℕ) : Type 0 where
  many : 256 < a → 256 < a' → Same a e a' e'
  large : a ≡ a' → 65536 < e → 65536 < e' → Same a e a' e'
  exact : a ≡ a' → e ≡ e' → Same a e a' e'

-- Stopping at the bounds decides the same.
stopped : {a e : ℕ} (a' e' : ℕ) (p g : Bool) → Same a e a' e' → Same a e (capped a' e' p g).alternatives (capped a' e' p g).entries
unfolding capped
stopped {a} {e} a' e' p g same = pick_case Is (ltb 256 a') (λ q. over same (ltb-true 256 a' q)) (λ q. pick_case Is (ltb 65536 e') (λ z. full same (ltb-false 256 a' q) (ltb-true 65536 e' z)) (λ z. within same (ltb-false 256 a' q) (ltb-false 65536 e' z)))
  where
    Is : Counts → Type 0
    Is c = Same a e c.alternatives c.entries

    over : Same a e a' e' → 256 < a' → Same a e 257 0
    over (many h h') q = many h (omega arith)
    over (large i h h') q = many (omega arith) (omega arith)
    over (exact i j) q = many (omega arith) (omega arith)

    full : Same a e a' e' → a' ≤ 256 → 65536 < e' → Same a e a' 65537
    full (many h h') q z = absurd (omega arith)
    full (large i h h') q z = large i h (omega arith)
    full (exact i j) q z = large i (omega arith) (omega arith)

    within : Same a e a' e' → a' ≤ 256 → e' ≤ 65536 → Same a e a' e'
    within s q z = s

-- Capping leaves the flags as they are.
capped_flags : (a e : ℕ) (p g : Bool) → ((capped a e p g).plain ≡ p) × ((capped a e p g).guarded ≡ g)
unfolding capped
capped_flags a e p g = pick_case Kept (ltb 256 a) (λ _. (refl, refl)) (λ _. pick_case Kept (ltb 65536 e) (λ _. (refl, refl)) (λ _. (refl, refl)))
  where
    Kept : Counts → Type 0
    Kept c = (c.plain ≡ p) × (c.guarded ≡ g)

-- A number past a bound, times at least 1, is past it.
past : {bound x z : ℕ} → bound < x → 1 ≤ z → bound < x * z
past {bound} {x} {z} h some = let m : suc bound * 1 ≤ x * z = mul-le-mul h some in omega arith

past_right : {bound x z : ℕ} → 1 ≤ z → bound < x → bound < z * x
past_right {bound} {x} {z} some h = let m : 1 * suc bound ≤ z * x = mul-le-mul some h in omega arith

-- A product with something large on the left or on the right, plus anything.
large_left : {x z : ℕ} (y : ℕ) → 65536 < x → 1 ≤ z → 65536 < x * z + y
large_left y h some = let m = past h some in omega arith

large_right : {x z : ℕ} (y : ℕ) → 65536 < x → 1 ≤ z → 65536 < y + z * x
large_right y h some = let m = past_right some h in omega arith

-- A number that decides as one from 1 on is from 1 on.
positive : {b f b' f' : ℕ} → 1 ≤ b → Same b f b' f' → 1 ≤ b'
positive some (many k k') = omega arith
positive some (large i k k') = omega arith
positive some (exact i j) = omega arith

-- Products decide the same, where there is something to multiply.
module _ {a e a' e' b f b' f' : ℕ} (some_a : 1 ≤ a) (some_b : 1 ≤ b) where
  same_products : Same a e a' e' → Same b f b' f' → Same (a * b) (e * b + a * f) (a' * b') (e' * b' + a' * f')
  same_products (many h h') y = many (past h some_b) (past h' (positive some_b y))
  same_products (large i h h') (many k k') = many (past_right some_a k) (past_right (rw i at some_a) k')
  same_products (large i h h') (large j k k') = large (rw (i, j) refl) (large_left _ h some_b) (large_left _ h' (rw j at some_b))
  same_products (large i h h') (exact j k) = large (rw (i, j) refl) (large_left _ h some_b) (large_left _ h' (rw j at some_b))
  same_products (exact i j) (many k k') = many (past_right some_a k) (past_right (rw i at some_a) k')
  same_products (exact i j) (large m k k') = large (rw (i, m) refl) (large_right _ k some_a) (large_right _ k' (rw i at some_a))
  same_products (exact i j) (exact k l) = exact (rw (i, k) refl) (rw (i, j, k, l) refl)

-- Sums of numbers that decide the same decide the same.
same_sums : {a e a' e' b f b' f' : ℕ} → Same a e a' e' → Same b f b' f' → Same (a + b) (e + f) (a' + b') (e' + f')
same_sums (many h h') y = many (omega arith) (omega arith)
same_sums (large i h h') (many k k') = many (omega arith) (omega arith)
same_sums (large i h h') (large j k k') = large (omega arith) (omega arith) (omega arith)
same_sums (large i h h') (exact j k) = large (omega arith) (omega arith) (omega arith)
same_sums (exact i j) (many k k') = many (omega arith) (omega arith)
same_sums (exact i j) (large m k k') = large (omega arith) (omega arith) (omega arith)
same_sums (exact i j) (exact k l) = exact (omega arith) (omega arith)

-- Multiples of numbers that decide the same decide the same.
same_multiples : {a e a' e' : ℕ} (n : ℕ) → 1 ≤ n → Same a e a' e' → Same (n * a) (n * e) (n * a') (n * e')
same_multiples n some (many h h') = many (past_right some h) (past_right some h')
same_multiples n some (large i h h') = large (rw i refl) (past_right some h) (past_right some h')
same_multiples n some (exact i j) = exact (rw i refl) (rw j refl)

-- The counts stand for the alternatives.
pub record Stands (c : Counts) (alts : List SeqAlt) : Type 0 where
  pub numbers : Same (length alts) (entries alts) c.alternatives c.entries
  pub plainly : c.plain ≡ plain alts
  pub guardedly : c.guarded ≡ guarded alts

-- Counts of the alternatives themselves do.
pub counts_stand : {c : Counts} {alts : List SeqAlt} → c ≡ counts alts → Stands c alts
unfolding counts
counts_stand e = record { numbers = exact (sym (ap (λ (c : Counts). c.alternatives) e)) (sym (ap (λ (c : Counts). c.entries) e)); plainly = ap (λ (c : Counts). c.plain) e; guardedly = ap (λ (c : Counts). c.guarded) e }

-- Capped numbers stand for alternatives, where the numbers decide the same as theirs.
capped_stands : {alts : List SeqAlt} {a e : ℕ} {p g : Bool} → Same (length alts) (entries alts) a e → p ≡ plain alts → g ≡ guarded alts → Stands (capped a e p g) alts
capped_stands {alts} {a} {e} {p} {g} same pl gu = record { numbers = stopped a e p g same; plainly = flags.0 ∙ pl; guardedly = flags.1 ∙ gu }
  where
    flags : ((capped a e p g).plain ≡ p) × ((capped a e p g).guarded ≡ g)
    flags = capped_flags a e p g

-- Equal numbers decide the same.
along : {a e b f a' e' : ℕ} → a ≡ b → e ≡ f → Same b f a' e' → Same a e a' e'
along i j s = rw (i, j) s

-- 10 and 11 decide by counts what they decide by numbers that decide the same.
limit_same : (room n : ℕ) {a e : ℕ} {p g : Bool} {c : Counts} → room ≤ 65536 → Same a e c.alternatives c.entries → c.plain ≡ p → c.guarded ≡ g
    → limit room n c ≡ limit room n (counts_of a e p g)
unfolding limit
limit_same room n h (many k k') q z = pick_true _ _ (lt-ltb _ _ k') ∙ sym (pick_true _ _ (lt-ltb _ _ k))
limit_same room n {a} {e} {p} {g} {c} h (large i k k') q z =
    let over : room < c.entries = omega arith in
    let over' : room < e = omega arith in
    rw (sym i) (pick_cong (ltb 256 a) (λ _. refl) (λ _. pick_true _ _ (lt-ltb _ _ over) ∙ sym (pick_true _ _ (lt-ltb _ _ over'))))
limit_same room n {a} {e} {p} {g} {c} h (exact i j) q z =
    let is : c ≡ counts_of a e p g = λ k. counts_of (sym i k) (sym j k) (q k) (z k) in rw is refl

-- 10 and 11 decide by capped numbers what they decide by the numbers.
pub limit_capped : (room n a e : ℕ) (p g : Bool) → room ≤ 65536 → limit room n (capped a e p g) ≡ limit room n (counts_of a e p g)
limit_capped room n a e p g h = limit_same room n h (stopped a e p g (exact refl refl)) (capped_flags a e p g).0 (capped_flags a e p g).1

-- 10 and 11 decide by counts what they decide by the list for which the counts stand.
pub limit_stands : (room n : ℕ) {c : Counts} {alts : List SeqAlt} → room ≤ 65536 → Stands c alts → limit room n c ≡ limited room n alts
unfolding limit limited counts
limit_stands room n h s = limit_same room n h s.numbers s.plainly s.guardedly

-- Every left with every right, for one fixed hop.
pub product_stands : (d : ℕ) {l r : Counts} {ls rs : List SeqAlt} → Stands l ls → Stands r rs → 1 ≤ length ls → 1 ≤ length rs → AllLed rs
    → Stands (product l r) (join_lefts (Fixed d) ls rs)
unfolding product
product_stands d {l} {r} {ls} {rs} x y some_l some_r led =
    let t = tally_lefts (Fixed d) ls rs in
    capped_stands (along (ap alternatives_of t) (ap entries_of t) (same_products some_l some_r x.numbers y.numbers))
    (rw (x.plainly, y.plainly) (sym (plain_lefts ls rs some_l some_r d led)))
    (rw (x.guardedly, y.guardedly) (sym (guarded_lefts ls rs some_l some_r (Fixed d))))

-- One list after another.
pub sum_stands : {l r : Counts} {xs ys : List SeqAlt} → Stands l xs → Stands r ys → Stands (sum l r) (xs ++ ys)
unfolding sum
sum_stands {l} {r} {xs} {ys} x y =
    let t = tally_append xs ys in
    capped_stands (along (ap alternatives_of t) (ap entries_of t) (same_sums x.numbers y.numbers))
    (rw (x.plainly, y.plainly) (sym (plain_append xs ys)))
    (rw (x.guardedly, y.guardedly) (sym (guarded_append xs ys)))

-- Nothing, and the one alternative of a term that is no Bool.
nothing_stands : Stands nothing []
nothing_stands = record { numbers = exact refl refl; plainly = refl; guardedly = refl }

-- One alternative of a term that is no Bool.
pub other_term_stands : (x : SeqTerm) → is_bool x ≡ false → Stands other_term (single x ∷ [])
unfolding pick
other_term_stands x e = record { numbers = exact refl refl; plainly = rw e refl; guardedly = refl }

-- Counts with the Empty of a minimum of 0 stand for the alternatives with it.
pub with_empty_stands : (m : ℕ) {c : Counts} {alts : List SeqAlt} → Stands c alts → Stands (empty_counted m c) (with_empty m alts)
unfolding empty_counted pick
with_empty_stands zero s = sum_stands (other_term_stands Empty refl) s
with_empty_stands (suc m) s = rw (ne_eqb (suc m) 0 (λ e. omega arith)) s

-- The numbers of a product decide the same as those of the joined lists.
product_numbers : {ls rs : List SeqAlt} (l r : Counts) → Stands l ls → Stands r rs → 1 ≤ length ls → 1 ≤ length rs
    → Same (length ls * length rs) (entries ls * length rs + length ls * entries rs) (product l r).alternatives (product l r).entries
unfolding product
product_numbers l r x y some_l some_r = stopped _ _ _ _ (same_products some_l some_r x.numbers y.numbers)

-- The flags of a product are joined and not capped.
product_plain : (l r : Counts) → (product l r).plain ≡ pick l.plain r.plain false
unfolding product
product_plain l r = (capped_flags _ _ _ _).0

product_guarded : (l r : Counts) → (product l r).guarded ≡ pick l.guarded true r.guarded
unfolding product
product_guarded l r = (capped_flags _ _ _ _).1

-- A base and its counts.
module _ (base : List SeqAlt) (b : Counts) (stands : Stands b base) (some : 1 ≤ length base) (led : AllLed base) where
  one_copy_more : (j : ℕ) {x : Counts} → Stands x (copies base j) → Stands (product x b) (copies base (suc j))
  one_copy_more j s = product_stands 1 s stands (some_copies base j some) some led

  -- Counts that stand for copies stand for k copies more.
  copied_stands : (j k : ℕ) {x : Counts} → Stands x (copies base j) → Stands (copied b x k) (copies base (k + j))
  unfolding copied
  copied_stands j zero s = let e : 0 + j ≡ j = omega arith in rw e s
  copied_stands j (suc k) s = let e : suc k + j ≡ k + suc j = omega arith in rw e (copied_stands (suc j) k (one_copy_more j s))

  -- The sum of counts that stand for copies stands for the copies in a row.
  summed_stands : (j count : ℕ) {total x : Counts} {xs : List SeqAlt} → Stands total xs → Stands x (copies base j)
      → Stands (summed b total x count) (xs ++ copies_from base j count)
  unfolding summed
  summed_stands j zero {xs = xs} s c = rw (append-nil xs) s
  summed_stands j (suc count) {xs = xs} s c =
      rw (← append_assoc xs (copies base j) (copies_from base (suc j) count)) (summed_stands (suc j) count (sum_stands s c) (one_copy_more j c))

  -- A finite [*m:x], x not 0.
  pub consec_stands : (m x : ℕ) → (x ≡ 0 → ⊥) → Stands (empty_counted m (summed b nothing (copied b b (below m)) (x - below m))) (consec_finite base m x)
  consec_stands m zero f = absurd (f refl)
  consec_stands m (suc x) f =
      let first = let e : below m + 0 ≡ below m = omega arith in rw e at (copied_stands 0 (below m) stands) in
      with_empty_stands m (summed_stands (below m) (suc x - below m) nothing_stands first)

-- The counts of a delay stand for its operands joined by each fixed hop from m to x.
module _ (ls rs : List SeqAlt) (l r : Counts) (s : Stands l ls) (q : Stands r rs) (some_l : 1 ≤ length ls) (some_r : 1 ≤ length rs) (led : AllLed rs) where
  pub fixed_stands : (m x : ℕ) → m ≤ x → Stands (times (x - m + 1) (product l r)) (join_hops (hops m (finite x)) ls rs)
  unfolding times
  fixed_stands m x range =
      let n : suc x - m ≡ x - m + 1 = omega arith in
      let t = tally_delay m (finite x) ls rs in
      let p = product_numbers l r s q some_l some_r in
      let i = ap alternatives_of t ∙ ap (λ (k : ℕ). k * (length ls * length rs)) n in
      let j = ap entries_of t ∙ ap (λ (k : ℕ). k * (entries ls * length rs + length ls * entries rs)) n in
      capped_stands (along i j (same_multiples (x - m + 1) (omega arith) p))
      (product_plain l r ∙ rw (s.plainly, q.plainly) (sym (plain_delay ls rs some_l some_r m x range led)))
      (product_guarded l r ∙ rw (s.guardedly, q.guardedly) (sym (guarded_delay ls rs some_l some_r m (finite x) range)))

  -- The product, not plain, stands for the operands joined by one "at least" hop.
  pub at_least_stands : (m : ℕ) → Stands (not_plain (product l r)) (join_hops (hops m unbounded) ls rs)
  at_least_stands m =
      let t = tally_delay m unbounded ls rs in
      record {
        numbers = along (ap alternatives_of t ∙ once _) (ap entries_of t ∙ once _) (product_numbers l r s q some_l some_r);
        plainly = sym (at_least_is_not_plain ls rs some_l some_r m led);
        guardedly = product_guarded l r ∙ rw (s.guardedly, q.guardedly) (sym (guarded_delay ls rs some_l some_r m unbounded tt));
      }
    where
      once : (n : ℕ) → 1 * n ≡ n
      once n = omega arith

-- The guarded counts of a throughout's operand stand for its guarded alternatives.
pub guarded_each_stands : (c : ℕ) (alts : List SeqAlt) (s : Counts) → Stands s alts → 1 ≤ length alts → Stands (guarded_each s) (guard_each c alts)
unfolding guarded_each
guarded_each_stands c alts s q some =
    let t = throughout_tallied c alts in
    capped_stands (along (ap alternatives_of t) (ap entries_of t) (with_guards q.numbers))
    (q.plainly ∙ sym (plain_guards c alts)) (sym (guarded_guards c alts some))
  where
    with_guards : {a e a' e' : ℕ} → Same a e a' e' → Same a (e + a) a' (e' + a')
    with_guards (many h h') = many h h'
    with_guards (large i h h') = large i (omega arith) (omega arith)
    with_guards (exact i j) = exact i (omega arith)
