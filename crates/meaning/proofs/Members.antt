-- Which alternatives stand in an expansion, list by list; and that there is at least one.
-- Example: those of a joined list are the joins of a member of the left with a member of the right.
-- The last assumes of the tree what refusals 3, 6 and 8 leave, and no throughout.
use mathlib.Core.Path.{◌≡◌, refl, subst}
use mathlib.Core.Logic.Iff
use mathlib.Core.Logic.{◌↔◌, ◌⊎◌, inl, inr}
use mathlib.Core.List.{List, [], ◌∷◌, ◌++◌}
use Prim.Native.Nat.{ℕ, zero, suc, ◌+◌, ◌-◌, ◌≤◌, ◌<◌}
use native.Mathlib.Omega.{arith}
use native.Mathlib.Decide.{ℕ_discrete}
use Rattle.meaning.specs.Tree.{Max, finite, unbounded, Seq, atom, delay, consec, goto, nonconsec, throughout, within, Operand, boolean, other, operand, below}
use Rattle.meaning.specs.Match.{UpTo}
use Rattle.meaning.specs.Lowerable.{IsBoolean}
use Rattle.meaning.specs.Expression.{any, a·}
use Rattle.meaning.specs.Alternative.{guard, and_opt, SeqAlt, alternative, single, joined, join_rights, join_lefts, join_hops, fixed_from, hops, copies, copies_from, with_empty, over, consec_unbounded, guard_each, expand}
use Rattle.meaning.specs.declared.SeqTerm.TheVariants.{Bool as BoolTerm, Goto, Nonconsec, ConsecAtLeast, Empty}
use Rattle.meaning.specs.declared.SeqHop.{SeqHop}
use Rattle.meaning.specs.declared.SeqHop.TheVariants.{Fixed, AtLeast}
use Rattle.meaning.proofs.Acceptable.{In, Regular}
use Rattle.meaning.proofs.Bits.{either_iff, either_assoc, only_the_first}
use Rattle.meaning.proofs.Joining.{Allows}

-- Lists in general.

-- A member of two lists in a row is a member of one of them.
pub in_append : {A : Type 0} (xs ys : List A) (x : A) → In x (xs ++ ys) ↔ (In x xs ⊎ In x ys)
in_append [] ys x = (λ m. inr m, λ m. elim m [ inl p ↦ absurd p | inr q ↦ q ])
in_append (z ∷ xs) ys x = Iff.trans (either_iff Iff.rfl (in_append xs ys x)) (Iff.symm either_assoc)

module _ {A B : Type 0} where
  -- A list F xs that has the list f x for each x.
  in_all : (f : A → List B) (F : List A → List B) → F [] ≡ [] → ((x : A) (xs : List A) → F (x ∷ xs) ≡ f x ++ F xs)
      → (xs : List A) (y : B) → In y (F xs) ↔ ((x : A) × In x xs × In y (f x))
  in_all f F none more [] y = rw none (λ m. absurd m, λ (x, m, e). absurd m)
  in_all f F none more (z ∷ xs) y =
      let rest = in_all f F none more xs y in
      rw (more z xs) (Iff.trans (in_append (f z) (F xs) y) (outward rest, inward rest))
    where
      Rest : Type 0
      Rest = In y (F xs) ↔ ((x : A) × In x xs × In y (f x))

      outward : Rest → In y (f z) ⊎ In y (F xs) → (x : A) × In x (z ∷ xs) × In y (f x)
      outward rest (inl m) = (z, inl refl, m)
      outward rest (inr m) = let (x, p, q) = rest.0 m in (x, inr p, q)

      inward : Rest → (x : A) × In x (z ∷ xs) × In y (f x) → In y (f z) ⊎ In y (F xs)
      inward rest (x, inl w, m) = inl (subst (λ v. In y (f v)) w m)
      inward rest (x, inr p, m) = inr (rest.1 (x, p, m))

  -- A list F xs that has f x for each x.
  in_each : (f : A → B) (F : List A → List B) → F [] ≡ [] → ((x : A) (xs : List A) → F (x ∷ xs) ≡ f x ∷ F xs)
      → (xs : List A) (y : B) → In y (F xs) ↔ ((x : A) × In x xs × (y ≡ f x))
  in_each f F none more xs y =
      let lists = in_all (λ x. f x ∷ []) F none more xs y in (
        λ m. let (x, p, q) = lists.0 m in (x, p, (only_the_first (λ b. b)).0 q),
        λ (x, p, e). lists.1 (x, p, inl e),
      )

-- A list F k n that has the lists f k, f (k + 1), .. for n numbers.
in_numbered : {B : Type 0} (f : ℕ → List B) (F : ℕ → ℕ → List B) → ((k : ℕ) → F k zero ≡ [])
    → ((k n : ℕ) → F k (suc n) ≡ f k ++ F (suc k) n)
    → (k n : ℕ) (y : B) → In y (F k n) ↔ ((c : ℕ) × (k ≤ c) × (c < k + n) × In y (f c))
in_numbered f F none more k zero y = rw (none k) (λ m. absurd m, λ (c, l, u, m). absurd (omega arith))
in_numbered f F none more k (suc n) y =
    let rest = in_numbered f F none more (suc k) n y in
    rw (more k n) (Iff.trans (in_append (f k) (F (suc k) n) y) (outward rest, inward rest))
  where
    Rest : Type 0
    Rest = In y (F (suc k) n) ↔ ((c : ℕ) × (suc k ≤ c) × (c < suc k + n) × In y (f c))

    outward : Rest → In y (f k) ⊎ In y (F (suc k) n) → (c : ℕ) × (k ≤ c) × (c < k + suc n) × In y (f c)
    outward rest (inl m) = (k, omega arith, omega arith, m)
    outward rest (inr m) = let (c, l, u, q) = rest.0 m in (c, omega arith, omega arith, q)

    inward : Rest → (c : ℕ) × (k ≤ c) × (c < k + suc n) × In y (f c) → In y (f k) ⊎ In y (F (suc k) n)
    inward rest (c, l, u, m) =
        elim (ℕ_discrete c k) [ yes w ↦ inl (subst (λ v. In y (f v)) w m) | no w ↦ inr (rest.1 (c, omega arith, omega arith, m)) ]

-- The lists of an expansion.

-- Each left with each right.
pub in_join_lefts : (h : SeqHop) (ls rs : List SeqAlt) (y : SeqAlt)
    → In y (join_lefts h ls rs) ↔ ((l r : SeqAlt) × In l ls × In r rs × (y ≡ joined h l r))
in_join_lefts h ls rs y = (
  λ m. let (l, p, q) = lefts.0 m in let (r, p', e) = (rights l).0 q in (l, r, p, p', e),
  λ (l, r, p, p', e). lefts.1 (l, p, (rights l).1 (r, p', e)),
)
  where
    rights : (l : SeqAlt) → In y (join_rights h l rs) ↔ ((r : SeqAlt) × In r rs × (y ≡ joined h l r))
    rights l = in_each (joined h l) (join_rights h l) refl (λ r rs. refl) rs y

    lefts : In y (join_lefts h ls rs) ↔ ((l : SeqAlt) × In l ls × In y (join_rights h l rs))
    lefts = in_all (λ l. join_rights h l rs) (λ ls. join_lefts h ls rs) refl (λ l ls. refl) ls y

-- The member that two members make.
pub joined_in : (h : SeqHop) (ls rs : List SeqAlt) (l r : SeqAlt) → In l ls → In r rs → In (joined h l r) (join_lefts h ls rs)
joined_in h ls rs l r p q = (in_join_lefts h ls rs (joined h l r)).1 (l, r, p, q, refl)

-- The members of lists joined over each of several hops.
pub in_join_hops : (hs : List SeqHop) (ls rs : List SeqAlt) (y : SeqAlt)
    → In y (join_hops hs ls rs) ↔ ((h : SeqHop) × In h hs × In y (join_lefts h ls rs))
in_join_hops hs ls rs y = in_all (λ h. join_lefts h ls rs) (λ hs. join_hops hs ls rs) refl (λ h hs. refl) hs y

-- The hops of a finite range.
in_fixed_from : (m n : ℕ) (h : SeqHop) → In h (fixed_from m n) ↔ ((d : ℕ) × (m ≤ d) × (d < m + n) × (h ≡ Fixed d))
in_fixed_from m n h =
    let lists = in_numbered (λ d. Fixed d ∷ []) fixed_from (λ d. refl) (λ d n. refl) m n h in (
      λ i. let (d, l, u, q) = lists.0 i in (d, l, u, (only_the_first (λ b. b)).0 q),
      λ (d, l, u, e). lists.1 (d, l, u, inl e),
    )

-- The hops of a range allow exactly the delays of the range.
pub hops_allow_the_range : (m : ℕ) (x : Max) (d : ℕ) → ((h : SeqHop) × In h (hops m x) × Allows h d) ↔ ((m ≤ d) × UpTo d x)
hops_allow_the_range m (finite n) d = (
  λ (h, i, a). let (c, l, u, e) = (in_fixed_from m (suc n - m) h).0 i in
      let w : d ≡ c = subst (λ z. Allows z d) e a in
      (omega arith, omega arith),
  λ (l, u). (Fixed d, (in_fixed_from m (suc n - m) (Fixed d)).1 (d, l, omega arith, refl), refl),
)
hops_allow_the_range m unbounded d = (outward, λ (l, u). (AtLeast m, inl refl, l))
  where
    outward : (h : SeqHop) × In h (AtLeast m ∷ []) × Allows h d → (m ≤ d) × Unit {0}
    outward (h, inl e, a) = (subst (λ z. Allows z d) e a, tt)
    outward (h, inr i, a) = absurd i

-- k + 1 copies up to k + n.
pub in_copies_from : (base : List SeqAlt) (k n : ℕ) (y : SeqAlt)
    → In y (copies_from base k n) ↔ ((c : ℕ) × (k ≤ c) × (c < k + n) × In y (copies base c))
in_copies_from base k n y = in_numbered (copies base) (copies_from base) (λ k. refl) (λ k n. refl) k n y

-- Empty stands in front where m is 0.
pub in_with_empty : (m : ℕ) (alts : List SeqAlt) (y : SeqAlt)
    → In y (with_empty m alts) ↔ (((y ≡ single Empty) × (m ≡ 0)) ⊎ In y alts)
in_with_empty zero alts y = (
  λ p. elim p [ inl e ↦ inl (e, refl) | inr q ↦ inr q ],
  λ p. elim p [ inl e ↦ inl e.0 | inr q ↦ inr q ],
)
in_with_empty (suc m) alts y = (λ p. inr p, λ p. elim p [ inl e ↦ absurd (omega (arith, e.1)) | inr q ↦ q ])

-- An alternative under one condition more.
abbrev pub guarded_by : ℕ → SeqAlt → SeqAlt
guarded_by c y = alternative y.steps (and_opt y.guard (guard (any (a· c))))

-- Each alternative, under the condition c too.
pub in_guard_each : (c : ℕ) (alts : List SeqAlt) (z : SeqAlt)
    → In z (guard_each c alts) ↔ ((y : SeqAlt) × In y alts × (z ≡ guarded_by c y))
in_guard_each c alts z = in_each (guarded_by c) (guard_each c) refl (λ y ys. refl) alts z

-- What holds of the alternatives over any Boolean holds over the operand of goto, nonconsecutive and [*m:$].
pub over_a_boolean : (o : Operand) → IsBoolean o → (f : ℕ → List SeqAlt) (P : List SeqAlt → Type 0) → ((b : ℕ) → P (f b)) → P (over o f)
over_a_boolean (boolean b) B f P p = p b
over_a_boolean other B f P p = absurd B

-- One less, and 0 of 0.
pub below_is_one_less : (m : ℕ) → below m ≡ m - 1
below_is_one_less zero = refl
below_is_one_less (suc m) = omega arith

-- max(m,1) is `suc (below m)`: it is not above n where m is not and n is 1 or more; it is not below m; and it is m from 1 on.
pub below_is_less : (m n : ℕ) → m ≤ suc n → below m < suc n
below_is_less zero n l = omega arith
below_is_less (suc m) n l = omega arith

pub below_is_at_most_1_less : (m : ℕ) → m ≤ suc (below m)
below_is_at_most_1_less zero = omega arith
below_is_at_most_1_less (suc m) = omega arith

pub count_from_1 : (k : ℕ) → 1 ≤ k → suc (below k) ≡ k
count_from_1 zero l = omega arith
count_from_1 (suc k) l = refl

-- There is a member.
abbrev pub Some : List SeqAlt → Type 0
Some alts = (y : SeqAlt) × In y alts

-- Copies of a list that has a member have one.
pub there_is_a_copy : (base : List SeqAlt) (c : ℕ) → Some base → Some (copies base c)
there_is_a_copy base zero o = o
there_is_a_copy base (suc c) (r, q) =
    let (l, p) = there_is_a_copy base c (r, q) in (joined (Fixed 1) l r, joined_in (Fixed 1) (copies base c) base l r p q)

-- A tree has an alternative.
pub there_is_an_alternative : (s : Seq) → Regular s → Some (expand s)
there_is_an_alternative (atom n a) k = (single (BoolTerm a), inl refl)
there_is_an_alternative (delay n l r m x) k =
    let (h, i, a) = (hops_allow_the_range m x m).1 (omega arith, k.2) in
    let (y, p) = there_is_an_alternative l k.0 in
    let (z, q) = there_is_an_alternative r k.1 in
    (joined h y z, (in_join_hops (hops m x) (expand l) (expand r) (joined h y z)).1 (h, i, joined_in h (expand l) (expand r) y z p q))
there_is_an_alternative (consec n s m (finite zero)) k = (single Empty, inl refl)
there_is_an_alternative (consec n s m (finite (suc x))) k =
    let (y, p) = there_is_a_copy (expand s) (below m) (there_is_an_alternative s k.0) in
    let some_copies = copies_from (expand s) (below m) (suc x - below m) in
    let q = (in_copies_from (expand s) (below m) (suc x - below m) y).1 (below m, omega arith, omega (arith, below_is_less m x k.1), p) in
    (y, (in_with_empty m some_copies y).1 (inr q))
there_is_an_alternative (consec n s m unbounded) k =
    over_a_boolean (operand s) k (consec_unbounded m) Some
    (λ b. (single (ConsecAtLeast b (suc (below m))), (in_with_empty m _ _).1 (inr (inl refl))))
there_is_an_alternative (goto n s k) q =
    over_a_boolean (operand s) q.0 (λ b. single (Goto b k) ∷ []) Some (λ b. (single (Goto b k), inl refl))
there_is_an_alternative (nonconsec n s k) q =
    over_a_boolean (operand s) q.0 (λ b. single (Nonconsec b k) ∷ []) Some (λ b. (single (Nonconsec b k), inl refl))
there_is_an_alternative (throughout n c s) k = absurd k
there_is_an_alternative (within n s₁ s₂) k = absurd k
