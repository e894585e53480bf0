-- Whether a tree matches a run is decided, for every tree, trace and run: whatever `Match` lets one choose lies below the end of the
-- run, so that trying all of it is enough. Only the count of a repetition does not; but where it is past the end, one of the runs
-- is empty and can be left out.
use mathlib.Core.Bool.{Bool, true, false, not}
use mathlib.Core.Path.{subst}
use Prim.Native.Nat.{ℕ, zero, suc, ◌+◌, ◌≤◌, ◌<◌}
use native.Mathlib.Omega.{arith}
use native.Mathlib.Decide.{ℕ_discrete, dec_le}
use lib.Dec.{T}
use Rattle.meaning.specs.Tree.{Max, finite, unbounded, Seq, atom, delay, consec, goto, nonconsec, throughout, within, Operand, boolean, other, operand}
use Rattle.meaning.specs.Match.{Runs, UpTo, Join, Times, Inside, Occurs, Always, Never, UntilFirst, GotoRuns, NonconsecRuns, Over, Match}
use Rattle.meaning.proofs.RunLaws.{Forward}
use Rattle.meaning.proofs.MatchForward.{until_first_forward, nothing_over_another, match_forward}

-- Decisions put together.

-- What says the same as something decided is decided.
abbrev decided_as : {A B : Type 0} → (A → B) → (B → A) → Dec A → Dec B
decided_as f g (yes a) = yes (f a)
decided_as f g (no h) = no (λ b. h (g b))

-- Two statements are decided together; the second is asked for only where the first holds.
abbrev both : {A B : Type 0} → Dec A → (A → Dec B) → Dec (A × B)
both (yes a) f = elim (f a) [ yes b ↦ yes (a, b) | no h ↦ no (λ p. h p.1) ]
both (no h) f = no (λ p. h p.0)

-- Whether one of the numbers below a bound has a decided property is decided.
abbrev one_below : (P : ℕ → Type 0) → ((k : ℕ) → Dec (P k)) → (n : ℕ) → Dec ((k : ℕ) × (k < n) × P k)
one_below P d zero = no (λ (k, l, p). omega arith)
one_below P d (suc n) =
    elim (d n) [
      | yes p ↦ yes (n, omega arith, p)
      | no h ↦ elim (one_below P d n) [
        | yes x ↦ yes (x.0, omega (arith, x.1), x.2)
        | no g ↦ no (λ (k, l, p). elim (ℕ_discrete k n) [ yes e ↦ h (subst P e p) | no e ↦ g (k, omega arith, p) ])
      ]
    ]

abbrev each_below : (P : ℕ → Type 0) → ((k : ℕ) → Dec (P k)) → (n : ℕ) → Dec ((k : ℕ) → k < n → P k)
each_below P d zero = yes (λ k l. absurd (omega arith))
each_below P d (suc n) =
    elim (d n) [
      | yes p ↦ elim (each_below P d n) [
        | yes f ↦ yes (λ k l. elim (ℕ_discrete n k) [ yes e ↦ subst P e p | no e ↦ f k (omega arith) ])
        | no g ↦ no (λ f. g (λ k l. f k (omega arith)))
      ]
      | no h ↦ no (λ f. h (f n (omega arith)))
    ]

-- Whether some number has two, three or four decided properties is decided, where none from n on has them; so it is of two numbers.
abbrev some_with_2 : {A B : ℕ → Type 0} (n : ℕ) → ((k : ℕ) → A k → B k → k < n)
    → ((k : ℕ) → Dec (A k)) → ((k : ℕ) → Dec (B k)) → Dec ((k : ℕ) × A k × B k)
some_with_2 {A} {B} n below a b =
    decided_as (λ (k, l, (p, q)). (k, p, q)) (λ (k, p, q). (k, below k p q, (p, q)))
    (one_below (λ k. A k × B k) (λ k. both (a k) (λ p. b k)) n)

abbrev some_with_3 : {A B C : ℕ → Type 0} (n : ℕ) → ((k : ℕ) → A k → B k → C k → k < n)
    → ((k : ℕ) → Dec (A k)) → ((k : ℕ) → Dec (B k)) → ((k : ℕ) → Dec (C k)) → Dec ((k : ℕ) × A k × B k × C k)
some_with_3 {A} {B} {C} n below a b c =
    decided_as (λ (k, p, (q, r)). (k, p, q, r)) (λ (k, p, q, r). (k, p, (q, r)))
    (some_with_2 {A = A} {B = λ k. B k × C k} n (λ k p x. below k p x.0 x.1) a (λ k. both (b k) (λ q. c k)))

abbrev some_with_4 : {A B C D : ℕ → Type 0} (n : ℕ) → ((k : ℕ) → A k → B k → C k → D k → k < n)
    → ((k : ℕ) → Dec (A k)) → ((k : ℕ) → Dec (B k)) → ((k : ℕ) → Dec (C k)) → ((k : ℕ) → Dec (D k)) → Dec ((k : ℕ) × A k × B k × C k × D k)
some_with_4 {A} {B} {C} {D} n below a b c d =
    decided_as (λ (k, p, q, (r, s)). (k, p, q, r, s)) (λ (k, p, q, r, s). (k, p, q, (r, s)))
    (some_with_3 {A = A} {B = B} {C = λ k. C k × D k} n (λ k p q x. below k p q x.0 x.1) a b (λ k. both (c k) (λ r. d k)))

abbrev two_with_4 : {A B C D : ℕ → ℕ → Type 0} (n : ℕ) → ((k l : ℕ) → A k l → B k l → C k l → D k l → (k < n) × (l < n))
    → ((k l : ℕ) → Dec (A k l)) → ((k l : ℕ) → Dec (B k l)) → ((k l : ℕ) → Dec (C k l)) → ((k l : ℕ) → Dec (D k l))
    → Dec ((k : ℕ) × (l : ℕ) × A k l × B k l × C k l × D k l)
two_with_4 {A} {B} {C} {D} n below a b c d =
    decided_as (λ (k, u, (l, p, q, r, s)). (k, l, p, q, r, s)) (λ (k, l, p, q, r, s). (k, (below k l p q r s).0, (l, p, q, r, s)))
    (one_below (λ k. (l : ℕ) × A k l × B k l × C k l × D k l)
    (λ k. some_with_4 {A = A k} {B = B k} {C = C k} {D = D k} n (λ l p q r s. (below k l p q r s).1) (a k) (b k) (c k) (d k)) n)

-- Whether all numbers of which two statements hold have a decided property is decided, where they hold of none from n on.
abbrev if_both : {A B P : Type 0} → Dec A → Dec B → Dec P → Dec (A → B → P)
if_both (yes x) (yes y) (yes z) = yes (λ _ _. z)
if_both (yes x) (yes y) (no h) = no (λ f. h (f x y))
if_both (yes x) (no h) p = yes (λ _ y. absurd (h y))
if_both (no h) b p = yes (λ x _. absurd (h x))

abbrev each_with_2 : {A B P : ℕ → Type 0} (n : ℕ) → ((k : ℕ) → A k → B k → k < n)
    → ((k : ℕ) → Dec (A k)) → ((k : ℕ) → Dec (B k)) → ((k : ℕ) → Dec (P k)) → Dec ((k : ℕ) → A k → B k → P k)
each_with_2 {A} {B} {P} n below a b p =
    decided_as (λ f k x y. f k (below k x y) x y) (λ f k l x y. f k x y)
    (each_below (λ k. A k → B k → P k) (λ k. if_both (a k) (b k) (p k)) n)

-- Runs, from their parts.

-- Of every run it is decided whether it is one of R.
abbrev Decided : Runs → Type 0
Decided R = (i j : ℕ) → Dec (R i j)

-- Ranges, joins, repetitions, and runs inside others.
abbrev up_to : (d : ℕ) (x : Max) → Dec (UpTo d x)
up_to d (finite n) = dec_le d n
up_to d unbounded = yes tt

abbrev join : (d : ℕ) (L R : Runs) → Forward R → Decided L → Decided R → Decided (Join d L R)
join zero L R f l r i j = some_with_4 (suc j) (λ k p q x y. omega arith) (λ k. dec_le _ _) (λ k. dec_le _ _) (λ k. l _ _) (λ k. r _ _)
join (suc d) L R f l r i j = some_with_2 (suc j) (λ k x y. omega (arith, f _ _ y)) (λ k. l _ _) (λ k. r _ _)

abbrev times : (c : ℕ) (R : Runs) → Forward R → Decided R → Decided (Times c R)
times zero R f r i j = ℕ_discrete i j
times (suc c) R f r i j = some_with_2 (suc j) (λ k xs x. omega (arith, f _ _ x)) (λ k. times c R f r _ _) (λ k. r _ _)

abbrev inside : (R₁ R₂ : Runs) → Forward R₁ → Decided R₁ → Decided R₂ → Decided (Inside R₁ R₂)
inside R₁ R₂ f r₁ r₂ i j =
    two_with_4 (suc j) (λ i' j' x p q y. omega (arith, f _ _ y)) (λ i' j'. r₂ _ _) (λ i' j'. dec_le _ _) (λ i' j'. dec_le _ _) (λ i' j'. r₁ _ _)

-- Which delays and which counts have to be tried.

-- A delay that is joined lies before the end.
pub delay_below : (d : ℕ) (L R : Runs) → Forward R → (i j : ℕ) → Join d L R i j → d < suc (suc j)
delay_below zero L R f i j y = omega arith
delay_below (suc d) L R f i j (k, x, y) = omega (arith, f (k + d) j y)

-- Of more runs than there are ticks one is empty, and is left out.
one_left_out : (R : Runs) → Forward R → (c i j : ℕ) → j ≤ c → Times (suc c) R i j → Times c R i j
one_left_out R f zero i j l (k, e, x) = omega (arith, f k j x)
one_left_out R f (suc c) i j l (k, xs, x) =
    elim (ℕ_discrete k j) [
      | yes e ↦ subst (Times (suc c) R i) e xs
      | no e ↦ (k, one_left_out R f c i k (omega (arith, f k j x)) xs, x)
    ]

-- A count that is allowed is allowed where it is lower.
up_to_less : (c d : ℕ) (x : Max) → c ≤ d → UpTo d x → UpTo c x
up_to_less c d (finite n) l u = omega arith
up_to_less c d unbounded l u = tt

-- A count of at most the least one and a run for each tick will do.
pub few_will_do : (R : Runs) → Forward R → (m : ℕ) (x : Max) (i j c : ℕ) → m ≤ c → UpTo c x → Times c R i j
    → (c' : ℕ) × ((m ≤ c') × (c' ≤ m + j)) × UpTo c' x × Times c' R i j
few_will_do R f m x i j zero l u xs = (zero, (l, omega arith), u, xs)
few_will_do R f m x i j (suc c) l u xs =
    elim (dec_le (suc c) (m + j)) [
      | yes low ↦ (suc c, (l, low), u, xs)
      | no high ↦ few_will_do R f m x i j c (omega arith) (up_to_less c (suc c) x (omega arith) u) (one_left_out R f c i j (omega arith) xs)
    ]

-- A repetition with its range.
abbrev repeated : (R : Runs) → Forward R → Decided R → (m : ℕ) (x : Max) (i j : ℕ) → Dec ((c : ℕ) × (m ≤ c) × UpTo c x × Times c R i j)
repeated R f r m x i j =
    decided_as (λ (c, p, u, xs). (c, p.0, u, xs)) (λ (c, p, u, xs). few_will_do R f m x i j c p u xs)
    (some_with_3 (suc (m + j)) (λ c p u xs. omega arith) (λ c. both (dec_le m c) (λ p. dec_le c (m + j))) (λ c. up_to c x) (λ c. times c R f r i j))

abbrev holds : (b : Bool) → Dec (T b)
holds true = yes tt
holds false = no (λ h. h)

-- Trees, in a trace.
module _ (trace : ℕ → ℕ → Bool) where
  -- What stands at one tick, at each tick, or at none, is decided.
  abbrev occurs : (a : ℕ) → Decided (Occurs trace a)
  occurs a i j = both (ℕ_discrete j (suc i)) (λ e. holds (trace i a))

  abbrev always : (c : ℕ) → Decided (Always trace c)
  always c i j = each_with_2 (suc j) (λ k p q. omega arith) (λ k. dec_le _ _) (λ k. dec_le _ _) (λ k. holds (trace k c))

  abbrev never : (b : ℕ) → Decided (Never trace b)
  never b i j = each_with_2 (suc j) (λ k p q. omega arith) (λ k. dec_le _ _) (λ k. dec_le _ _) (λ k. holds (not (trace k b)))

  -- Goto and nonconsecutive repetition are decided.
  abbrev until_first : (b : ℕ) → Decided (UntilFirst trace b)
  until_first b i j =
      some_with_4 (suc j) (λ k p e n h. omega arith) (λ k. dec_le _ _) (λ k. ℕ_discrete _ _) (λ k. never b _ _) (λ k. holds (trace k b))

  abbrev goto_runs : (b n : ℕ) → Decided (GotoRuns trace b n)
  goto_runs b n = times n (UntilFirst trace b) (until_first_forward trace b) (until_first b)

  abbrev nonconsec_runs : (b n : ℕ) → Decided (NonconsecRuns trace b n)
  nonconsec_runs b n i j = some_with_3 (suc j) (λ k x p no-b. omega arith) (λ k. goto_runs b n _ _) (λ k. dec_le _ _) (λ k. never b _ _)

  abbrev over : (o : Operand) (R : ℕ → Runs) → ((b : ℕ) → Decided (R b)) → Decided (Over trace o R)
  over (boolean b) R r i j = r b i j
  over other R r i j = no (nothing_over_another trace R i j)

  -- The matches of every tree are decided.
  abbrev pub match_decided : (s : Seq) → Decided (Match trace s)
  match_decided (atom n a) i j = occurs a i j
  match_decided (delay n l r m x) i j =
      some_with_3 (suc (suc j)) (λ d p u y. delay_below d (Match trace l) (Match trace r) (match_forward trace r) i j y)
      (λ d. dec_le _ _) (λ d. up_to d x)
      (λ d. join d (Match trace l) (Match trace r) (match_forward trace r) (match_decided l) (match_decided r) i j)
  match_decided (consec n s m x) i j = repeated (Match trace s) (match_forward trace s) (match_decided s) m x i j
  match_decided (goto n s k) i j = over (operand s) (λ b. GotoRuns trace b k) (λ b. goto_runs b k) i j
  match_decided (nonconsec n s k) i j = over (operand s) (λ b. NonconsecRuns trace b k) (λ b. nonconsec_runs b k) i j
  match_decided (throughout n c s) i j = both (match_decided s i j) (λ x. always c i j)
  match_decided (within n s₁ s₂) i j =
      inside (Match trace s₁) (Match trace s₂) (match_forward trace s₁) (match_decided s₁) (match_decided s₂) i j
