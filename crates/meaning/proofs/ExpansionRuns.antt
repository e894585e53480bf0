-- Expansion keeps the matches: a run matches a tree exactly where it is a run of one of the tree's alternatives.
-- Example: `a[*1:2]` matches the runs of [a] and those of [a, a after 1].
-- Assumes of the tree what refusals 3, 6, 8 and 12 leave, and no throughout (RootRuns.antt has those on top).
use mathlib.Core.Bool.{Bool}
use mathlib.Core.Path.{◌≡◌, refl, subst, subst⁻¹}
use mathlib.Core.Logic.Iff
use mathlib.Core.Logic.{◌↔◌, ◌⊎◌, inl, inr}
use mathlib.Core.List.{List, [], ◌∷◌, ◌++◌}
use Prim.Native.Nat.{ℕ, zero, suc, ◌-◌, ◌≤◌, ◌<◌}
use native.Mathlib.Omega.{arith}
use Rattle.meaning.specs.Tree.{Max, finite, unbounded, Seq, atom, delay, consec, goto, nonconsec, throughout, within, Operand, boolean, other, operand, below}
use Rattle.meaning.specs.Match.{UpTo, Runs, Join, Times, Occurs, GotoRuns, NonconsecRuns, Over, Match}
use Rattle.meaning.specs.Lowerable.{IsBoolean}
use Rattle.meaning.specs.Alternative.{SeqAlt, single, rehop, joined, join_lefts, join_hops, hops, copies, copies_from, with_empty, consec_finite, over, consec_unbounded, expand}
use Rattle.meaning.specs.declared.SeqTerm.{SeqTerm}
use Rattle.meaning.specs.declared.SeqTerm.TheVariants.{Bool as BoolTerm, Goto, Nonconsec, ConsecAtLeast, Empty}
use Rattle.meaning.specs.declared.SeqHop.{SeqHop}
use Rattle.meaning.specs.declared.SeqHop.TheVariants.{Fixed}
use Rattle.meaning.specs.declared.SeqStep.{SeqStep}
use Rattle.meaning.proofs.Acceptable.{In, Regular}
use Rattle.meaning.proofs.RunLaws.{SameRuns, join_included}
use Rattle.meaning.proofs.Joining.{JoinOver, join_over_included}
use Rattle.meaning.proofs.AlternativeRuns.{AllEmptiesFit, empties_fit_append, TermRuns, AlternativeRuns, a_joined_alternative_means_the_join}
use Rattle.meaning.proofs.Members.{in_join_lefts, joined_in, in_join_hops, hops_allow_the_range, in_copies_from, in_with_empty, below_is_less, below_is_at_most_1_less, count_from_1, Some, there_is_a_copy, there_is_an_alternative}
use Rattle.meaning.proofs.EveryAlternative.{Every, of_every_copy, HasStep, joined_has_step, has_step}

-- There is an alternative, and each has a step.
abbrev Proper : List SeqAlt → Type 0
Proper alts = Some alts × Every (λ y. HasStep y.steps) alts

-- The alternatives of a tree are so, and copies of such alternatives.
proper : (s : Seq) → Regular s → Proper (expand s)
proper s k = (there_is_an_alternative s k, has_step s k)

proper_copies : (base : List SeqAlt) (c : ℕ) → Proper base → Proper (copies base c)
proper_copies base c (o, B) =
    (there_is_a_copy base c o, of_every_copy (λ (y : SeqAlt). HasStep y.steps) (λ x. tt) joined_has_step base c B)

-- 12 of every alternative, but that one may begin with Empty.
abbrev pub EveryFits : List SeqAlt → Type 0
EveryFits alts = Every (λ y. AllEmptiesFit y.steps) alts

-- Where the Empties of a joined alternative fit, those of both its parts do.
parts_fit : (h : SeqHop) (l r : List SeqStep) → HasStep l → HasStep r → AllEmptiesFit (l ++ rehop h r)
    → AllEmptiesFit l × AllEmptiesFit r
parts_fit h [] r p q F = absurd p
parts_fit h (s ∷ l) [] p q F = absurd q
parts_fit h (s ∷ l) (x ∷ r) p q F = let (a, b, c) = empties_fit_append s.term l x.term h r F in (a, c)

-- Where the Empties of a joined list fit, those of both its lists do.
lists_fit : (h : SeqHop) (ls rs : List SeqAlt) → Proper ls → Proper rs → EveryFits (join_lefts h ls rs) → EveryFits ls × EveryFits rs
lists_fit h ls rs ((l₀, p₀), L) ((r₀, q₀), R) F = (λ l p. (pair l r₀ p q₀).0, λ r q. (pair l₀ r p₀ q).1)
  where
    pair : (l r : SeqAlt) → In l ls → In r rs → AllEmptiesFit l.steps × AllEmptiesFit r.steps
    pair l r p q = parts_fit h l.steps r.steps (L l p) (R r q) (F (joined h l r) (joined_in h ls rs l r p q))

-- Where the Empties of copies fit, those of what is copied do.
base_fits : (base : List SeqAlt) (c : ℕ) → Proper base → EveryFits (copies base c) → EveryFits base
base_fits base zero B F = F
base_fits base (suc c) B F = (lists_fit (Fixed 1) (copies base c) base (proper_copies base c B) B F).1

-- The operand of goto, nonconsecutive and [*m:$] is an atom.
an_operand_is_an_atom : (s : Seq) → IsBoolean (operand s) → (n b : ℕ) × (s ≡ atom n b)
an_operand_is_an_atom (atom n b) B = (n, b, refl)
an_operand_is_an_atom (delay n l r m x) B = absurd B
an_operand_is_an_atom (consec n s m x) B = absurd B
an_operand_is_an_atom (goto n s k) B = absurd B
an_operand_is_an_atom (nonconsec n s k) B = absurd B
an_operand_is_an_atom (throughout n c s) B = absurd B
an_operand_is_an_atom (within n s₁ s₂) B = absurd B

module _ (σ : ℕ → ℕ → Bool) where
  -- The runs of one of the alternatives.
  abbrev pub RunsOfAny : List SeqAlt → Runs
  RunsOfAny alts i j = (y : SeqAlt) × In y alts × AlternativeRuns σ y.steps i j

  -- A single term.
  single_runs : (x : SeqTerm) → SameRuns (TermRuns σ x) (RunsOfAny (single x ∷ []))
  single_runs x i j = (λ h. (single x, inl refl, h), inward)
    where
      inward : RunsOfAny (single x ∷ []) i j → TermRuns σ x i j
      inward (y, inl e, h) = subst (λ (z : SeqAlt). AlternativeRuns σ z.steps i j) e h
      inward (y, inr m, h) = absurd m

  -- The choice of the alternatives, taken out of a join.
  choices_of_a_join : (d : ℕ) (ls rs : List SeqAlt) (i j : ℕ) → Join d (RunsOfAny ls) (RunsOfAny rs) i j
      → (l r : SeqAlt) × In l ls × In r rs × Join d (AlternativeRuns σ l.steps) (AlternativeRuns σ r.steps) i j
  choices_of_a_join zero ls rs i j (k, o, o', (l, p, x), (r, q, y)) = (l, r, p, q, (k, o, o', x, y))
  choices_of_a_join (suc d) ls rs i j (k, (l, p, x), (r, q, y)) = (l, r, p, q, (k, x, y))

  -- Two lists joined over a hop.
  join_lefts_runs : (h : SeqHop) (ls rs : List SeqAlt) → EveryFits ls → EveryFits rs → EveryFits (join_lefts h ls rs)
      → SameRuns (JoinOver h (RunsOfAny ls) (RunsOfAny rs)) (RunsOfAny (join_lefts h ls rs))
  join_lefts_runs h ls rs Fl Fr F i j = (outward, inward)
    where
      pair : (l r : SeqAlt) → In l ls → In r rs
          → AlternativeRuns σ (joined h l r).steps i j
          ↔ JoinOver h (AlternativeRuns σ l.steps) (AlternativeRuns σ r.steps) i j
      pair l r p q =
          a_joined_alternative_means_the_join σ h l.steps r.steps (Fl l p) (F (joined h l r) (joined_in h ls rs l r p q)) (Fr r q) i j

      outward : JoinOver h (RunsOfAny ls) (RunsOfAny rs) i j → RunsOfAny (join_lefts h ls rs) i j
      outward (d, a, x) =
          let (l, r, p, q, y) = choices_of_a_join d ls rs i j x in
          (joined h l r, joined_in h ls rs l r p q, (pair l r p q).1 (d, a, y))

      inward : RunsOfAny (join_lefts h ls rs) i j → JoinOver h (RunsOfAny ls) (RunsOfAny rs) i j
      inward (y, m, x) =
          let (l, r, p, q, e) = (in_join_lefts h ls rs y).0 m in
          join_over_included h (AlternativeRuns σ l.steps) (AlternativeRuns σ r.steps) (RunsOfAny ls) (RunsOfAny rs)
          (λ i j z. (l, p, z)) (λ i j z. (r, q, z)) i j
          ((pair l r p q).0 (subst (λ (z : SeqAlt). AlternativeRuns σ z.steps i j) e x))

  -- A delay: two lists joined over each hop of its range.
  delay_runs : (m : ℕ) (x : Max) (L R : Runs) (ls rs : List SeqAlt) → SameRuns L (RunsOfAny ls) → SameRuns R (RunsOfAny rs)
      → EveryFits ls → EveryFits rs → EveryFits (join_hops (hops m x) ls rs) → (i j : ℕ)
      → ((d : ℕ) × (m ≤ d) × UpTo d x × Join d L R i j) ↔ RunsOfAny (join_hops (hops m x) ls rs) i j
  delay_runs m x L R ls rs El Er Fl Fr F i j = (outward, inward)
    where
      at_hop : (h : SeqHop) → In h (hops m x) → JoinOver h (RunsOfAny ls) (RunsOfAny rs) i j ↔ RunsOfAny (join_lefts h ls rs) i j
      at_hop h q = join_lefts_runs h ls rs Fl Fr (λ y p. F y ((in_join_hops (hops m x) ls rs y).1 (h, q, p))) i j

      outward : (d : ℕ) × (m ≤ d) × UpTo d x × Join d L R i j → RunsOfAny (join_hops (hops m x) ls rs) i j
      outward (d, l, u, r) =
          let (h, q, a) = (hops_allow_the_range m x d).1 (l, u) in
          let r' = join_included d L (RunsOfAny ls) R (RunsOfAny rs) (λ i j. (El i j).0) (λ i j. (Er i j).0) i j r in
          let (y, p, z) = (at_hop h q).0 (d, a, r') in
          (y, (in_join_hops (hops m x) ls rs y).1 (h, q, p), z)

      inward : RunsOfAny (join_hops (hops m x) ls rs) i j → (d : ℕ) × (m ≤ d) × UpTo d x × Join d L R i j
      inward (y, p, z) =
          let (h, q, p') = (in_join_hops (hops m x) ls rs y).0 p in
          let (d, a, r) = (at_hop h q).1 (y, p', z) in
          let (l, u) = (hops_allow_the_range m x d).0 (h, q, a) in
          (d, l, u, join_included d (RunsOfAny ls) L (RunsOfAny rs) R (λ i j. (El i j).1) (λ i j. (Er i j).1) i j r)

  -- c + 1 copies.
  copies_runs : (base : List SeqAlt) (c : ℕ) (R : Runs) → SameRuns R (RunsOfAny base) → Proper base → EveryFits (copies base c)
      → SameRuns (Times (suc c) R) (RunsOfAny (copies base c))
  copies_runs base zero R E B F i j = (λ (k, e, x). (E i j).0 (subst⁻¹ (λ z. R z j) e x), λ x. (i, refl, (E i j).1 x))
  copies_runs base (suc c) R E B F i j =
      let (F₁, F₂) = lists_fit (Fixed 1) (copies base c) base (proper_copies base c B) B F in
      let fewer = copies_runs base c R E B F₁ in
      let joins = join_lefts_runs (Fixed 1) (copies base c) base F₁ F₂ F i j in (
        λ (k, xs, x). joins.0 (1, refl, (k, (fewer i k).0 xs, subst (from j) (omega arith) ((E k j).0 x))),
        λ x. let (d, e, y) = joins.1 x in
            let (k, xs, z) = subst (λ d. Join d (RunsOfAny (copies base c)) (RunsOfAny base) i j) e y in
            (k, (fewer i k).1 xs, (E k j).1 (subst (from j) (omega arith) z)),
      )
    where
      from : ℕ → ℕ → Type 0
      from j k = RunsOfAny base k j

  -- Empty in front.
  with_empty_runs : (m : ℕ) (alts : List SeqAlt) (i j : ℕ)
      → (((m ≡ 0) × (i ≡ j)) ⊎ RunsOfAny alts i j) ↔ RunsOfAny (with_empty m alts) i j
  with_empty_runs m alts i j = (outward, λ (y, p, x). inward y ((in_with_empty m alts y).0 p) x)
    where
      outward : ((m ≡ 0) × (i ≡ j)) ⊎ RunsOfAny alts i j → RunsOfAny (with_empty m alts) i j
      outward (inl e) = (single Empty, (in_with_empty m alts (single Empty)).1 (inl (refl, e.0)), e.1)
      outward (inr (y, p, x)) = (y, (in_with_empty m alts y).1 (inr p), x)

      inward : (y : SeqAlt) → ((y ≡ single Empty) × (m ≡ 0)) ⊎ In y alts → AlternativeRuns σ y.steps i j
          → ((m ≡ 0) × (i ≡ j)) ⊎ RunsOfAny alts i j
      inward y (inl e) x = inl (e.1, subst (λ (z : SeqAlt). AlternativeRuns σ z.steps i j) e.0 x)
      inward y (inr p) x = inr (y, p, x)

  -- [*m:n]: each count of copies, and the empty run where m is 0.
  consec_finite_runs : (base : List SeqAlt) (m x : ℕ) (R : Runs) → m ≤ suc x → SameRuns R (RunsOfAny base) → Proper base
      → EveryFits (consec_finite base m (suc x)) → (i j : ℕ)
      → ((c : ℕ) × (m ≤ c) × (c ≤ suc x) × Times c R i j) ↔ RunsOfAny (consec_finite base m (suc x)) i j
  consec_finite_runs base m x R w E B F i j = (outward, λ r. inward ((with_empty_runs m alts i j).1 r))
    where
      k : ℕ
      k = suc x - below m

      alts : List SeqAlt
      alts = copies_from base (below m) k

      at_count : (c : ℕ) → below m ≤ c → c < suc x → Times (suc c) R i j ↔ RunsOfAny (copies base c) i j
      at_count c l u =
          copies_runs base c R E B
          (λ y p. F y ((in_with_empty m alts y).1 (inr ((in_copies_from base (below m) k y).1 (c, l, omega arith, p))))) i j

      outward : (c : ℕ) × (m ≤ c) × (c ≤ suc x) × Times c R i j → RunsOfAny (consec_finite base m (suc x)) i j
      outward (zero, l, u, r) = (with_empty_runs m alts i j).0 (inl (omega arith, r))
      outward (suc c, l, u, r) =
          let q : below m ≤ c = omega (arith, below_is_less m c l) in
          let (y, p, z) = (at_count c q u).0 r in
          (with_empty_runs m alts i j).0 (inr (y, (in_copies_from base (below m) k y).1 (c, q, omega arith, p), z))

      inward : ((m ≡ 0) × (i ≡ j)) ⊎ RunsOfAny alts i j → (c : ℕ) × (m ≤ c) × (c ≤ suc x) × Times c R i j
      inward (inl e) = (zero, omega arith, omega arith, e.1)
      inward (inr (y, p, z)) =
          let (c, l, u, q) = (in_copies_from base (below m) k y).0 p in
          let u' : c < suc x = omega (arith, below_is_less m x w) in
          (suc c, omega (arith, below_is_at_most_1_less m), u', (at_count c l u').1 (y, q, z))

  -- [*m:$] of a Boolean: one long run, and the empty one where m is 0.
  consec_unbounded_runs : (m b : ℕ) (i j : ℕ)
      → ((c : ℕ) × (m ≤ c) × Unit {0} × Times c (Occurs σ b) i j) ↔ RunsOfAny (consec_unbounded m b) i j
  consec_unbounded_runs m b i j = (outward, λ r. inward ((with_empty_runs m alts i j).1 r))
    where
      x : SeqTerm
      x = ConsecAtLeast b (suc (below m))

      alts : List SeqAlt
      alts = single x ∷ []

      outward : (c : ℕ) × (m ≤ c) × Unit {0} × Times c (Occurs σ b) i j → RunsOfAny (consec_unbounded m b) i j
      outward (zero, l, u, r) = (with_empty_runs m alts i j).0 (inl (omega arith, r))
      outward (suc c, l, u, r) = (with_empty_runs m alts i j).0 (inr ((single_runs x i j).0 (suc c, omega (arith, below_is_less m c l), r)))

      inward : ((m ≡ 0) × (i ≡ j)) ⊎ RunsOfAny alts i j → (c : ℕ) × (m ≤ c) × Unit {0} × Times c (Occurs σ b) i j
      inward (inl e) = (zero, omega arith, tt, e.1)
      inward (inr y) = let (c, l, r) = (single_runs x i j).1 y in (c, omega (arith, below_is_at_most_1_less m), tt, r)

  -- Goto and nonconsecutive: the runs R b c of their Boolean b, counted c times.
  runs_over_a_boolean : (o : Operand) → IsBoolean o → (c : ℕ) → 1 ≤ c → (R : ℕ → ℕ → Runs) (x : ℕ → SeqTerm)
      → ((b : ℕ) → SameRuns (R b (suc (below c))) (TermRuns σ (x b)))
      → SameRuns (Over σ o (λ b. R b c)) (RunsOfAny (over o (λ b. single (x b) ∷ [])))
  runs_over_a_boolean (boolean b) B c l R x E i j =
      subst (λ z. R b z i j ↔ RunsOfAny (single (x b) ∷ []) i j) (count_from_1 c l) (Iff.trans (E b i j) (single_runs (x b) i j))
  runs_over_a_boolean other B c l R x E i j = absurd B

  -- The runs that a tree matches are those of its alternatives.
  pub expansion_keeps_the_matches : (s : Seq) → Regular s → EveryFits (expand s) → SameRuns (Match σ s) (RunsOfAny (expand s))
  expansion_keeps_the_matches (atom n a) k F i j = single_runs (BoolTerm a) i j
  expansion_keeps_the_matches (delay n l r m x) k F i j =
      let (h, q, a) = (hops_allow_the_range m x m).1 (omega arith, k.2) in
      let B₁ = proper l k.0 in
      let B₂ = proper r k.1 in
      let F' : EveryFits (join_lefts h (expand l) (expand r)) =
      λ y p. F y ((in_join_hops (hops m x) (expand l) (expand r) y).1 (h, q, p)) in
      let (F₁, F₂) = lists_fit h (expand l) (expand r) B₁ B₂ F' in
      delay_runs m x (Match σ l) (Match σ r) (expand l) (expand r)
      (expansion_keeps_the_matches l k.0 F₁) (expansion_keeps_the_matches r k.1 F₂) F₁ F₂ F i j
  expansion_keeps_the_matches (consec n s m (finite zero)) k F i j =
      Iff.trans
      (λ (c, l, u, r). let w : c ≡ 0 = omega arith in subst (λ z. Times z (Match σ s) i j) w r, λ e. (zero, k, omega arith, e))
      (single_runs Empty i j)
  expansion_keeps_the_matches (consec n s m (finite (suc x))) k F i j =
      let B = proper s k.0 in
      let l = below_is_less m x k.1 in
      let some_copies = copies_from (expand s) (below m) (suc x - below m) in
      let F' : EveryFits (copies (expand s) (below m)) = λ y p. F y ((in_with_empty m some_copies y).1
      (inr ((in_copies_from (expand s) (below m) (suc x - below m) y).1 (below m, omega arith, omega arith, p)))) in
      let same = expansion_keeps_the_matches s k.0 (base_fits (expand s) (below m) B F') in
      consec_finite_runs (expand s) m x (Match σ s) k.1 same B F i j
  expansion_keeps_the_matches (consec n s m unbounded) k F i j =
      let (n', b, e) = an_operand_is_an_atom s k in
      subst⁻¹ (λ z. Match σ (consec n z m unbounded) i j ↔ RunsOfAny (expand (consec n z m unbounded)) i j) e
      (consec_unbounded_runs m b i j)
  expansion_keeps_the_matches (goto n s c) k F i j =
      runs_over_a_boolean (operand s) k.0 c k.1 (GotoRuns σ) (λ b. Goto b c) (λ b i j. Iff.rfl) i j
  expansion_keeps_the_matches (nonconsec n s c) k F i j =
      runs_over_a_boolean (operand s) k.0 c k.1 (NonconsecRuns σ) (λ b. Nonconsec b c) (λ b i j. Iff.rfl) i j
  expansion_keeps_the_matches (throughout n c s) k F i j = absurd k
  expansion_keeps_the_matches (within n s₁ s₂) k F i j = absurd k
