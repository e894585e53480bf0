-- The tests of 7, 9 and 12 tell what the rules ask of an alternative: its steps are plain, and its Empties stand where they
-- may. Each test is read term by term and hop by hop; nothing is assumed of the tree but that it has no throughout.
use mathlib.Core.Path.{◌≡◌, refl, sym, ◌∙◌}
use mathlib.Core.Bool.{true, false}
use mathlib.Core.Logic.{inl, inr}
use mathlib.Core.List.{List, [], ◌∷◌}
use Prim.Native.Nat.{ℕ, zero, suc}
use native.Mathlib.Omega.{arith}
use Rattle.words.specs.Choice.{pick, pick_case}
use Rattle.meaning.specs.Tree.{Seq, throughout}
use Rattle.meaning.specs.Alternative.{Guard, unguarded, guard, SeqAlt, expand}
use Rattle.meaning.specs.Refusals.{is_bool, is_fixed, plain_steps, plain, within_fits, is_empty, fixed_from_1, empties_fit, steps_fit, at, nowhere, first_misplaced}
use Rattle.meaning.specs.declared.SeqTerm.{SeqTerm}
use Rattle.meaning.specs.declared.SeqTerm.TheVariants.{Bool as BoolTerm, Goto, Nonconsec, ConsecAtLeast, Empty}
use Rattle.meaning.specs.declared.SeqHop.{SeqHop}
use Rattle.meaning.specs.declared.SeqHop.TheVariants.{Fixed, AtLeast}
use Rattle.meaning.specs.declared.SeqStep.{SeqStep}
use Rattle.words.proofs.Taken.{first_taken, second_taken, false_is_not_true, both_hold}
use Rattle.meaning.proofs.Acceptable.{IsBool, IsEmpty, NotEmpty, IsFixed, FixedFrom1, Plain, EmptiesFit, Rule7, Rule12, Rule9, Rules9, Regular}
use Rattle.meaning.proofs.Members.{guarded_by, in_guard_each}
use Rattle.meaning.proofs.EveryAlternative.{Every, no_guards, HasStep, has_step}

-- 7 and 9: Bool terms and fixed hops alone, as a test and as what it tells.

-- A term, a hop, the steps, all alternatives.
bool_term : (x : SeqTerm) → is_bool x ≡ true → IsBool x
bool_term (BoolTerm a) e = tt
bool_term (Goto b k) e = absurd (false_is_not_true e)
bool_term (Nonconsec b k) e = absurd (false_is_not_true e)
bool_term (ConsecAtLeast b k) e = absurd (false_is_not_true e)
bool_term Empty e = absurd (false_is_not_true e)

fixed_hop : (h : SeqHop) → is_fixed h ≡ true → IsFixed h
fixed_hop (Fixed d) e = tt
fixed_hop (AtLeast m) e = absurd (false_is_not_true e)

plain_alternative : (ss : List SeqStep) → plain_steps ss ≡ true → Plain ss
plain_alternative [] e = tt
plain_alternative (s ∷ ss) e =
    let (bool, more) = both_hold (is_bool s.term) e in
    let (fixed, rest) = both_hold (is_fixed s.hop) more in
    (bool_term s.term bool, fixed_hop s.hop fixed, plain_alternative ss rest)

-- The walk looks at all alternatives at once; this is what it tells of each.
pub every_plain : (alts : List SeqAlt) → plain alts ≡ true → Every (λ y. Plain y.steps) alts
every_plain [] e y m = absurd m
every_plain (x ∷ alts) e y (inl same) = rw same (plain_alternative x.steps (both_hold (plain_steps x.steps) e).0)
every_plain (x ∷ alts) e y (inr m) = every_plain alts (both_hold (plain_steps x.steps) e).1 y m

-- 7: a guard over plain steps stands over nothing else.
under_a_guard : (g : Guard) (ss : List SeqStep) → Plain ss → Rule7 g ss
under_a_guard unguarded ss p = tt
under_a_guard (guard x) ss p = p

-- 7 holds at a throughout, because the walk looked at what is under it.
pub rule_7_of_throughout : (c : ℕ) (s : Seq) → plain (expand s) ≡ true → (n : ℕ) → Every (λ y. Rule7 y.guard y.steps) (expand (throughout n c s))
rule_7_of_throughout c s e n y m =
    let (x, p, same) = (in_guard_each c (expand s) y).0 m in
    rw same (under_a_guard (guarded_by c x).guard x.steps (every_plain (expand s) e x p))

-- 7 holds without a throughout, because there is no guard.
pub rule_7_without_throughout : (s : Seq) → Regular s → Every (λ y. Rule7 y.guard y.steps) (expand s)
rule_7_without_throughout s R y m = rw (no_guards s R y m) tt

-- 9: the operands of a root within.
pub rules_9 : (s : Seq) → Regular s → within_fits (expand s) ≡ true → Rules9 (expand s)
rules_9 s R e y m =
    plainly y.steps (has_step s R y m) (every_plain (expand s) (both_hold (plain (expand s)) e).0 y m)
  where
    plainly : (ss : List SeqStep) → HasStep ss → Plain ss → Rule9 ss
    plainly [] some p = absurd some
    plainly (x ∷ ss) some p = (p.0, p.2)

-- 12: Empties where they belong, as a test and as what it tells.

-- A term, a hop, the steps behind a term, the steps.
empty_term : (x : SeqTerm) → IsEmpty x → is_empty x ≡ true
empty_term (BoolTerm a) i = absurd i
empty_term (Goto b k) i = absurd i
empty_term (Nonconsec b k) i = absurd i
empty_term (ConsecAtLeast b k) i = absurd i
empty_term Empty i = refl

not_empty : (x : SeqTerm) → is_empty x ≡ false → NotEmpty x
not_empty (BoolTerm a) e = tt
not_empty (Goto b k) e = tt
not_empty (Nonconsec b k) e = tt
not_empty (ConsecAtLeast b k) e = tt
not_empty Empty e = absurd (false_is_not_true (sym e))

hop_from_1 : (h : SeqHop) → fixed_from_1 h ≡ true → FixedFrom1 h
hop_from_1 (Fixed zero) e = absurd (false_is_not_true e)
hop_from_1 (Fixed (suc d)) e = tt
hop_from_1 (AtLeast m) e = absurd (false_is_not_true e)

later_empties : (p : SeqTerm) (ss : List SeqStep) → empties_fit (is_empty p) ss ≡ true → EmptiesFit p ss
later_empties p [] e = tt
later_empties p (s ∷ ss) e =
    pick_case (λ b. b ≡ true → EmptiesFit p (s ∷ ss)) (pick (is_empty p) true (is_empty s.term))
    (λ beside fit.
    let (from-1, rest) = both_hold (fixed_from_1 s.hop) fit in
    (λ i. hop_from_1 s.hop from-1, λ i. hop_from_1 s.hop from-1, later_empties s.term ss rest))
    (λ apart rest.
    let (before, here) = second_taken (is_empty p) (λ q. false_is_not_true (sym q)) apart in (
      λ i. absurd (false_is_not_true (sym before ∙ empty_term p i)),
      λ i. absurd (false_is_not_true (sym here ∙ empty_term s.term i)),
      later_empties s.term ss (rw here rest),
    ))
    e

fitting_steps : (ss : List SeqStep) → steps_fit ss ≡ true → Rule12 ss
fitting_steps [] e = absurd (false_is_not_true e)
fitting_steps (s ∷ ss) e =
    let (lead, rest) = second_taken (is_empty s.term) false_is_not_true e in
    (not_empty s.term lead, later_empties s.term ss (rw lead rest))

-- A misplaced alternative would have been found.
found_is_not_nowhere : {i : ℕ} → at i ≡ nowhere → ⊥
found_is_not_nowhere e = let z : ◌≡◌ {A = ℕ} 0 1 = cc in omega arith

-- Rule 12 holds of all alternatives, where none was found.
pub none_misplaced : (i : ℕ) (alts : List SeqAlt) → first_misplaced i alts ≡ nowhere → Every (λ y. Rule12 y.steps) alts
unfolding first_misplaced
none_misplaced i [] e y m = absurd m
none_misplaced i (x ∷ alts) e y (inl same) = rw same (fitting_steps x.steps (first_taken (steps_fit x.steps) found_is_not_nowhere e).0)
none_misplaced i (x ∷ alts) e y (inr m) = none_misplaced (suc i) alts (first_taken (steps_fit x.steps) found_is_not_nowhere e).1 y m
