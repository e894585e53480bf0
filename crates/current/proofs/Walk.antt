-- The walk through the steps, as the code meets it. It assumes nothing.
use mathlib.Core.Path.{◌≡◌, refl, sym, ap, ◌∙◌}
use mathlib.Core.Bool.{Bool, true, false}
use mathlib.Core.List.{List, [], ◌∷◌, ◌++◌, append-nil, append_assoc}
use Prim.Native.Nat.{ℕ, zero, suc, ◌+◌, ◌-◌, ◌<◌, ◌≤◌}
use native.Mathlib.Omega.{arith}
use native.Mathlib.Nat.{add-zero}
use native.Mathlib.Numerals.{add-one}
use borrow.Author.Tests.{eq-eqb, ne_eqb, eqb-false}
use lib.Dec.{eqb}
use Rattle.words.proofs.Taken.{false_is_not_true, both_hold, second_holds}
use Rattle.words.specs.Choice.{pick, pick_true, pick_false, pick_cong}
use Rattle.words.proofs.Laws.{Going}
use Rattle.term.specs.declared.Kept.{Kept}
use Rattle.term.specs.Steps.{term_atom}
use Rattle.term.specs.Keeping.{step_of, guard_of}
use Rattle.meaning.specs.declared.SeqHop.{SeqHop}
use Rattle.meaning.specs.declared.SeqStep.{SeqStep}
use Rattle.step_text.specs.Text.{reach, hop_registers, term_registers, step_registers, hop_keeps, term_keeps, hop_prefix, hop_suffix, term_prefix, term_suffix, hop_base, hop_text, term_text, step_text, lead_text, step_prefix, step_suffix, step_base, BeginsAnew, TermFits, StepFits}
use Rattle.step_text.proofs.Parts.{parts}
use Rattle.current.specs.Text.{registers_at, registers_before, text_at}
use Rattle.current.specs.Walk.{goes_on, base_text, suffixes_after, text_before, Piece, Ready, Tail}

-- The registers of a later step, and of the first.
pub later_registers : (W : List ℕ) (a : Kept) (k : ℕ) → 0 < k → registers_at W a k ≡ step_registers (step_of W a k)
unfolding registers_at
later_registers W a zero h = absurd (omega (arith, h))
later_registers W a (suc k) h = refl

pub lead_registers : (W : List ℕ) (a : Kept) (k : ℕ) → k ≡ 0 → registers_at W a k ≡ term_registers (step_of W a k).term
unfolding registers_at
lead_registers W a k z = rw z refl

base_lead : (W : List ℕ) (a : Kept) (k r : ℕ) → k ≡ 0 → base_text W a k r ≡ lead_text r (step_of W a k).term ++ guard_of W a
unfolding base_text
base_lead W a k r z = pick_true _ _ (eq-eqb k 0 z) ∙ rw z refl

base_later : (W : List ℕ) (a : Kept) (k r : ℕ) → 0 < k → base_text W a k r ≡ step_base (guard_of W a) r (step_of W a k)
unfolding base_text
base_later W a k r h = pick_false _ _ (ne_eqb k 0 (λ (z : k ≡ 0). omega (arith, h)))

module _ {W : List ℕ} {a : Kept} {k r : ℕ} {s : SeqStep} (P : Piece W a k r) (w : s ≡ step_of W a k) where
  piece_atom : term_atom s.term < 65536
  piece_atom = rw w (P.whole.atoms k P.among)

  pub piece_later : 0 < k → StepFits r s
  piece_later h = record { high = omega (arith, P.high, later_registers W a k h, ap step_registers w); atom = piece_atom }

  pub piece_first : k ≡ 0 → TermFits r s.term
  piece_first z = record { high = omega (arith, P.high, lead_registers W a k z, ap (λ (x : SeqStep). term_registers x.term) w); atom = piece_atom }

-- Where the walk back goes on, and where it stops.
goes : (W : List ℕ) (a : Kept) (k : ℕ) → goes_on W a k ≡ true → (0 < k) × (hop_keeps (reach (step_of W a k)) ≡ true) × (term_keeps (step_of W a k).term ≡ true)
unfolding goes_on
goes W a k e =
    let (z, f) = second_holds (eqb k 0) e in
    let (p, q) = both_hold (hop_keeps (reach (step_of W a k))) f in
    let h : k ≡ 0 → ⊥ = eqb-false k 0 z in
    (omega arith, p, q)

one_fails : (b x : Bool) → pick b x false ≡ false → x ≡ true → b ≡ false
unfolding pick
one_fails true x f t = absurd (false_is_not_true (sym f ∙ t))
one_fails false x f t = refl

stops : (W : List ℕ) (a : Kept) (k : ℕ) → goes_on W a k ≡ false → 0 < k → BeginsAnew (step_of W a k)
unfolding goes_on
stops W a k e h = record { anew = one_fails _ _ (sym (pick_false _ _ (ne_eqb k 0 (λ (z : k ≡ 0). omega (arith, h)))) ∙ e) }

-- A step's text, where the walk goes on past it and where it stops at it.
module _ (G : List ℕ) (r : ℕ) (s : SeqStep) (E : List ℕ) where
  kept_text : hop_keeps (reach s) ≡ true → term_keeps s.term ≡ true → step_text G r s E ≡ step_prefix r s ++ (E ++ step_suffix r s)
  unfolding step_text term_text hop_text step_prefix step_suffix
  kept_text p q =
      let q₁ = r + hop_registers (reach s) in
      pick_true _ _ q ∙ rw (pick_true (hop_prefix r (reach s) ++ (E ++ hop_suffix (reach s))) (hop_base G r (reach s)) p)
      (sym (append_assoc (term_prefix q₁ s.term) (hop_prefix r (reach s)) (E ++ (hop_suffix (reach s) ++ term_suffix q₁ s.term))
      ∙ ap (λ (l : List ℕ). term_prefix q₁ s.term ++ l) middle))
    where
      middle : hop_prefix r (reach s) ++ (E ++ (hop_suffix (reach s) ++ term_suffix (r + hop_registers (reach s)) s.term))
          ≡ (hop_prefix r (reach s) ++ (E ++ hop_suffix (reach s))) ++ term_suffix (r + hop_registers (reach s)) s.term
      middle = rw (append_assoc, append_assoc E) refl

  anew_text : BeginsAnew s → step_text G r s E ≡ step_base G r s
  unfolding step_text term_text hop_text step_base
  anew_text B = pick_cong (term_keeps s.term) (λ t. rw (pick_false (hop_prefix r (reach s) ++ (E ++ hop_suffix (reach s))) (hop_base G r (reach s)) (B.anew t)) refl) (λ t. refl)

text_on : (W : List ℕ) (a : Kept) (k r : ℕ) → goes_on W a k ≡ true → text_at W a k r ≡ step_prefix r (step_of W a k) ++ (text_before W a k r ++ step_suffix r (step_of W a k))
unfolding text_at
text_on W a zero r e = absurd (omega (arith, (goes W a zero e).0))
text_on W a (suc k) r e =
    let p : suc k - 1 ≡ k = omega arith in
    let (z, x, y) = goes W a (suc k) e in
    rw p (kept_text (guard_of W a) r (step_of W a (suc k)) (text_at W a k (r - registers_at W a k)) x y)

pub text_base : (W : List ℕ) (a : Kept) (k r : ℕ) → goes_on W a k ≡ false → text_at W a k r ≡ base_text W a k r
unfolding text_at
text_base W a zero r e = sym (base_lead W a zero r refl)
text_base W a (suc k) r e =
    anew_text (guard_of W a) r (step_of W a (suc k)) (text_at W a k (r - registers_at W a k)) (stops W a (suc k) e (omega arith)) ∙ sym (base_later W a (suc k) r (omega arith))

-- How many registers stand before a step, and before one behind it.
pub registers_more : (W : List ℕ) (a : Kept) (k : ℕ) → registers_before W a (k + 1) ≡ registers_before W a k + registers_at W a k
unfolding registers_before
registers_more W a k = rw (add-one k) refl

pub registers_less : (W : List ℕ) (a : Kept) (k : ℕ) → 0 < k → registers_before W a k ≡ registers_before W a (k - 1) + registers_at W a (k - 1)
registers_less W a k h = let e : k ≡ k - 1 + 1 = omega (arith, h) in ap (registers_before W a) e ∙ registers_more W a (k - 1)

registers_up : (W : List ℕ) (a : Kept) (k d : ℕ) → registers_before W a k ≤ registers_before W a (k + d)
registers_up W a k zero = rw (add-zero k) (omega arith)
registers_up W a k (suc d) = let e : k + suc d ≡ k + d + 1 = omega arith in rw e (omega (arith, registers_more W a (k + d), registers_up W a k d))

pub registers_grow : (W : List ℕ) (a : Kept) (k j : ℕ) → k ≤ j → registers_before W a k ≤ registers_before W a j
registers_grow W a k j h = let e : j ≡ k + (j - k) = omega (arith, h) in rw e (registers_up W a k (j - k))

-- One more suffix, and none.
pub suffixes_ahead : (W : List ℕ) (a : Kept) (k r n : ℕ) → 0 < n
    → suffixes_after W a k r n ≡ step_suffix (r + registers_at W a k) (step_of W a (k + 1)) ++ suffixes_after W a (k + 1) (r + registers_at W a k) (n - 1)
unfolding suffixes_after
suffixes_ahead W a k r zero h = absurd (omega (arith, h))
suffixes_ahead W a k r (suc n) h = let e : suc n - 1 ≡ n = omega arith in rw (e, add-one k) refl

pub no_suffixes : (W : List ℕ) (a : Kept) (k r n : ℕ) → n ≡ 0 → suffixes_after W a k r n ≡ []
unfolding suffixes_after
no_suffixes W a k r n e = rw e refl

-- The loop of `suffixes`: k steps are behind, the suffixes of the others remain.
pub record Forth (W : List ℕ) (a : Kept) (o : List ℕ) (at k₀ r₀ j : ℕ) (o' : List ℕ) (p k r : ℕ) : Type 0 where
  pub same : r + registers_before W a k₀ ≡ r₀ + registers_before W a k
  pub going : Going o at (suffixes_after W a k₀ r₀ (j - k₀)) o' p (suffixes_after W a k r (j - k))

module _ {W : List ℕ} {a : Kept} {o : List ℕ} {at k₀ r₀ j : ℕ} {o' : List ℕ} {p k r : ℕ} (T : Tail W a k₀ r₀ j) (B : Forth W a o at k₀ r₀ j o' p k r) (h : k < j) where
  high : r + registers_at W a k + registers_at W a (k + 1) ≤ 65536
  high = omega (arith, T.high, B.same, registers_more W a k, registers_more W a (k + 1), registers_grow W a (k + 1 + 1) (j + 1) (omega (arith, h)))

  pub forth_high : r + registers_at W a k ≤ 65536
  forth_high = omega (arith, high)

  pub forth_fits : {q : ℕ} {s : SeqStep} → q ≡ r + registers_at W a k → s ≡ step_of W a (k + 1) → StepFits q s
  forth_fits e w = piece_later (record { whole = T.whole; among = omega (arith, T.among, h); high = omega (arith, high, e) }) w (omega arith)

pub ruleset forth = (parts, suffixes_ahead, no_suffixes, registers_more)

-- A step back: the step's prefix stands in front of the text before it, and its suffix among those that follow.
pub step_back : (W : List ℕ) (a : Kept) (k r n : ℕ) → goes_on W a k ≡ true → registers_at W a (k - 1) ≤ r
    → text_at W a k r ++ suffixes_after W a k r n ≡ step_prefix r (step_of W a k) ++ (text_before W a k r ++ suffixes_after W a (k - 1) (r - registers_at W a (k - 1)) (n + 1))
unfolding suffixes_after
step_back W a zero r n e h = absurd (omega (arith, (goes W a zero e).0))
step_back W a (suc k) r n e h =
    let p : suc k - 1 ≡ k = omega arith in
    let q : r - registers_at W a k + registers_at W a k ≡ r = omega (arith, rw p at h) in
    rw (text_on W a (suc k) r e, p, add-one n, q, append_assoc, append_assoc (text_at W a k (r - registers_at W a k))) refl

pub stops_at_first : (W : List ℕ) (a : Kept) (k : ℕ) → k ≡ 0 → goes_on W a k ≡ false
unfolding goes_on
stops_at_first W a k z = pick_true _ _ (eq-eqb k 0 z)

pub ruleset back = (parts, append-nil, text_base, stops_at_first, step_back, no_suffixes, registers_more, registers_less, later_registers)

-- The loop of `current`: the text of the k-th step remains, and the suffixes of the steps after it.
pub record Back (W : List ℕ) (a : Kept) (o : List ℕ) (at j r₀ : ℕ) (o' : List ℕ) (p k r : ℕ) : Type 0 where
  pub turn : k ≤ j
  pub piece : Piece W a k r
  pub same : r + registers_before W a j ≡ r₀ + registers_before W a k
  pub going : Going o at (text_at W a j r₀) o' p (text_at W a k r ++ suffixes_after W a k r (j - k))

-- The registers of a later step's hop.
pub reached_small : {W : List ℕ} {a : Kept} {k r : ℕ} {s : SeqStep} {y : SeqHop} → Ready W a k r → 0 < k → s ≡ step_of W a k → y ≡ reach s → r + hop_registers y ≤ 65536
unfolding step_registers
reached_small {W} {a} {k} R h w v = rw (v, w) (omega (arith, R.high, later_registers W a k h))
