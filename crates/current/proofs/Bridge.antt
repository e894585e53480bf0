-- The texts and registers of the steps are those of `synth_seq_pipeline`, step after step.
-- `the_current_expression_is_the_text` and `the_registers_are_counted` are the two that others cite. They assume nothing.
use mathlib.Core.Path.{◌≡◌, refl, sym, ap₂, ◌∙◌}
use mathlib.Core.List.{List, [], ◌∷◌, ◌++◌}
use Prim.Native.Nat.{ℕ, suc, ◌+◌, ◌-◌}
use native.Mathlib.Omega.{arith}
use native.Mathlib.Nat.{add-zero, zero-add}
use lib.ListN.{length, length-append}
use Rattle.meaning.specs.Expression.{Expr}
use Rattle.meaning.specs.Alternative.{Guard}
use Rattle.meaning.specs.Pipeline.{guard_and, seed, later, laters, synth_seq_pipeline}
use Rattle.meaning.specs.Listing.{expression_words}
use Rattle.meaning.specs.declared.SeqStep.{SeqStep}
use Rattle.term.specs.Guards.{guard_words}
use Rattle.term.specs.declared.Kept.{Kept}
use Rattle.term.specs.Keeping.{step_of, guard_of, Stored}
use Rattle.step_text.specs.Text.{step_text, lead_text}
use Rattle.current.specs.Text.{registers_at, registers_before, text_at}
use Rattle.step_text.proofs.Bridge.{guarded_words, later_count, later_words, seed_count, seed_words}

-- The step k + 1 of a kept alternative whose first register is r.
pub register_next : (W : List ℕ) (a : Kept) (r k : ℕ) → r + registers_before W a (suc k) ≡ r + registers_before W a k + registers_at W a k
unfolding registers_before
register_next W a r k = omega arith

pub text_next : (W : List ℕ) (a : Kept) (r k : ℕ)
    → text_at W a (suc k) (r + registers_before W a (suc k)) ≡ step_text (guard_of W a) (r + registers_before W a (suc k)) (step_of W a (suc k)) (text_at W a k (r + registers_before W a k))
unfolding text_at
text_next W a r k =
    let e : r + registers_before W a (suc k) - registers_at W a k ≡ r + registers_before W a k = omega (arith, register_next W a r k) in
    rw e refl

module _ (W : List ℕ) (a : Kept) (g : Guard) (r : ℕ) where
  -- The registers of the first step, and of each later one.
  pub first_count : (s : SeqStep) → step_of W a 0 ≡ s → r + length (seed s.term r).stores ≡ r + registers_before W a 1
  unfolding registers_before registers_at
  first_count s i = rw (seed_count s.term r, i) (omega arith)

  pub step_count : (k : ℕ) (s : SeqStep) (e : Expr) → step_of W a (suc k) ≡ s
      → r + registers_before W a (suc k) + length (later g s.term s.hop (r + registers_before W a (suc k)) e).stores ≡ r + registers_before W a (suc (suc k))
  unfolding registers_before registers_at
  step_count k s e i = rw (later_count g s (r + registers_before W a (suc k)) e, i) (omega arith)

  laters_count : (ss : List SeqStep) (k : ℕ) (e : Expr) → Stored W a (suc k) ss
      → registers_before W a (suc k) + length (laters g ss (r + registers_before W a (suc k)) e).stores ≡ registers_before W a (suc k + length ss)
  laters_count [] k e S = rw (add-zero (suc k)) (omega arith)
  laters_count (s ∷ ss) k e S =
      let o = later g s.term s.hop (r + registers_before W a (suc k)) e in
      let p = laters g ss (r + registers_before W a (suc k) + length o.stores) o.cur in
      let l : suc k + suc (length ss) ≡ suc (suc k) + length ss = omega arith in
      let c : registers_before W a (suc (suc k)) + length p.stores ≡ registers_before W a (suc (suc k) + length ss) = rw (step_count k s e S.0) (laters_count ss (suc k) o.cur S.1) in
      rw l (omega (arith, c, length-append o.stores p.stores, step_count k s e S.0))

  -- The text after the first step, and after each later one, where its guard is kept.
  module _ (same : guard_of W a ≡ guard_words g) where
    abbrev text_after : ℕ → List ℕ
    text_after k = text_at W a k (r + registers_before W a k)

    pub first_words : (s : SeqStep) → step_of W a 0 ≡ s → expression_words (guard_and g (seed s.term r).cur) ≡ text_after 0
    unfolding text_at registers_before
    first_words s i =
        guarded_words g (seed s.term r).cur
        ∙ ap₂ (λ (l G : List ℕ). l ++ G) (seed_words s.term r ∙ ap₂ (λ (q : ℕ) (x : SeqStep). lead_text q x.term) (sym (add-zero r)) (sym i)) (sym same)

    pub the_words_of_a_step : (k : ℕ) (s : SeqStep) (e : Expr) → step_of W a (suc k) ≡ s → expression_words e ≡ text_after k
        → expression_words (later g s.term s.hop (r + registers_before W a (suc k)) e).cur ≡ text_after (suc k)
    the_words_of_a_step k s e i w = later_words g s (r + registers_before W a (suc k)) e ∙ rw (w, ← i, ← same) (sym (text_next W a r k))

    laters_words : (ss : List SeqStep) (k : ℕ) (e : Expr) → Stored W a (suc k) ss → expression_words e ≡ text_after k
        → expression_words (laters g ss (r + registers_before W a (suc k)) e).cur ≡ text_after (k + length ss)
    laters_words [] k e S w = rw (add-zero k) w
    laters_words (s ∷ ss) k e S w =
        let o = later g s.term s.hop (r + registers_before W a (suc k)) e in
        let l : k + suc (length ss) ≡ suc k + length ss = omega arith in
        rw (l, step_count k s e S.0) (laters_words ss (suc k) o.cur S.1 (the_words_of_a_step k s e S.0 w))

    -- What `current` writes after the last step is the alternative's expression.
    pub the_current_expression_is_the_text : (s : SeqStep) (ss : List SeqStep) → Stored W a 0 (s ∷ ss)
        → expression_words (synth_seq_pipeline g (s ∷ ss) r).cur ≡ text_after (length ss)
    the_current_expression_is_the_text s ss S =
        let e = guard_and g (seed s.term r).cur in
        rw (first_count s S.0) (laters_words ss 0 e S.1 (first_words s S.0) ∙ rw (zero-add (length ss)) refl)

  -- The steps' registers are the alternative's stores.
  pub the_registers_are_counted : (s : SeqStep) (ss : List SeqStep) → Stored W a 0 (s ∷ ss)
      → length (synth_seq_pipeline g (s ∷ ss) r).stores ≡ registers_before W a (length (s ∷ ss))
  the_registers_are_counted s ss S =
      let o = seed s.term r in
      let e = guard_and g o.cur in
      let p = laters g ss (r + length o.stores) e in
      let c : registers_before W a 1 + length p.stores ≡ registers_before W a (suc 0 + length ss) = rw (first_count s S.0) (laters_count ss 0 e S.1) in
      let l : suc 0 + length ss ≡ suc (length ss) = omega arith in
      rw (← l) (omega (arith, c, length-append o.stores p.stores, first_count s S.0))
