-- What `stores` writes is the words of the stores that `synth_seq_pipeline` pushes: `the_stores_are_the_words`. It assumes nothing.
use mathlib.Core.Path.{◌≡◌, refl, sym, ap, ap₂, ◌∙◌}
use mathlib.Core.List.{List, [], ◌∷◌, ◌++◌, append_assoc}
use Prim.Native.Nat.{ℕ, zero, suc, ◌+◌, ◌-◌, ◌<◌}
use native.Mathlib.Omega.{arith}
use native.Mathlib.Nat.{add-zero}
use lib.ListN.{length}
use borrow.Author.Tests.{lt-ltb, le-ltb}
use Rattle.words.specs.Choice.{pick_true, pick_false}
use Rattle.meaning.specs.Expression.{Expr, r·, Synth, seq, arm}
use Rattle.meaning.specs.Alternative.{Guard, unguarded}
use Rattle.meaning.specs.Pipeline.{guard_and, delays, latch, hop_over, seed, later, laters, synth_seq_pipeline}
use Rattle.meaning.specs.Listing.{expression_words, store_words}
use Rattle.meaning.specs.declared.SeqHop.{SeqHop}
use Rattle.meaning.specs.declared.SeqHop.TheVariants.{Fixed, AtLeast}
use Rattle.meaning.specs.declared.SeqStep.{SeqStep}
use Rattle.meaning.proofs.Emitted.{store_words_append}
use Rattle.term.specs.Guards.{guard_words}
use Rattle.term.specs.declared.Kept.{Kept}
use Rattle.term.specs.Keeping.{step_of, guard_of, Stored}
use Rattle.step_text.specs.Text.{register_word, or_word, one_word, store_word, reach, hop_registers, hop_text}
use Rattle.current.specs.Text.{registers_at, registers_before, text_at, activation_at}
use Rattle.step_text.proofs.Bridge.{guarded_words, delays_count, delays_words, hop_count, hop_words, take_term, later_parts}
use Rattle.current.proofs.Bridge.{register_next, the_words_of_a_step, step_count, first_words, first_count}
use Rattle.fsm.specs.Stores.{term_store_words}
use Rattle.fsm.proofs.Bridge.{term_stores, seed_stores}
use Rattle.pipeline.specs.Stores.{delay_store_words, hop_store_words, step_store_words, store_words_after, alternative_store_words}

pub delays_stores : (g : Guard) (d r : ℕ) (e : Expr) → store_words r (delays g d r e).stores ≡ delay_store_words (guard_words g) r d (expression_words e)
unfolding delay_store_words
delays_stores g zero r e = refl
delays_stores g (suc d) r e =
    ap (λ (l : List ℕ). expression_words e ++ (store_word seq r ∷ l))
    (delays_stores g d (suc r) (guard_and g (r· r)) ∙ ap (delay_store_words (guard_words g) (suc r) d) (guarded_words g (r· r)))

-- A latch over no delay.
near_stores : (G : List ℕ) (r m : ℕ) (E : List ℕ) → m < 2 → (register_word r ∷ (E ++ (or_word ∷ []))) ++ (store_word arm r ∷ []) ≡ hop_store_words G r (AtLeast m) E
unfolding hop_store_words
near_stores G r m E h = ap (λ (l : List ℕ). register_word r ∷ l) (append_assoc E (or_word ∷ []) (store_word arm r ∷ [])) ∙ sym (pick_true _ _ (lt-ltb m 2 h))

hop_stores : (g : Guard) (h : SeqHop) (r : ℕ) (e : Expr) → store_words r (hop_over g h r e).stores ≡ hop_store_words (guard_words g) r h (expression_words e)
unfolding hop_store_words
hop_stores g (Fixed d) r e = delays_stores g d r e
hop_stores g (AtLeast zero) r e = near_stores (guard_words g) r 0 (expression_words e) (omega arith)
hop_stores g (AtLeast (suc zero)) r e = rw (add-zero r) (near_stores (guard_words g) r 1 (expression_words e) (omega arith))
hop_stores g (AtLeast (suc (suc m))) r e =
    let o = delays unguarded (suc m) r e in
    let q = r + length o.stores in
    let q₁ : q ≡ r + suc (suc m) - 1 = omega (arith, delays_count unguarded (suc m) r e) in
    let q₂ : r + m ≡ r + suc (suc m) - 2 = omega arith in
    let k : suc m ≡ suc (suc m) - 1 = omega arith in
    store_words_append r o.stores (latch q o.cur).stores
    ∙ ap₂ (λ (x y : List ℕ). x ++ y) (delays_stores unguarded (suc m) r e ∙ ap (λ (z : ℕ). delay_store_words [] r z (expression_words e)) k)
    (ap (λ (l : List ℕ). (register_word q ∷ (l ++ (or_word ∷ []))) ++ (store_word arm q ∷ [])) (delays_words unguarded m r e)
    ∙ ap₂ (λ (x y : ℕ). register_word x ∷ register_word y ∷ or_word ∷ store_word arm x ∷ []) q₁ q₂)
    ∙ sym (pick_false _ _ (le-ltb (suc (suc m)) 2 (omega arith)))

-- A later step: its hop's stores, then its term's.
later_stores : (g : Guard) (s : SeqStep) (r : ℕ) (e : Expr)
    → store_words r (later g s.term s.hop r e).stores
    ≡ hop_store_words (guard_words g) r (reach s) (expression_words e) ++ term_store_words (r + hop_registers (reach s)) s.term (hop_text (guard_words g) r (reach s) (expression_words e))
later_stores g s r e =
    let o = hop_over g (reach s) r e in
    let q = r + length o.stores in
    ap (λ (z : Synth). store_words r z.stores) (later_parts g s.term s.hop r e)
    ∙ store_words_append r o.stores (take_term s.term q o.cur).stores
    ∙ ap₂ (λ (x y : List ℕ). x ++ y) (hop_stores g (reach s) r e)
    (term_stores s.term q o.cur ∙ ap₂ (λ (z : ℕ) (l : List ℕ). term_store_words (r + z) s.term l) (hop_count g (reach s) r e) (hop_words g (reach s) r e))

-- A kept alternative whose steps and guard are known, its stores from register r on.
module _ (W : List ℕ) (a : Kept) (g : Guard) (r : ℕ) (same : guard_of W a ≡ guard_words g) where
  abbrev register : ℕ → ℕ
  register k = r + registers_before W a k

  step_stores : (k : ℕ) (s : SeqStep) (e : Expr) → step_of W a (suc k) ≡ s → expression_words e ≡ text_at W a k (register k)
      → store_words (register (suc k)) (later g s.term s.hop (register (suc k)) e).stores ≡ step_store_words W a (suc k) (register (suc k))
  unfolding step_store_words activation_at
  step_stores k s e i w =
      let l : suc k - 1 ≡ k = omega arith in
      let m : register (suc k) - registers_at W a k ≡ register k = omega (arith, register_next W a r k) in
      later_stores g s (register (suc k)) e ∙ rw (w, ← i, ← same, l, m) refl

  laters_stores : (ss : List SeqStep) (k : ℕ) (e : Expr) → Stored W a (suc k) ss → expression_words e ≡ text_at W a k (register k)
      → store_words (register (suc k)) (laters g ss (register (suc k)) e).stores ≡ store_words_after W a k (register k) (length ss)
  unfolding store_words_after
  laters_stores [] k e S w = refl
  laters_stores (s ∷ ss) k e S w =
      let o = later g s.term s.hop (register (suc k)) e in
      let p = laters g ss (register (suc k) + length o.stores) o.cur in
      store_words_append (register (suc k)) o.stores p.stores
      ∙ rw (step_count W a g r k s e S.0, ← register_next W a r k)
      (ap₂ (λ (x y : List ℕ). x ++ y) (step_stores k s e S.0 w) (laters_stores ss (suc k) o.cur S.1 (the_words_of_a_step W a g r same k s e S.0 w)))

-- The alternative's stores, from its own first register on, are the words that `stores` writes.
pub the_stores_are_the_words : (W : List ℕ) (a : Kept) (g : Guard) → guard_of W a ≡ guard_words g → (s : SeqStep) (ss : List SeqStep) → Stored W a 0 (s ∷ ss)
    → a.steps ≡ length (s ∷ ss) → store_words a.register (synth_seq_pipeline g (s ∷ ss) a.register).stores ≡ alternative_store_words W a
unfolding alternative_store_words registers_before
the_stores_are_the_words W a g same s ss S n =
    let r = a.register in
    let o = seed s.term r in
    let e = guard_and g o.cur in
    let p = laters g ss (r + length o.stores) e in
    let l : a.steps - 1 ≡ length ss = omega (arith, n) in
    let z : r + registers_before W a 0 ≡ r = omega arith in
    store_words_append r o.stores p.stores
    ∙ rw (first_count W a g r s S.0, l)
    (ap₂ (λ (x y : List ℕ). x ++ y) (seed_stores s.term r ∙ ap (λ (x : SeqStep). term_store_words r x.term (one_word ∷ [])) (sym S.0))
    (laters_stores W a g r same ss 0 e S.1 (first_words W a g r same s S.0) ∙ ap (λ (m : ℕ). store_words_after W a 0 m (length ss)) z))
