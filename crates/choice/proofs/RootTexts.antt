-- The match of one alternative at the root: the bare atom of a lone unguarded Bool, else the alternative's text. What is read of a kept alternative
-- is what the alternative has.
use mathlib.Core.Path.{◌≡◌, refl, sym, ap, ap₂, ◌∙◌}
use mathlib.Core.List.{List, [], ◌∷◌}
use Prim.Native.Nat.{ℕ, ◌+◌, ◌≤◌, ◌<◌}
use native.Mathlib.Omega.{arith}
use mir.Syntax.{w32}
use mir.Val.{Fits}
use lib.Dec.{eqb}
use lib.ListN.{length, length-append}
use borrow.Author.Tests.{eq-eqb, ne_eqb}
use Rattle.std.specs.Prelude.{Option, Some, None}
use Rattle.words.specs.Choice.{pick_true, pick_false, pick_case}
use Rattle.words.specs.Written.{Wrote}
use Rattle.meaning.specs.Expression.{Expr}
use Rattle.meaning.specs.Alternative.{Guard, unguarded, guard, SeqAlt, alternative}
use Rattle.meaning.specs.Pipeline.{synth_seq_pipeline}
use Rattle.meaning.specs.Root.{lone_or_pipeline}
use Rattle.meaning.specs.Listing.{word, expression_words}
use Rattle.meaning.specs.declared.SeqTerm.{SeqTerm}
use Rattle.meaning.specs.declared.SeqTerm.TheVariants.{Bool as BoolTerm, Goto, Nonconsec, ConsecAtLeast, Empty}
use Rattle.meaning.specs.declared.SeqStep.{SeqStep}
use Rattle.term.specs.declared.Kept.{Kept}
use Rattle.term.specs.Steps.{term_atom}
use Rattle.term.specs.Keeping.{step_of, Whole}
use Rattle.term.specs.Guards.{guard_words}
use Rattle.term.proofs.Keeping.{length_of_guard}
use Rattle.step_text.specs.Text.{atom_word}
use Rattle.sizes.specs.declared.Size.{Size}
use Rattle.sizes.specs.Sizes.{Countable, most_words}
use Rattle.alternative.specs.Alternatives.{stores_in, text_in}
use Rattle.alternative.specs.Keeping.{Holds, kept_text, kept_size}
use Rattle.alternative.proofs.Laws.{kept_many, kept_steps, kept_stores, kept_texts, few_stores, as_long_stores, as_long_a_text}
use Rattle.choice.specs.RootText.{bool_of, lone_in, bare_or, kept_root_text, kept_root_size}
use Rattle.choice.specs.ChoiceWords.{root_text_in}

-- An alternative that is a lone unguarded Bool, and which.
lone_of : Guard → List SeqStep → Option ℕ
lone_of unguarded [] = None
lone_of unguarded (s ∷ []) = bool_of s.term
lone_of unguarded (s ∷ t ∷ ss) = None
lone_of (guard x) ss = None

module _ (r : ℕ) where
  lone_text : (g : Guard) (ss : List SeqStep) → expression_words (lone_or_pipeline g ss r).cur ≡ bare_or (lone_of g ss) (expression_words (synth_seq_pipeline g ss r).cur)
  unfolding lone_of bool_of
  lone_text unguarded [] = refl
  lone_text unguarded (s ∷ []) = by_term s.term
    where
      by_term : (x : SeqTerm) → expression_words (lone_or_pipeline unguarded (record { term = x; hop = s.hop } ∷ []) r).cur ≡ bare_or (bool_of x) (expression_words (synth_seq_pipeline unguarded (record { term = x; hop = s.hop } ∷ []) r).cur)
      by_term (BoolTerm a) = refl
      by_term (Goto b k) = refl
      by_term (Nonconsec b k) = refl
      by_term (ConsecAtLeast b k) = refl
      by_term Empty = refl
  lone_text unguarded (s ∷ t ∷ ss) = refl
  lone_text (guard x) ss = refl

  its_root_text : (y : SeqAlt) → root_text_in y r ≡ bare_or (lone_of y.guard y.steps) (text_in y r)
  unfolding root_text_in text_in
  its_root_text y = lone_text y.guard y.steps

-- A root text has as many words from any register on.
pub as_long_a_root_text : (y : SeqAlt) (r : ℕ) → length (root_text_in y r) ≡ length (root_text_in y 0)
as_long_a_root_text y r = ap length (its_root_text r y) ∙ as_long (lone_of y.guard y.steps) ∙ sym (ap length (its_root_text 0 y))
  where
    as_long : (l : Option ℕ) → length (bare_or l (text_in y r)) ≡ length (bare_or l (text_in y 0))
    as_long (Some a) = refl
    as_long None = as_long_a_text y r

-- A guard has a closing word, if nothing else.
a_guard_has_words : (x : Expr) → length (guard_words (guard x)) ≡ 0 → ⊥
a_guard_has_words x z = omega (arith, length-append (expression_words x) (word 7 0 ∷ []))

-- A kept alternative is told from the others by its steps and its guard.
module _ {W : List ℕ} {a : Kept} {r : ℕ} where
  guard_length : {y : SeqAlt} → Holds W a y r → a.end ≡ a.guard + length (guard_words y.guard)
  guard_length H = omega (arith, length_of_guard H.whole, ap length H.guard, H.whole.order)

  lone_kept : (g : Guard) (ss : List SeqStep) → Holds W a (alternative ss g) r → lone_in W a ≡ lone_of g ss
  unfolding lone_in lone_of
  lone_kept unguarded [] H = absurd (omega (arith, kept_many H, H.whole.some))
  lone_kept unguarded (s ∷ []) H =
      pick_true _ _ (eq-eqb a.steps 1 (kept_many H)) ∙ pick_true _ _ (eq-eqb a.guard a.end (omega (arith, guard_length H)))
      ∙ ap (λ (s : SeqStep). bool_of s.term) (kept_steps H).0
  lone_kept unguarded (s ∷ t ∷ ss) H = pick_false _ _ (ne_eqb a.steps 1 (λ e. omega (arith, kept_many H)))
  lone_kept (guard x) ss H =
      pick_case (λ (l : Option ℕ). l ≡ None) (eqb a.steps 1)
      (λ _. pick_false _ _ (ne_eqb a.guard a.end (λ e. a_guard_has_words x (omega (arith, guard_length H))))) (λ _. refl)

module _ {W : List ℕ} {a : Kept} {y : SeqAlt} {r : ℕ} (H : Holds W a y r) where
  pub kept_root_texts : kept_root_text W a ≡ root_text_in y r
  unfolding kept_root_text
  kept_root_texts = ap₂ bare_or (lone_kept y.guard y.steps H) (kept_texts H) ∙ sym (its_root_text r y)

  pub kept_root_sizes : kept_root_size W a ≡ length (stores_in y 0) + length (root_text_in y 0)
  unfolding kept_root_size
  kept_root_sizes = omega (arith, ap length (kept_stores H), ap length kept_root_texts, as_long_stores y r, as_long_a_root_text y r)

-- The atom that is told is that of the first term.
atom_of : (x : SeqTerm) (b : ℕ) → bool_of x ≡ Some b → term_atom x ≡ b
unfolding bool_of
atom_of (BoolTerm a) b e = cc
atom_of (Goto a k) b e = absurd (let z : ◌≡◌ {A = ℕ} 0 1 = cc in omega arith)
atom_of (Nonconsec a k) b e = absurd (let z : ◌≡◌ {A = ℕ} 0 1 = cc in omega arith)
atom_of (ConsecAtLeast a k) b e = absurd (let z : ◌≡◌ {A = ℕ} 0 1 = cc in omega arith)
atom_of Empty b e = absurd (let z : ◌≡◌ {A = ℕ} 0 1 = cc in omega arith)

lone_atom : (W : List ℕ) (a : Kept) (b : ℕ) → lone_in W a ≡ Some b → term_atom (step_of W a 0).term ≡ b
unfolding lone_in
lone_atom W a b e =
    pick_case (λ (l : Option ℕ). l ≡ Some b → term_atom (step_of W a 0).term ≡ b) (eqb a.steps 1)
    (λ _. pick_case (λ (l : Option ℕ). l ≡ Some b → term_atom (step_of W a 0).term ≡ b) (eqb a.guard a.end) (λ _ q. atom_of (step_of W a 0).term b q) (λ _ q. absurd (let z : ◌≡◌ {A = ℕ} 0 1 = cc in omega arith)))
    (λ _ q. absurd (let z : ◌≡◌ {A = ℕ} 0 1 = cc in omega arith)) e

module _ (W : List ℕ) (a : Kept) {l : Option ℕ} (p : l ≡ lone_in W a) where
  -- `root_text` and `root_size` of a bare atom.
  module _ {b : ℕ} (e : l ≡ Some b) where
    bare_text : kept_root_text W a ≡ atom_word b ∷ []
    unfolding kept_root_text
    bare_text = rw (← p, e) refl

    pub bare_fits : Whole W a → Fits w32 (16777216 + b)
    bare_fits whole = let small : b < 65536 = rw (← lone_atom W a b (sym p ∙ e)) (whole.atoms 0 whole.some) in omega arith

    pub bare_room : (o : List ℕ) (at : ℕ) → at + length (kept_root_text W a) ≤ length o → at < length o
    bare_room o at room = let w : at + 1 ≤ length o = rw bare_text at room in omega arith

    pub bare_written : {o o₁ : List ℕ} {at q : ℕ} → Wrote o o₁ at q ((16777216 + b) ∷ []) → Wrote o o₁ at q (kept_root_text W a)
    bare_written w = rw bare_text w

    pub bare_size : {z : Size} → z ≡ kept_size W a → z.stores + 1 ≡ kept_root_size W a
    unfolding kept_root_size kept_size
    bare_size q = rw (bare_text, q) refl

    pub bare_small : {z : Size} → Countable W a → z ≡ kept_size W a → z.stores + 1 ≤ most_words
    unfolding kept_size
    bare_small C q = rw q (omega (arith, few_stores C))

  -- `root_text` and `root_size` of what is no bare atom: the alternative's text.
  module _ (e : l ≡ None) where
    other_text : kept_root_text W a ≡ kept_text W a
    unfolding kept_root_text
    other_text = rw (← p, e) refl

    pub other_room : (o : List ℕ) (at : ℕ) → at + length (kept_root_text W a) ≤ length o → at + length (kept_text W a) ≤ length o
    other_room o at room = rw other_text at room

    pub other_written : {o o₁ : List ℕ} {at q : ℕ} → Wrote o o₁ at q (kept_text W a) → Wrote o o₁ at q (kept_root_text W a)
    other_written w = rw other_text w

    pub other_size : {z : Size} → z ≡ kept_size W a → z.stores + z.text ≡ kept_root_size W a
    unfolding kept_root_size kept_size
    other_size q = rw (other_text, q) refl

pub ruleset root_sizes = (bare_size, bare_small, other_size)
