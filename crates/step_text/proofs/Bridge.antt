-- The text and the registers of one step are those that `synth_seq_pipeline` gives it: each function of the lowering, in words.
-- They assume nothing.
use mathlib.Core.Path.{◌≡◌, refl, sym, ap, ap₂, ◌∙◌}
use mathlib.Core.List.{List, [], ◌∷◌, ◌++◌, append-nil, append_assoc}
use Prim.Native.Nat.{ℕ, zero, suc, ◌+◌, ◌-◌}
use native.Mathlib.Omega.{arith}
use native.Mathlib.Nat.{add-zero}
use lib.ListN.{length, length-append}
use borrow.Author.Tests.{le-ltb, ne_eqb}
use Rattle.words.specs.Choice.{pick, pick_true, pick_false}
use Rattle.meaning.specs.Tree.{below}
use Rattle.meaning.specs.Expression.{Expr, r·, one·, or·, Store, Synth, synth, chained}
use Rattle.meaning.specs.Alternative.{Guard, unguarded, guard, step}
use Rattle.meaning.specs.Machines.{goto_stages, goto_fsm, extension, nonconsec_fsm, run_stages, consec_run_fsm}
use Rattle.meaning.specs.Pipeline.{guard_and, delays, latch, hop_over, apply_term, seed, later}
use Rattle.meaning.specs.Listing.{expression_words}
use Rattle.meaning.proofs.Members.{below_is_one_less}
use Rattle.meaning.specs.declared.SeqTerm.{SeqTerm}
use Rattle.meaning.specs.declared.SeqTerm.TheVariants.{Bool as BoolTerm, Goto, Nonconsec, ConsecAtLeast, Empty}
use Rattle.meaning.specs.declared.SeqHop.{SeqHop}
use Rattle.meaning.specs.declared.SeqHop.TheVariants.{Fixed, AtLeast}
use Rattle.meaning.specs.declared.SeqStep.{SeqStep}
use Rattle.term.specs.Guards.{guard_words}
use Rattle.step_text.specs.Text.{atom_word, register_word, any_word, and_word, or_word, before_empty, reach, at_least_one, hop_registers, term_registers, step_registers, hop_keeps, term_keeps, hop_prefix, hop_suffix, term_prefix, term_suffix, hop_base, term_base, hop_text, term_text, step_text, lead_text, extension_words}

-- The guard's words behind an expression guard it.
pub guarded_words : (g : Guard) (e : Expr) → expression_words (guard_and g e) ≡ expression_words e ++ guard_words g
guarded_words unguarded e = sym (append-nil (expression_words e))
guarded_words (guard x) e = refl

one_or_more : (k : ℕ) → at_least_one k ≡ suc (below k)
unfolding at_least_one
one_or_more zero = pick_true _ _ refl
one_or_more (suc k) = pick_false _ _ (ne_eqb (suc k) 0 (λ (z : suc k ≡ 0). omega arith))

-- Delays.
pub delays_count : (g : Guard) (d r : ℕ) (e : Expr) → length (delays g d r e).stores ≡ d
delays_count g zero r e = refl
delays_count g (suc d) r e = ap suc (delays_count g d (suc r) (guard_and g (r· r)))

pub delays_words : (g : Guard) (d r : ℕ) (e : Expr) → expression_words (delays g (suc d) r e).cur ≡ register_word (r + d) ∷ guard_words g
delays_words g zero r e = rw (add-zero r) (guarded_words g (r· r))
delays_words g (suc d) r e = let w : r + suc d ≡ suc r + d = omega arith in rw w (delays_words g d (suc r) (guard_and g (r· r)))

-- Hops.
pub hop_count : (g : Guard) (h : SeqHop) (r : ℕ) (e : Expr) → length (hop_over g h r e).stores ≡ hop_registers h
unfolding hop_registers
hop_count g (Fixed d) r e = delays_count g d r e
hop_count g (AtLeast zero) r e = sym (one_or_more zero)
hop_count g (AtLeast (suc m)) r e =
    let o = delays unguarded m r e in
    length-append o.stores (latch (r + length o.stores) o.cur).stores ∙ omega (arith, delays_count unguarded m r e, one_or_more (suc m))

pub hop_words : (g : Guard) (h : SeqHop) (r : ℕ) (e : Expr) → expression_words (hop_over g h r e).cur ≡ hop_text (guard_words g) r h (expression_words e)
unfolding hop_text hop_keeps hop_prefix hop_suffix hop_base pick
hop_words g (Fixed zero) r e = sym (append-nil (expression_words e))
hop_words g (Fixed (suc d)) r e =
    let w : r + suc d - 1 ≡ r + d = omega arith in
    rw (ne_eqb (suc d) 0 (λ (z : suc d ≡ 0). omega arith), w) (delays_words g d r e)
hop_words g (AtLeast zero) r e = refl
hop_words g (AtLeast (suc m)) r e =
    let w : r + suc m - 1 ≡ r + m = omega arith in
    rw (ne_eqb (suc m) 0 (λ (z : suc m ≡ 0). omega arith), w, delays_count unguarded m r e) refl

-- Machines.
pub goto_count : (b k r : ℕ) (avail : Expr) → length (goto_stages b r k avail).stores ≡ k
goto_count b zero r avail = refl
goto_count b (suc k) r avail = ap suc (goto_count b k (suc r) (r· r))

goto_words : (b k r : ℕ) (avail : Expr) → expression_words (goto_stages b r (suc k) avail).cur ≡ atom_word b ∷ any_word ∷ register_word (r + k) ∷ and_word ∷ []
goto_words b zero r avail = rw (add-zero r) refl
goto_words b (suc k) r avail = let w : r + suc k ≡ suc r + k = omega arith in rw w (goto_words b k (suc r) (r· r))

pub run_count : (b k r : ℕ) (prior : Expr) → length (run_stages b k r prior).stores ≡ suc k
run_count b zero r prior = refl
run_count b (suc k) r prior = ap suc (run_count b k (suc r) (r· r))

run_words : (b k r : ℕ) (prior : Expr)
    → expression_words (run_stages b (suc k) r prior).cur ≡ register_word (r + k) ∷ register_word (r + suc k) ∷ or_word ∷ atom_word b ∷ any_word ∷ and_word ∷ []
run_words b zero r prior = let w : r + 1 ≡ suc r = omega arith in rw (add-zero r, w) refl
run_words b (suc k) r prior =
    let w : r + suc k ≡ suc r + k = omega arith in
    let v : r + suc (suc k) ≡ suc r + suc k = omega arith in
    rw (w, v) (run_words b k (suc r) (r· r))

pub goto_fsm_count : (b k r : ℕ) (act : Expr) → length (goto_fsm b k r act).stores ≡ at_least_one k
goto_fsm_count b k r act = ap suc (goto_count b (below k) (suc r) (or· (r· r) act)) ∙ sym (one_or_more k)

goto_fsm_words : (b k r : ℕ) (act : Expr) → expression_words (goto_fsm b k r act).cur ≡ term_text r (Goto b k) (expression_words act)
unfolding term_text term_keeps term_prefix term_suffix term_base pick
goto_fsm_words b zero r act = ap (λ (l : List ℕ). atom_word b ∷ any_word ∷ register_word r ∷ l) (append_assoc (expression_words act) (or_word ∷ []) (and_word ∷ []))
goto_fsm_words b (suc zero) r act = ap (λ (l : List ℕ). atom_word b ∷ any_word ∷ register_word r ∷ l) (append_assoc (expression_words act) (or_word ∷ []) (and_word ∷ []))
goto_fsm_words b (suc (suc k)) r act =
    let w : suc r + k ≡ r + suc (suc k) - 1 = omega arith in
    rw (le-ltb (suc (suc k)) 2 (omega arith), ← w) (goto_words b k (suc r) (or· (r· r) act))

-- A nonconsecutive match is a goto's with its extension behind.
pub nonconsec_text : (r b k : ℕ) (A : List ℕ) → term_text r (Nonconsec b k) A ≡ term_text r (Goto b k) A ++ extension_words b (r + at_least_one k)
unfolding term_text term_keeps term_prefix term_suffix term_base pick
nonconsec_text r b zero A =
    rw (one_or_more zero) (ap (λ (l : List ℕ). atom_word b ∷ any_word ∷ register_word r ∷ l) (sym (append_assoc A (or_word ∷ and_word ∷ []) (extension_words b (r + 1)))))
nonconsec_text r b (suc zero) A =
    rw (one_or_more 1) (ap (λ (l : List ℕ). atom_word b ∷ any_word ∷ register_word r ∷ l) (sym (append_assoc A (or_word ∷ and_word ∷ []) (extension_words b (r + 1)))))
nonconsec_text r b (suc (suc k)) A = rw (one_or_more (suc (suc k)), le-ltb (suc (suc k)) 2 (omega arith)) refl

nonconsec_fsm_words : (b k r : ℕ) (act : Expr) → expression_words (nonconsec_fsm b k r act).cur ≡ term_text r (Nonconsec b k) (expression_words act)
nonconsec_fsm_words b k r act =
    ap₂ (λ (l : List ℕ) (m : ℕ). l ++ extension_words b (r + m)) (goto_fsm_words b k r act) (goto_fsm_count b k r act) ∙ sym (nonconsec_text r b k (expression_words act))

run_fsm_words : (b k r : ℕ) (act : Expr) → expression_words (consec_run_fsm b k r act).cur ≡ term_text r (ConsecAtLeast b k) (expression_words act)
unfolding term_text term_keeps term_prefix term_suffix term_base pick
run_fsm_words b zero r act = append_assoc (expression_words act) (register_word r ∷ or_word ∷ []) (atom_word b ∷ any_word ∷ and_word ∷ [])
run_fsm_words b (suc zero) r act = append_assoc (expression_words act) (register_word r ∷ or_word ∷ []) (atom_word b ∷ any_word ∷ and_word ∷ [])
run_fsm_words b (suc (suc k)) r act =
    let w : r + k ≡ r + suc (suc k) - 2 = omega arith in
    let v : r + suc k ≡ r + suc (suc k) - 1 = omega arith in
    rw (le-ltb (suc (suc k)) 2 (omega arith), ← w, ← v) (run_words b k r act)

-- A later term on its activation. Empty never gets to `apply_term`: it hands on what its hop gives.
abbrev pub take_term : SeqTerm → ℕ → Expr → Synth
take_term (BoolTerm a) r act = apply_term (BoolTerm a) r act
take_term (Goto b k) r act = apply_term (Goto b k) r act
take_term (Nonconsec b k) r act = apply_term (Nonconsec b k) r act
take_term (ConsecAtLeast b k) r act = apply_term (ConsecAtLeast b k) r act
take_term Empty r act = synth [] act

pub term_count : (x : SeqTerm) (r : ℕ) (act : Expr) → length (take_term x r act).stores ≡ term_registers x
unfolding term_registers
term_count (BoolTerm a) r act = refl
term_count (Goto b k) r act = goto_fsm_count b k r act
term_count (Nonconsec b k) r act =
    let o = goto_fsm b k r act in
    length-append o.stores (extension b (r + length o.stores) o.cur).stores ∙ ap (λ (m : ℕ). m + 1) (goto_fsm_count b k r act)
term_count (ConsecAtLeast b k) r act = run_count b (below k) r act ∙ sym (one_or_more k)
term_count Empty r act = refl

pub term_words : (x : SeqTerm) (r : ℕ) (act : Expr) → expression_words (take_term x r act).cur ≡ term_text r x (expression_words act)
unfolding term_text term_keeps term_prefix term_suffix pick
term_words (BoolTerm a) r act = refl
term_words (Goto b k) r act = goto_fsm_words b k r act
term_words (Nonconsec b k) r act = nonconsec_fsm_words b k r act
term_words (ConsecAtLeast b k) r act = run_fsm_words b k r act
term_words Empty r act = sym (append-nil (expression_words act))

-- A later step is its hop, then its term.
nothing_more : (o : Synth) → o ≡ synth (o.stores ++ []) o.cur
nothing_more o = ap (λ (l : List Store). synth l o.cur) (sym (append-nil o.stores))

pub later_parts : (g : Guard) (x : SeqTerm) (h : SeqHop) (r : ℕ) (e : Expr) → later g x h r e ≡ chained r (hop_over g (reach (step x h)) r e) (take_term x)
unfolding reach before_empty pick
later_parts g (BoolTerm a) h r e = refl
later_parts g (Goto b k) h r e = refl
later_parts g (Nonconsec b k) h r e = refl
later_parts g (ConsecAtLeast b k) h r e = refl
later_parts g Empty (Fixed d) r e = ap (λ (m : ℕ). delays g m r e) (below_is_one_less d) ∙ nothing_more (delays g (d - 1) r e)
later_parts g Empty (AtLeast m) r e = nothing_more (synth [] e)

module _ (g : Guard) (s : SeqStep) (r : ℕ) (e : Expr) where
  pub later_count : length (later g s.term s.hop r e).stores ≡ step_registers s
  unfolding step_registers
  later_count =
      ap (λ (o : Synth). length o.stores) (later_parts g s.term s.hop r e)
      ∙ length-append (hop_over g (reach s) r e).stores (take_term s.term (r + length (hop_over g (reach s) r e).stores) (hop_over g (reach s) r e).cur).stores
      ∙ ap₂ (λ (x y : ℕ). x + y) (hop_count g (reach s) r e) (term_count s.term (r + length (hop_over g (reach s) r e).stores) (hop_over g (reach s) r e).cur)

  pub later_words : expression_words (later g s.term s.hop r e).cur ≡ step_text (guard_words g) r s (expression_words e)
  unfolding step_text
  later_words =
      ap (λ (o : Synth). expression_words o.cur) (later_parts g s.term s.hop r e)
      ∙ term_words s.term (r + length (hop_over g (reach s) r e).stores) (hop_over g (reach s) r e).cur
      ∙ ap₂ (λ (z : ℕ) (l : List ℕ). term_text (r + z) s.term l) (hop_count g (reach s) r e) (hop_words g (reach s) r e)

-- The first term, with the guard.
pub seed_count : (x : SeqTerm) (r : ℕ) → length (seed x r).stores ≡ term_registers x
unfolding term_registers
seed_count (BoolTerm a) r = refl
seed_count (Goto b k) r = term_count (Goto b k) r one·
seed_count (Nonconsec b k) r = term_count (Nonconsec b k) r one·
seed_count (ConsecAtLeast b k) r = term_count (ConsecAtLeast b k) r one·
seed_count Empty r = refl

pub seed_words : (x : SeqTerm) (r : ℕ) → expression_words (seed x r).cur ≡ lead_text r x
unfolding lead_text
seed_words (BoolTerm a) r = refl
seed_words (Goto b k) r = term_words (Goto b k) r one·
seed_words (Nonconsec b k) r = term_words (Nonconsec b k) r one·
seed_words (ConsecAtLeast b k) r = term_words (ConsecAtLeast b k) r one·
seed_words Empty r = refl
