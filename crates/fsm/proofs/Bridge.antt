-- The machines' stores in words are the words of the stores that `sva_fsm.rs` pushes. They assume nothing.
use mathlib.Core.Path.{◌≡◌, refl, sym, ap, ap₂, ◌∙◌}
use mathlib.Core.List.{List, [], ◌∷◌, ◌++◌, append_assoc}
use Prim.Native.Nat.{ℕ, zero, suc, ◌+◌}
use lib.ListN.{length}
use Rattle.meaning.specs.Tree.{below}
use Rattle.meaning.specs.Expression.{Expr, r·, one·, or·, gto, ncx, crl}
use Rattle.meaning.specs.Machines.{goto_stages, goto_fsm, extension, nonconsec_fsm, run_stages}
use Rattle.meaning.specs.Pipeline.{seed}
use Rattle.meaning.specs.Listing.{expression_words, store_words}
use Rattle.meaning.specs.declared.SeqTerm.{SeqTerm}
use Rattle.meaning.specs.declared.SeqTerm.TheVariants.{Bool as BoolTerm, Goto, Nonconsec, ConsecAtLeast, Empty}
use Rattle.step_text.specs.Text.{atom_word, register_word, one_word, any_word, not_word, and_word, or_word, store_word}
use Rattle.meaning.proofs.Members.{below_is_one_less}
use Rattle.meaning.proofs.Emitted.{store_words_append}
use Rattle.step_text.proofs.Bridge.{goto_fsm_count, take_term, term_words}
use Rattle.fsm.specs.Stores.{machine, available, goto_first, goto_end, goto_stage_words, goto_store_words, nonconsec_store_words, run_stage_words, run_store_words, term_store_words}

goto_stages_stores : (b k r : ℕ) (avail : Expr) → store_words r (goto_stages b r k avail).stores ≡ goto_stage_words b r k (expression_words avail)
unfolding goto_stage_words
goto_stages_stores b zero r avail = refl
goto_stages_stores b (suc k) r avail =
    let A = expression_words avail in
    let own = atom_word b ∷ any_word ∷ not_word ∷ register_word r ∷ and_word ∷ or_word ∷ [] in
    let rest = store_words (suc r) (goto_stages b (suc r) k (r· r)).stores in
    ap (λ (l : List ℕ). atom_word b ∷ any_word ∷ l)
    (append_assoc (A ++ (and_word ∷ [])) own (store_word gto r ∷ rest)
    ∙ append_assoc A (and_word ∷ []) (own ++ (store_word gto r ∷ rest))
    ∙ sym (append_assoc A (goto_end b r) rest)
    ∙ ap (λ (l : List ℕ). (A ++ goto_end b r) ++ l) (goto_stages_stores b k (suc r) (r· r)))

goto_stores : (b k r : ℕ) (act : Expr) → store_words r (goto_fsm b k r act).stores ≡ goto_store_words (machine b k r) (expression_words act)
unfolding goto_store_words
goto_stores b k r act =
    let avail = available r (expression_words act) in
    let end = atom_word b ∷ any_word ∷ not_word ∷ and_word ∷ [] in
    let rest = store_words (suc r) (goto_stages b (suc r) (below k) (or· (r· r) act)).stores in
    append_assoc avail end (store_word gto r ∷ rest)
    ∙ sym (append_assoc avail (end ++ (store_word gto r ∷ [])) rest)
    ∙ ap (λ (l : List ℕ). goto_first (machine b k r) (expression_words act) ++ l)
    (goto_stages_stores b (below k) (suc r) (or· (r· r) act) ∙ ap (λ (z : ℕ). goto_stage_words b (suc r) z avail) (below_is_one_less k))

nonconsec_stores : (b k r : ℕ) (act : Expr) → store_words r (nonconsec_fsm b k r act).stores ≡ nonconsec_store_words (machine b k r) (expression_words act)
unfolding nonconsec_store_words
nonconsec_stores b k r act =
    let o = goto_fsm b k r act in
    let q = r + length o.stores in
    store_words_append r o.stores (extension b q o.cur).stores
    ∙ ap₂ (λ (x y : List ℕ). x ++ y) (goto_stores b k r act)
    (ap₂ (λ (l : List ℕ) (m : ℕ). l ++ (store_word ncx (r + m) ∷ [])) (term_words (Nonconsec b k) r act) (goto_fsm_count b k r act))

run_stages_stores : (b k r : ℕ) (prior : Expr) → store_words r (run_stages b k r prior).stores ≡ expression_words prior ++ run_stage_words b r k
unfolding run_stage_words
run_stages_stores b zero r prior =
    let P = expression_words prior in
    append_assoc (P ++ (register_word r ∷ or_word ∷ [])) (atom_word b ∷ any_word ∷ and_word ∷ []) (store_word crl r ∷ [])
    ∙ append_assoc P (register_word r ∷ or_word ∷ []) (atom_word b ∷ any_word ∷ and_word ∷ store_word crl r ∷ [])
run_stages_stores b (suc k) r prior =
    let P = expression_words prior in
    append_assoc P (atom_word b ∷ any_word ∷ and_word ∷ []) (store_word crl r ∷ store_words (suc r) (run_stages b k (suc r) (r· r)).stores)
    ∙ ap (λ (l : List ℕ). P ++ (atom_word b ∷ any_word ∷ and_word ∷ store_word crl r ∷ l)) (run_stages_stores b k (suc r) (r· r))

run_stores : (b k r : ℕ) (act : Expr) → store_words r (run_stages b (below k) r act).stores ≡ run_store_words (machine b k r) (expression_words act)
unfolding run_store_words
run_stores b k r act = run_stages_stores b (below k) r act ∙ ap (λ (z : ℕ). expression_words act ++ run_stage_words b r z) (below_is_one_less k)

pub term_stores : (x : SeqTerm) (r : ℕ) (act : Expr) → store_words r (take_term x r act).stores ≡ term_store_words r x (expression_words act)
unfolding term_store_words
term_stores (BoolTerm a) r act = refl
term_stores (Goto b k) r act = goto_stores b k r act
term_stores (Nonconsec b k) r act = nonconsec_stores b k r act
term_stores (ConsecAtLeast b k) r act = run_stores b k r act
term_stores Empty r act = refl

pub seed_stores : (x : SeqTerm) (r : ℕ) → store_words r (seed x r).stores ≡ term_store_words r x (one_word ∷ [])
unfolding term_store_words
seed_stores (BoolTerm a) r = refl
seed_stores (Goto b k) r = term_stores (Goto b k) r one·
seed_stores (Nonconsec b k) r = term_stores (Nonconsec b k) r one·
seed_stores (ConsecAtLeast b k) r = term_stores (ConsecAtLeast b k) r one·
seed_stores Empty r = refl
