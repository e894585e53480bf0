-- The words of a choice, alternative by alternative: its assignments, then its match. From the definitions of the source's functions on expressions;
-- nothing is assumed but that there is an alternative. Its registers are a sum, and its length does not depend on the first of them.
use mathlib.Core.Path.{◌≡◌, refl, sym, ap, ap₂, ◌∙◌}
use mathlib.Core.List.{List, [], ◌∷◌, ◌++◌, append-nil, append_assoc}
use Prim.Native.Nat.{ℕ, suc, ◌+◌, ◌≤◌}
use native.Mathlib.Omega.{arith}
use lib.ListN.{length, length-append}
use borrow.Author.Tests.{ne_eqb}
use Rattle.words.specs.Choice.{pick}
use Rattle.meaning.specs.Expression.{Expr, any, or·}
use Rattle.meaning.specs.Alternative.{Guard, unguarded, guard, SeqAlt}
use Rattle.meaning.specs.Pipeline.{synth_seq_pipeline}
use Rattle.meaning.specs.Root.{lone_or_pipeline, match_sigs, or_reduced, choice}
use Rattle.meaning.specs.Listing.{word, expression_words, store_words, listing}
use Rattle.meaning.specs.declared.SeqTerm.{SeqTerm}
use Rattle.meaning.specs.declared.SeqTerm.TheVariants.{Bool as BoolTerm, Goto, Nonconsec, ConsecAtLeast, Empty}
use Rattle.meaning.specs.declared.SeqStep.{SeqStep}
use Rattle.meaning.proofs.Emitted.{store_words_append}
use Rattle.alternative.specs.Alternatives.{registers_in, stores_in}
use Rattle.alternative.proofs.Laws.{as_many_registers, as_long_stores}
use Rattle.choice.specs.ChoiceWords.{root_text_in, all_registers, all_stores, closing, all_texts, match_words, choice_words}
use Rattle.choice.proofs.RootTexts.{as_long_a_root_text}

-- At the root, a lone unguarded Bool has another match; its assignments, none, are those of the pipeline.
root_stores : (g : Guard) (ss : List SeqStep) (r : ℕ) → (lone_or_pipeline g ss r).stores ≡ (synth_seq_pipeline g ss r).stores
root_stores unguarded [] r = refl
root_stores unguarded (s ∷ []) r = by_term s.term
  where
    by_term : (x : SeqTerm) → (lone_or_pipeline unguarded (record { term = x; hop = s.hop } ∷ []) r).stores ≡ (synth_seq_pipeline unguarded (record { term = x; hop = s.hop } ∷ []) r).stores
    by_term (BoolTerm a) = refl
    by_term (Goto b k) = refl
    by_term (Nonconsec b k) = refl
    by_term (ConsecAtLeast b k) = refl
    by_term Empty = refl
root_stores unguarded (s ∷ t ∷ ss) r = refl
root_stores (guard x) ss r = refl

root_registers : (y : SeqAlt) (r : ℕ) → length (lone_or_pipeline y.guard y.steps r).stores ≡ registers_in y
root_registers y r = ap length (root_stores y.guard y.steps r) ∙ as_many_registers y r

-- The registers of a choice are those of its alternatives, added up.
pub the_registers_of_a_choice : (alts : List SeqAlt) (r : ℕ) → length (choice alts r).stores ≡ all_registers alts
unfolding all_registers
the_registers_of_a_choice [] r = refl
the_registers_of_a_choice (y ∷ ys) r =
    let o = lone_or_pipeline y.guard y.steps r in
    let more = the_registers_of_a_choice ys (r + length o.stores) in
    length-append o.stores _ ∙ omega (arith, root_registers y r, more)

-- The assignments of a choice.
the_stores_of_a_choice : (alts : List SeqAlt) (r : ℕ) → store_words r (choice alts r).stores ≡ all_stores alts r
unfolding all_stores stores_in
the_stores_of_a_choice [] r = refl
the_stores_of_a_choice (y ∷ ys) r =
    let o = lone_or_pipeline y.guard y.steps r in
    store_words_append r o.stores (match_sigs ys (r + length o.stores)).stores
    ∙ ap₂ (λ (l m : List ℕ). l ++ m) (ap (store_words r) (root_stores y.guard y.steps r))
    (the_stores_of_a_choice ys (r + length o.stores) ∙ ap (λ (q : ℕ). all_stores ys (r + q)) (root_registers y r))

-- The signals behind the first, each reduced by OR and joined.
joined_words : List Expr → List ℕ
joined_words [] = []
joined_words (e ∷ es) = expression_words e ++ (word 5 0 ∷ word 8 0 ∷ joined_words es)

or_reduced_words : (acc : Expr) (es : List Expr) → expression_words (or_reduced acc es) ≡ expression_words acc ++ joined_words es
unfolding joined_words
or_reduced_words acc [] = sym (append-nil (expression_words acc))
or_reduced_words acc (e ∷ es) = or_reduced_words (or· acc (any e)) es ∙ simp append_assoc

-- What stands behind an alternative: nothing where it is the only one, else its reduction and, from the second on, its OR.
closes_alone : (i : ℕ) → closing 1 i ≡ []
unfolding closing pick
closes_alone i = refl

closes_first : (k : ℕ) → closing (suc (suc k)) 0 ≡ word 5 0 ∷ []
unfolding closing pick
closes_first k = rw (ne_eqb (suc (suc k)) 1 (λ e. omega arith)) refl

closes_later : (k i : ℕ) → closing (suc (suc k)) (i + 1) ≡ word 5 0 ∷ word 8 0 ∷ []
unfolding closing pick
closes_later k i = rw (ne_eqb (suc (suc k)) 1 (λ e. omega arith), ne_eqb (i + 1) 0 (λ e. omega arith)) refl

-- The signals from the second on, of at least two.
later_texts : (k i : ℕ) (ys : List SeqAlt) (r : ℕ) → all_texts (suc (suc k)) (i + 1) ys r ≡ joined_words (match_sigs ys r).curs
unfolding all_texts root_text_in joined_words
later_texts k i [] r = refl
later_texts k i (y ∷ ys) r =
    let o = lone_or_pipeline y.guard y.steps r in
    ap (λ (l : List ℕ). expression_words o.cur ++ (l ++ all_texts (suc (suc k)) (i + 1 + 1) ys (r + registers_in y))) (closes_later k i)
    ∙ ap (λ (l : List ℕ). expression_words o.cur ++ (word 5 0 ∷ word 8 0 ∷ l))
    (later_texts k (i + 1) ys (r + registers_in y) ∙ ap (λ (q : ℕ). joined_words (match_sigs ys (r + q)).curs) (sym (root_registers y r)))

-- The match of a choice.
the_match_of_a_choice : (alts : List SeqAlt) (r : ℕ) → 1 ≤ length alts → expression_words (choice alts r).cur ≡ all_texts (length alts) 0 alts r
unfolding all_texts root_text_in
the_match_of_a_choice [] r some = absurd (omega arith)
the_match_of_a_choice (y ∷ []) r some = rw (closes_alone 0, append-nil) refl
the_match_of_a_choice (y ∷ z ∷ ys) r some =
    let o = lone_or_pipeline y.guard y.steps r in
    or_reduced_words (any o.cur) (match_sigs (z ∷ ys) (r + length o.stores)).curs
    ∙ append_assoc (expression_words o.cur) (word 5 0 ∷ []) _
    ∙ ap (λ (l : List ℕ). expression_words o.cur ++ (word 5 0 ∷ l))
    (ap (λ (q : ℕ). joined_words (match_sigs (z ∷ ys) (r + q)).curs) (root_registers y r)
    ∙ sym (later_texts (length ys) 0 (z ∷ ys) (r + registers_in y)))
    ∙ ap (λ (l : List ℕ). expression_words o.cur ++ (l ++ all_texts (suc (suc (length ys))) 1 (z ∷ ys) (r + registers_in y))) (sym (closes_first (length ys)))

-- The whole listing.
pub the_listing_of_a_choice : (alts : List SeqAlt) (r : ℕ) → 1 ≤ length alts → listing r (choice alts r) ≡ choice_words alts r
unfolding choice_words match_words
the_listing_of_a_choice alts r some = rw (the_stores_of_a_choice alts r, the_match_of_a_choice alts r some) refl

-- From any register on there are as many words.
pub as_long_all_stores : (alts : List SeqAlt) (r : ℕ) → length (all_stores alts r) ≡ length (all_stores alts 0)
unfolding all_stores
as_long_all_stores [] r = refl
as_long_all_stores (y ∷ ys) r =
    let here = length-append (stores_in y r) (all_stores ys (r + registers_in y)) in
    let there = length-append (stores_in y 0) (all_stores ys (0 + registers_in y)) in
    omega (arith, as_long_stores y r, as_long_all_stores ys (r + registers_in y), as_long_all_stores ys (0 + registers_in y))

pub as_long_all_texts : (count i : ℕ) (alts : List SeqAlt) (r : ℕ) → length (all_texts count i alts r) ≡ length (all_texts count i alts 0)
unfolding all_texts
as_long_all_texts count i [] r = refl
as_long_all_texts count i (y ∷ ys) r =
    let closed = closing count i in
    let here = all_texts count (i + 1) ys (r + registers_in y) in
    let there = all_texts count (i + 1) ys (0 + registers_in y) in
    let same = as_long_all_texts count (i + 1) ys (r + registers_in y) ∙ sym (as_long_all_texts count (i + 1) ys (0 + registers_in y)) in
    let parts = length-append (root_text_in y r) (closed ++ here) in
    let parts_there = length-append (root_text_in y 0) (closed ++ there) in
    omega (arith, as_long_a_root_text y r, length-append closed here, length-append closed there, same)

-- All words of a choice, counted part by part.
pub length_of_a_choice : (alts : List SeqAlt) (r : ℕ) → length (choice_words alts r) ≡ length (all_stores alts r) + length (match_words alts r)
unfolding choice_words
length_of_a_choice alts r = length-append (all_stores alts r) (match_words alts r)

pub length_of_a_match : (alts : List SeqAlt) (r : ℕ) → length (match_words alts r) ≡ length (all_texts (length alts) 0 alts r) + 1
unfolding match_words
length_of_a_match alts r = length-append (all_texts (length alts) 0 alts r) (word 14 0 ∷ [])

pub as_long_a_choice : (alts : List SeqAlt) (r : ℕ) → length (choice_words alts r) ≡ length (choice_words alts 0)
as_long_a_choice alts r =
    let any_stores = as_long_all_stores alts r in
    let any_texts = as_long_all_texts (length alts) 0 alts r in
    omega (arith, length_of_a_choice alts r, length_of_a_choice alts 0, length_of_a_match alts r, length_of_a_match alts 0)
