-- The sizes are the lengths of the words: `the_text_has_its_size` and `the_stores_have_their_size`. They assume nothing.
use mathlib.Core.Path.{◌≡◌, refl, sym, ap, ap₂, ◌∙◌}
use mathlib.Core.Bool.{Bool, true, false}
use mathlib.Core.List.{List, [], ◌∷◌, ◌++◌}
use Prim.Native.Nat.{ℕ, zero, suc, ◌+◌, ◌*◌, ◌-◌}
use native.Mathlib.Omega.{arith}
use native.Mathlib.Nat.{add-zero, zero-add, suc-mul, zero-mul}
use lib.Dec.{eqb, ltb}
use lib.ListN.{length, length-append}
use borrow.Author.Tests.{ltb-true, ltb-false, ne_eqb}
use Rattle.words.specs.Choice.{pick, pick_true, pick_false, pick_case}
use Rattle.meaning.specs.Expression.{seq, arm, gto, ncx}
use Rattle.meaning.specs.declared.SeqTerm.{SeqTerm}
use Rattle.meaning.specs.declared.SeqTerm.TheVariants.{Bool as BoolTerm, Goto, Nonconsec, ConsecAtLeast, Empty}
use Rattle.meaning.specs.declared.SeqHop.{SeqHop}
use Rattle.meaning.specs.declared.SeqHop.TheVariants.{Fixed, AtLeast}
use Rattle.term.specs.declared.Kept.{Kept}
use Rattle.term.specs.Keeping.{step_of, guard_of}
use Rattle.step_text.specs.Text.{atom_word, register_word, one_word, any_word, not_word, and_word, or_word, store_word, reach, at_least_one, hop_registers, hop_keeps, term_keeps, hop_prefix, hop_suffix, term_prefix, term_suffix, hop_base, term_base, hop_text, term_text, step_text, lead_text}
use Rattle.current.specs.Text.{registers_at, text_at, activation_at}
use Rattle.fsm.specs.Stores.{machine, available, goto_first, goto_end, goto_stage, goto_stage_words, goto_store_words, nonconsec_store_words, run_stage_words, run_store_words, term_store_words}
use Rattle.pipeline.specs.Stores.{delay_store_words, late_latch_words, hop_store_words, step_store_words, store_words_after, later_store_words, alternative_store_words}
use Rattle.sizes.specs.Sizes.{hop_text_size, term_text_size, lead_text_size, delays_size, hop_stores_size, goto_size, run_size, term_stores_size, step_size, first_size, size_up_to_step}

-- The length of a choice.
length-pick : (b : Bool) (x y : List ℕ) {m n : ℕ} → length x ≡ m → length y ≡ n → length (pick b x y) ≡ pick b m n
unfolding pick
length-pick true x y e f = e
length-pick false x y e f = f

-- Texts.
hop_text_length : (G : List ℕ) (r : ℕ) (h : SeqHop) (E : List ℕ) → length (hop_text G r h E) ≡ hop_text_size (length G) h (length E)
unfolding hop_text hop_keeps hop_prefix hop_suffix hop_base hop_text_size
hop_text_length G r (Fixed d) E = length-pick (eqb d 0) _ _ (omega (arith, length-append E [])) (omega arith)
hop_text_length G r (AtLeast m) E = length-pick (eqb m 0) _ _ (omega (arith, length-append E (or_word ∷ []))) refl

term_text_length : (r : ℕ) (x : SeqTerm) (A : List ℕ) → length (term_text r x A) ≡ term_text_size x (length A)
unfolding term_text term_keeps term_prefix term_suffix term_base term_text_size
term_text_length r (BoolTerm a) A = ap length (pick_true _ _ refl) ∙ length-append A (atom_word a ∷ any_word ∷ and_word ∷ [])
term_text_length r (Goto b count) A = length-pick (ltb count 2) _ _ (omega (arith, length-append A (or_word ∷ and_word ∷ []))) refl
term_text_length r (Nonconsec b count) A =
    length-pick (ltb count 2) _ _
    (omega (arith, length-append A (or_word ∷ and_word ∷ register_word (r + 1) ∷ atom_word b ∷ any_word ∷ not_word ∷ and_word ∷ or_word ∷ [])))
    refl
term_text_length r (ConsecAtLeast b count) A = length-pick (ltb count 2) _ _ (length-append A (register_word r ∷ or_word ∷ atom_word b ∷ any_word ∷ and_word ∷ [])) refl
term_text_length r Empty A = ap length (pick_true _ _ refl) ∙ omega (arith, length-append A [])

lead_text_length : (r : ℕ) (x : SeqTerm) → length (lead_text r x) ≡ lead_text_size x
unfolding lead_text lead_text_size
lead_text_length r (BoolTerm a) = refl
lead_text_length r (Goto b count) = term_text_length r (Goto b count) (one_word ∷ [])
lead_text_length r (Nonconsec b count) = term_text_length r (Nonconsec b count) (one_word ∷ [])
lead_text_length r (ConsecAtLeast b count) = term_text_length r (ConsecAtLeast b count) (one_word ∷ [])
lead_text_length r Empty = refl

-- What `current` writes after the k-th step has the size of its text, whatever its first register is.
pub the_text_has_its_size : (W : List ℕ) (a : Kept) (k r : ℕ) → length (text_at W a k r) ≡ (size_up_to_step W a k).text
unfolding text_at size_up_to_step first_size step_size step_text
the_text_has_its_size W a zero r =
    let x = (step_of W a 0).term in
    length-append (lead_text r x) (guard_of W a) ∙ ap (λ (m : ℕ). m + length (guard_of W a)) (lead_text_length r x)
the_text_has_its_size W a (suc k) r =
    let G = guard_of W a in
    let s = step_of W a (suc k) in
    let E = text_at W a k (r - registers_at W a k) in
    term_text_length (r + hop_registers (reach s)) s.term (hop_text G r (reach s) E)
    ∙ ap (term_text_size s.term) (hop_text_length G r (reach s) E ∙ ap (hop_text_size (length G) (reach s)) (the_text_has_its_size W a k (r - registers_at W a k)))

-- Stores of delays and of a hop.
delays_from : (G : List ℕ) (r d : ℕ) (E : List ℕ) → length E ≡ 1 + length G → length (delay_store_words G r d E) ≡ d * (2 + length G)
unfolding delay_store_words
delays_from G r zero E e = sym (zero-mul (2 + length G))
delays_from G r (suc d) E e =
    let more = delay_store_words G (suc r) d (register_word r ∷ G) in
    length-append E (store_word seq r ∷ more) ∙ rw (suc-mul d (2 + length G)) (omega (arith, e, delays_from G (suc r) d (register_word r ∷ G) (omega arith)))

some_delays_length : (G : List ℕ) (r d : ℕ) (E : List ℕ) → length (delay_store_words G r (suc d) E) ≡ length E + 1 + d * (2 + length G)
unfolding delay_store_words
some_delays_length G r d E =
    let more = delay_store_words G (suc r) d (register_word r ∷ G) in
    omega (arith, length-append E (store_word seq r ∷ more), delays_from G (suc r) d (register_word r ∷ G) (omega arith))

pub delays_length : (G : List ℕ) (r d : ℕ) (E : List ℕ) → length (delay_store_words G r d E) ≡ delays_size (length G) d (length E)
unfolding delay_store_words delays_size
delays_length G r zero E = sym (pick_true _ _ refl)
delays_length G r (suc d) E =
    let l : suc d - 1 ≡ d = omega arith in
    some_delays_length G r d E ∙ sym (pick_false _ _ (ne_eqb (suc d) 0 (λ (z : suc d ≡ 0). omega arith)) ∙ rw l refl)

hop_stores_length : (G : List ℕ) (r : ℕ) (h : SeqHop) (E : List ℕ) → length (hop_store_words G r h E) ≡ hop_stores_size (length G) h (length E)
unfolding hop_store_words hop_stores_size
hop_stores_length G r (Fixed d) E = delays_length G r d E
hop_stores_length G r (AtLeast m) E = pick_case (λ (l : List ℕ). length l ≡ length E + 3 + (m - 1) * 2) (ltb m 2) near late
  where
    near : ltb m 2 ≡ true → length (register_word r ∷ (E ++ (or_word ∷ store_word arm r ∷ []))) ≡ length E + 3 + (m - 1) * 2
    near e = omega (arith, ltb-true m 2 e, length-append E (or_word ∷ store_word arm r ∷ []))

    late : ltb m 2 ≡ false → length (delay_store_words [] r (m - 1) E ++ late_latch_words r m) ≡ length E + 3 + (m - 1) * 2
    late e =
        let l : m - 1 ≡ suc (m - 2) = omega (arith, ltb-false m 2 e) in
        rw l (omega (arith, length-append (delay_store_words [] r (suc (m - 2)) E) (late_latch_words r m), some_delays_length [] r (m - 2) E))

-- Stores of the machines.
goto_stages_length : (b r count : ℕ) (avail : List ℕ) → length (goto_stage_words b r (suc count) avail) ≡ 10 + length avail + count * 11
unfolding goto_stage_words
goto_stages_length b r zero avail = omega (arith, length-append (goto_stage b r avail) [], length-append avail (goto_end b r))
goto_stages_length b r (suc count) avail =
    let more = goto_stage_words b (suc r) (suc count) (register_word r ∷ []) in
    omega (arith, length-append (goto_stage b r avail) more, length-append avail (goto_end b r), goto_stages_length b (suc r) count (register_word r ∷ []))

goto_length : (b count r : ℕ) (A : List ℕ) → length (goto_store_words (machine b count r) A) ≡ goto_size count (length A)
unfolding goto_store_words goto_size goto_stage_words
goto_length b count r A =
    let avail = available r A in
    let more = goto_stage_words b (suc r) (count - 1) avail in
    let all : length (goto_first (machine b count r) A ++ more) ≡ length A + 7 + length more =
    omega (arith, length-append (goto_first (machine b count r) A) more, length-append A (or_word ∷ []), length-append avail (atom_word b ∷ any_word ∷ not_word ∷ and_word ∷ store_word gto r ∷ [])) in
    all ∙ by_count (ltb count 2) refl
  where
    by_count : (t : Bool) → ltb count 2 ≡ t
        → length A + 7 + length (goto_stage_words b (suc r) (count - 1) (available r A))
        ≡ pick (ltb count 2) (length A + 7) (length A + 7 + (length A + 12) + (count - 2) * 11)
    by_count true e = let h : count - 1 ≡ 0 = omega (arith, ltb-true count 2 e) in rw h (omega arith) ∙ sym (pick_true _ _ e)
    by_count false e =
        let h : count - 1 ≡ suc (count - 2) = omega (arith, ltb-false count 2 e) in
        rw h (omega (arith, goto_stages_length b (suc r) (count - 2) (available r A), length-append A (or_word ∷ []))) ∙ sym (pick_false _ _ e)

run_stages_length : (b r count : ℕ) → length (run_stage_words b r count) ≡ 6 + count * 5
unfolding run_stage_words
run_stages_length b r zero = omega arith
run_stages_length b r (suc count) = omega (arith, run_stages_length b (suc r) count)

run_length : (b count r : ℕ) (A : List ℕ) → length (run_store_words (machine b count r) A) ≡ run_size count (length A)
unfolding run_store_words
run_length b count r A = omega (arith, length-append A (run_stage_words b r (count - 1)), run_stages_length b r (count - 1))

term_stores_length : (r : ℕ) (x : SeqTerm) (A : List ℕ) → length (term_store_words r x A) ≡ term_stores_size x (length A)
unfolding term_store_words term_stores_size nonconsec_store_words
term_stores_length r (BoolTerm a) A = refl
term_stores_length r (Goto b count) A = goto_length b count r A
term_stores_length r (Nonconsec b count) A =
    let stages = goto_store_words (machine b count r) A in
    let text = term_text r (Nonconsec b count) A in
    let extension = store_word ncx (r + at_least_one count) ∷ [] in
    omega (arith, length-append stages (text ++ extension), length-append text extension, goto_length b count r A, term_text_length r (Nonconsec b count) A)
term_stores_length r (ConsecAtLeast b count) A = run_length b count r A
term_stores_length r Empty A = refl

-- One later step, and each of the others. What a step adds to the size of the stores:
abbrev step_stores_size : List ℕ → Kept → ℕ → ℕ
step_stores_size W a k =
    let g = length (guard_of W a) in
    let s = step_of W a (suc k) in
    let e = (size_up_to_step W a k).text in
    hop_stores_size g (reach s) e + term_stores_size s.term (hop_text_size g (reach s) e)

step_stores_length : (W : List ℕ) (a : Kept) (k r : ℕ) → length (step_store_words W a (suc k) r) ≡ step_stores_size W a k
unfolding step_store_words activation_at
step_stores_length W a k r =
    let G = guard_of W a in
    let s = step_of W a (suc k) in
    let l : suc k - 1 ≡ k = omega arith in
    let E = text_at W a k (r - registers_at W a k) in
    let e : length E ≡ (size_up_to_step W a k).text = the_text_has_its_size W a k (r - registers_at W a k) in
    rw l
    (length-append (hop_store_words G r (reach s) E) (term_store_words (r + hop_registers (reach s)) s.term (hop_text G r (reach s) E))
    ∙ ap₂ (λ (x y : ℕ). x + y)
    (hop_stores_length G r (reach s) E ∙ ap (hop_stores_size (length G) (reach s)) e)
    (term_stores_length (r + hop_registers (reach s)) s.term (hop_text G r (reach s) E)
    ∙ ap (term_stores_size s.term) (hop_text_length G r (reach s) E ∙ ap (hop_text_size (length G) (reach s)) e)))

size_next : (W : List ℕ) (a : Kept) (k : ℕ) → (size_up_to_step W a (suc k)).stores ≡ (size_up_to_step W a k).stores + step_stores_size W a k
unfolding size_up_to_step step_size
size_next W a k = refl

after_length : (W : List ℕ) (a : Kept) (k r count : ℕ) → (size_up_to_step W a k).stores + length (store_words_after W a k r count) ≡ (size_up_to_step W a (k + count)).stores
unfolding store_words_after
after_length W a k r zero = rw (add-zero k) (omega arith)
after_length W a k r (suc count) =
    let q = r + registers_at W a k in
    let l : k + suc count ≡ suc k + count = omega arith in
    rw l
    (omega (arith, length-append (step_store_words W a (suc k) q) (store_words_after W a (suc k) q count), step_stores_length W a k q, size_next W a k, after_length W a (suc k) q count))

first_stores_size : (W : List ℕ) (a : Kept) → (size_up_to_step W a 0).stores ≡ term_stores_size (step_of W a 0).term 1
unfolding size_up_to_step first_size
first_stores_size W a = refl

-- What `stores` writes of a kept alternative has the size of its stores.
pub the_stores_have_their_size : (W : List ℕ) (a : Kept) → length (alternative_store_words W a) ≡ (size_up_to_step W a (a.steps - 1)).stores
unfolding alternative_store_words
the_stores_have_their_size W a =
    let x = (step_of W a 0).term in
    let seed = term_store_words a.register x (one_word ∷ []) in
    omega (arith, length-append seed (later_store_words W a), term_stores_length a.register x (one_word ∷ []), first_stores_size W a, after_length W a 0 a.register (a.steps - 1), ap (λ (m : ℕ). (size_up_to_step W a m).stores) (zero-add (a.steps - 1)))
