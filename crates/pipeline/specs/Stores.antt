-- The stores of one alternative in words, from its stored steps (`synth_seq_pipeline` and `seq_delay_reg`; `crates/meaning/specs/Pipeline.antt`).
-- Example: `a ##2 b` stores `a0 any` into register 0 and `r0` into register 1.
use Rattle.std.specs.Prelude.{List, [], ◌∷◌, ◌++◌, ℕ, zero, suc, ◌+◌, ◌-◌, ltb}
use Rattle.words.specs.Choice.{pick}
use Rattle.term.specs.declared.Kept.{Kept}
use Rattle.term.specs.Keeping.{step_of, guard_of}
use Rattle.meaning.specs.Expression.{seq, arm}
use Rattle.meaning.specs.declared.SeqHop.{SeqHop}
use Rattle.meaning.specs.declared.SeqHop.TheVariants.{Fixed, AtLeast}
use Rattle.step_text.specs.Text.{register_word, or_word, one_word, store_word, reach, hop_registers}
use Rattle.current.specs.Text.{registers_at, activation_at}
use Rattle.current.specs.Walk.{text_before}
use Rattle.fsm.specs.Stores.{term_store_words}

-- d times `seq_delay_reg` from register r on: the first takes the text before, each other the one before it with the guard.
unfoldable pub delay_store_words : List ℕ → ℕ → ℕ → List ℕ → List ℕ
delay_store_words G r zero before = []
delay_store_words G r (suc d) before = before ++ (store_word seq r ∷ delay_store_words G (suc r) d (register_word r ∷ G))

-- d times `seq_delay_reg` from register r on, after register r - 1 and its guard.
abbrev pub more_delays : List ℕ → ℕ → ℕ → List ℕ
more_delays G r d = delay_store_words G r d (register_word (r - 1) ∷ G)

-- The latch of an "at least m" hop behind its m - 1 delays.
abbrev pub late_latch_words : ℕ → ℕ → List ℕ
late_latch_words r m = register_word (r + m - 1) ∷ register_word (r + m - 2) ∷ or_word ∷ store_word arm (r + m - 1) ∷ []

-- "'At least m' is m - 1 delays, none for m of 0 or 1, and then a latch", which take no guard.
unfoldable pub hop_store_words : List ℕ → ℕ → SeqHop → List ℕ → List ℕ
hop_store_words G r (Fixed d) before = delay_store_words G r d before
hop_store_words G r (AtLeast m) before =
    pick (ltb m 2)
    (register_word r ∷ (before ++ (or_word ∷ store_word arm r ∷ [])))
    (delay_store_words [] r (m - 1) before ++ late_latch_words r m)

-- A hop of the k-th step, a later one whose first register is r.
abbrev pub hop_stores_at : List ℕ → Kept → ℕ → ℕ → SeqHop → List ℕ
hop_stores_at W a k r h = hop_store_words (guard_of W a) r h (text_before W a k r)

-- The stores of the k-th step: its hop's, then its term's.
unfoldable pub step_store_words : List ℕ → Kept → ℕ → ℕ → List ℕ
step_store_words W a k r =
    let h = reach (step_of W a k) in
    hop_stores_at W a k r h ++ term_store_words (r + hop_registers h) (step_of W a k).term (activation_at W a k r)

-- The count steps after the k-th, whose first register is r.
unfoldable pub store_words_after : List ℕ → Kept → ℕ → ℕ → ℕ → List ℕ
store_words_after W a k r zero = []
store_words_after W a k r (suc count) =
    step_store_words W a (suc k) (r + registers_at W a k) ++ store_words_after W a (suc k) (r + registers_at W a k) count

-- The steps after the first.
abbrev pub later_store_words : List ℕ → Kept → List ℕ
later_store_words W a = store_words_after W a 0 a.register (a.steps - 1)

-- A kept alternative: its first term's, activated by constant one, then the later steps'.
unfoldable pub alternative_store_words : List ℕ → Kept → List ℕ
alternative_store_words W a = term_store_words a.register (step_of W a 0).term (one_word ∷ []) ++ later_store_words W a
