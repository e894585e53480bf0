-- How many words an alternative's expression and stores take, by arithmetic on its steps: refusal 14 is decided before a word is written.
-- g is the number of the guard's words, e that of the text before a hop, a that of an activation.
-- Example: `a ##2 b` without a guard: stores 3 + 2 words, expression 4 words.
use Rattle.std.specs.Prelude.{List, ℕ, zero, suc, ◌+◌, ◌*◌, ◌-◌, ◌≤◌, eqb, ltb, length}
use Rattle.words.specs.Choice.{pick}
use Rattle.meaning.specs.declared.SeqTerm.{SeqTerm}
use Rattle.meaning.specs.declared.SeqTerm.TheVariants.{Bool as BoolTerm, Goto, Nonconsec, ConsecAtLeast, Empty}
use Rattle.meaning.specs.declared.SeqHop.{SeqHop}
use Rattle.meaning.specs.declared.SeqHop.TheVariants.{Fixed, AtLeast}
use Rattle.meaning.specs.declared.SeqStep.{SeqStep}
use Rattle.term.specs.declared.Kept.{Kept}
use Rattle.term.specs.Keeping.{step_of, guard_of, Whole}
use Rattle.step_text.specs.Text.{reach}
use Rattle.current.specs.Text.{registers_before}
use Rattle.sizes.specs.declared.Size.{Size}

-- Bounds that keep the sums within 64 bits, each a power of two. A guard: at most 65,536 atoms, three words each, its `and` among them.
abbrev pub most_guard_words : ℕ
most_guard_words = 1048576

-- The text of any alternative with its guard, and that of a pair of alternatives without one.
abbrev pub most_text_words : ℕ
most_text_words = 4194304

-- The text after a hop: the text before it, or the guard, and a few words more.
abbrev pub most_activation_words : ℕ
most_activation_words = 8388608

-- The stores of one step: at most 65,536 registers, each with the guard and a few words, and at most four texts beside them.
abbrev pub most_step_words : ℕ
most_step_words = 137438953472

-- The stores of an alternative: at most 65,536 steps.
abbrev pub most_store_words : ℕ
most_store_words = 9007199254740992

-- The stores of an alternative, and its text or further delays beside them.
abbrev pub most_words : ℕ
most_words = 18014398509481984

-- The text after a hop, after a term, and after the first term.
unfoldable pub hop_text_size : ℕ → SeqHop → ℕ → ℕ
hop_text_size g (Fixed d) e = pick (eqb d 0) e (1 + g)
hop_text_size g (AtLeast m) e = pick (eqb m 0) (2 + e) 1

unfoldable pub term_text_size : SeqTerm → ℕ → ℕ
term_text_size (BoolTerm x) a = a + 3
term_text_size (Goto b count) a = pick (ltb count 2) (a + 5) 4
term_text_size (Nonconsec b count) a = pick (ltb count 2) (a + 11) 10
term_text_size (ConsecAtLeast b count) a = pick (ltb count 2) (a + 5) 6
term_text_size Empty a = a

unfoldable pub lead_text_size : SeqTerm → ℕ
lead_text_size (BoolTerm x) = 2
lead_text_size (Goto b count) = term_text_size (Goto b count) 1
lead_text_size (Nonconsec b count) = term_text_size (Nonconsec b count) 1
lead_text_size (ConsecAtLeast b count) = term_text_size (ConsecAtLeast b count) 1
lead_text_size Empty = 1

-- The stores of d delays, of a hop, of the machines, and of a term.
unfoldable pub delays_size : ℕ → ℕ → ℕ → ℕ
delays_size g d e = pick (eqb d 0) 0 (e + 1 + (d - 1) * (2 + g))

unfoldable pub hop_stores_size : ℕ → SeqHop → ℕ → ℕ
hop_stores_size g (Fixed d) e = delays_size g d e
hop_stores_size g (AtLeast m) e = e + 3 + (m - 1) * 2

unfoldable pub goto_size : ℕ → ℕ → ℕ
goto_size count a = pick (ltb count 2) (a + 7) (a + 7 + (a + 12) + (count - 2) * 11)

abbrev pub run_size : ℕ → ℕ → ℕ
run_size count a = a + 6 + (count - 1) * 5

unfoldable pub term_stores_size : SeqTerm → ℕ → ℕ
term_stores_size (BoolTerm x) a = 0
term_stores_size (Goto b count) a = goto_size count a
term_stores_size (Nonconsec b count) a = goto_size count a + term_text_size (Nonconsec b count) a + 1
term_stores_size (ConsecAtLeast b count) a = run_size count a
term_stores_size Empty a = 0

-- A later step, behind the sizes before it.
unfoldable pub step_size : ℕ → SeqStep → Size → Size
step_size g s z =
    let a = hop_text_size g (reach s) z.text in
    record {
      text = term_text_size s.term a;
      stores = z.stores + (hop_stores_size g (reach s) z.text + term_stores_size s.term a);
    }

unfoldable pub first_size : ℕ → SeqTerm → Size
first_size g x = record { text = lead_text_size x + g; stores = term_stores_size x 1 }

-- The text after the k-th step of a kept alternative, and all stores up to it.
unfoldable pub size_up_to_step : List ℕ → Kept → ℕ → Size
size_up_to_step W a zero = first_size (length (guard_of W a)) (step_of W a 0).term
size_up_to_step W a (suc k) = step_size (length (guard_of W a)) (step_of W a (suc k)) (size_up_to_step W a k)

-- What the sums need to stay within 64 bits: refusal 13 came first, and the guard is short.
pub record Countable (W : List ℕ) (a : Kept) : Type 0 where
  pub whole : Whole W a
  pub registers : registers_before W a a.steps ≤ 65536
  pub short : length (guard_of W a) ≤ most_guard_words
