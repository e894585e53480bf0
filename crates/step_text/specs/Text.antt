-- What one step makes of the text before it, as words, so that code can write it and store no expression: by its hop, then by its
-- term. Each keeps the text before it, between a prefix and a suffix, or begins anew.
-- Example: in `a ##2 b` the hop begins anew with its last register, `r1`, and the term keeps that and adds `a1 any and`.
use Rattle.std.specs.Prelude.{◌≡◌, Bool, true, false, List, [], ◌∷◌, ◌++◌, ℕ, ◌+◌, ◌-◌, ◌<◌, ◌≤◌, eqb, ltb}
use Rattle.words.specs.Choice.{pick}
use Rattle.meaning.specs.Expression.{Tag}
use Rattle.meaning.specs.Listing.{word, store_operation}
use Rattle.meaning.specs.Refusals.{is_empty}
use Rattle.meaning.specs.declared.SeqTerm.{SeqTerm}
use Rattle.meaning.specs.declared.SeqTerm.TheVariants.{Bool as BoolTerm, Goto, Nonconsec, ConsecAtLeast, Empty}
use Rattle.meaning.specs.declared.SeqHop.{SeqHop}
use Rattle.meaning.specs.declared.SeqHop.TheVariants.{Fixed, AtLeast}
use Rattle.meaning.specs.declared.SeqStep.{SeqStep}
use Rattle.term.specs.Steps.{term_atom}

-- SPECIFICATION, "The listing": the table of operations, 1 to 8, then the stores.
abbrev pub atom_word : ℕ → ℕ
atom_word a = word 1 a

abbrev pub register_word : ℕ → ℕ
register_word r = word 2 r

abbrev pub zero_word : ℕ
zero_word = word 3 0

abbrev pub one_word : ℕ
one_word = word 4 0

abbrev pub any_word : ℕ
any_word = word 5 0

abbrev pub not_word : ℕ
not_word = word 6 0

abbrev pub and_word : ℕ
and_word = word 7 0

abbrev pub or_word : ℕ
or_word = word 8 0

abbrev pub store_word : Tag → ℕ → ℕ
store_word tag r = word (store_operation tag) r

-- The hop that a later step takes: "Empty behind a fixed hop of d, d at least 1, makes d - 1 delays"; its other hops are refused with 12.
unfoldable pub before_empty : SeqHop → SeqHop
before_empty (Fixed d) = Fixed (d - 1)
before_empty (AtLeast m) = Fixed 0

unfoldable pub reach : SeqStep → SeqHop
reach s = pick (is_empty s.term) (before_empty s.hop) s.hop

-- A machine's count of 0 is taken as 1, and an "at least 0" has its latch as an "at least 1" has.
unfoldable pub at_least_one : ℕ → ℕ
at_least_one k = pick (eqb k 0) 1 k

-- The registers of a hop, of a term, and of a later step.
unfoldable pub hop_registers : SeqHop → ℕ
hop_registers (Fixed d) = d
hop_registers (AtLeast m) = at_least_one m

unfoldable pub term_registers : SeqTerm → ℕ
term_registers (BoolTerm a) = 0
term_registers (Goto b k) = at_least_one k
term_registers (Nonconsec b k) = at_least_one k + 1
term_registers (ConsecAtLeast b k) = at_least_one k
term_registers Empty = 0

unfoldable pub step_registers : SeqStep → ℕ
step_registers s = hop_registers (reach s) + term_registers s.term

-- Whether the text after a hop, or after a term, holds the text before it.
unfoldable pub hop_keeps : SeqHop → Bool
hop_keeps (Fixed d) = eqb d 0
hop_keeps (AtLeast m) = eqb m 0

unfoldable pub term_keeps : SeqTerm → Bool
term_keeps (BoolTerm a) = true
term_keeps (Goto b k) = ltb k 2
term_keeps (Nonconsec b k) = ltb k 2
term_keeps (ConsecAtLeast b k) = ltb k 2
term_keeps Empty = true

-- What stands in front of the text that is kept, and behind it. r is the first register of the hop, or of the term.
unfoldable pub hop_prefix : ℕ → SeqHop → List ℕ
hop_prefix r (Fixed d) = []
hop_prefix r (AtLeast m) = register_word r ∷ []

unfoldable pub hop_suffix : SeqHop → List ℕ
hop_suffix (Fixed d) = []
hop_suffix (AtLeast m) = or_word ∷ []

-- The end of a nonconsecutive match: "cur = match_g | (ext & ~b)", ext being register r.
abbrev pub extension_words : ℕ → ℕ → List ℕ
extension_words b r = register_word r ∷ atom_word b ∷ any_word ∷ not_word ∷ and_word ∷ or_word ∷ []

unfoldable pub term_prefix : ℕ → SeqTerm → List ℕ
term_prefix r (BoolTerm a) = []
term_prefix r (Goto b k) = atom_word b ∷ any_word ∷ register_word r ∷ []
term_prefix r (Nonconsec b k) = atom_word b ∷ any_word ∷ register_word r ∷ []
term_prefix r (ConsecAtLeast b k) = []
term_prefix r Empty = []

unfoldable pub term_suffix : ℕ → SeqTerm → List ℕ
term_suffix r (BoolTerm a) = atom_word a ∷ any_word ∷ and_word ∷ []
term_suffix r (Goto b k) = or_word ∷ and_word ∷ []
term_suffix r (Nonconsec b k) = or_word ∷ and_word ∷ extension_words b (r + 1)
term_suffix r (ConsecAtLeast b k) = register_word r ∷ or_word ∷ atom_word b ∷ any_word ∷ and_word ∷ []
term_suffix r Empty = []

-- The whole text where it begins anew. Only a fixed hop's delays take the guard, whose words are G.
unfoldable pub hop_base : List ℕ → ℕ → SeqHop → List ℕ
hop_base G r (Fixed d) = register_word (r + d - 1) ∷ G
hop_base G r (AtLeast m) = register_word (r + m - 1) ∷ []

unfoldable pub term_base : ℕ → SeqTerm → List ℕ
term_base r (BoolTerm a) = []
term_base r (Goto b k) = atom_word b ∷ any_word ∷ register_word (r + k - 1) ∷ and_word ∷ []
term_base r (Nonconsec b k) = atom_word b ∷ any_word ∷ register_word (r + k - 1) ∷ and_word ∷ extension_words b (r + k)
term_base r (ConsecAtLeast b k) = register_word (r + k - 2) ∷ register_word (r + k - 1) ∷ or_word ∷ atom_word b ∷ any_word ∷ and_word ∷ []
term_base r Empty = []

-- The text after a hop, after a term, and after a later step, from the text before.
unfoldable pub hop_text : List ℕ → ℕ → SeqHop → List ℕ → List ℕ
hop_text G r h before = pick (hop_keeps h) (hop_prefix r h ++ (before ++ hop_suffix h)) (hop_base G r h)

unfoldable pub term_text : ℕ → SeqTerm → List ℕ → List ℕ
term_text r x activation = pick (term_keeps x) (term_prefix r x ++ (activation ++ term_suffix r x)) (term_base r x)

unfoldable pub step_text : List ℕ → ℕ → SeqStep → List ℕ → List ℕ
step_text G r s before = term_text (r + hop_registers (reach s)) s.term (hop_text G r (reach s) before)

-- The first term: "a machine that comes first is activated by constant 1, at every tick".
unfoldable pub lead_text : ℕ → SeqTerm → List ℕ
lead_text r (BoolTerm a) = atom_word a ∷ any_word ∷ []
lead_text r (Goto b k) = term_text r (Goto b k) (one_word ∷ [])
lead_text r (Nonconsec b k) = term_text r (Nonconsec b k) (one_word ∷ [])
lead_text r (ConsecAtLeast b k) = term_text r (ConsecAtLeast b k) (one_word ∷ [])
lead_text r Empty = zero_word ∷ []

-- A later step's prefix, suffix and base: its term's around its hop's. r is the step's first register.
unfoldable pub step_prefix : ℕ → SeqStep → List ℕ
step_prefix r s = term_prefix (r + hop_registers (reach s)) s.term ++ hop_prefix r (reach s)

unfoldable pub step_suffix : ℕ → SeqStep → List ℕ
step_suffix r s = hop_suffix (reach s) ++ term_suffix (r + hop_registers (reach s)) s.term

unfoldable pub step_base : List ℕ → ℕ → SeqStep → List ℕ
step_base G r s =
    let q = r + hop_registers (reach s) in
    pick (term_keeps s.term) (term_prefix q s.term ++ (hop_base G r (reach s) ++ term_suffix q s.term)) (term_base q s.term)

-- A later step whose text does not hold the text before it.
pub record BeginsAnew (s : SeqStep) : Type 0 where
  pub anew : term_keeps s.term ≡ true → hop_keeps (reach s) ≡ false

-- The registers of a term, from r on, and its atom are small enough for words; and those of a later step.
pub record TermFits (r : ℕ) (x : SeqTerm) : Type 0 where
  pub high : r + term_registers x ≤ 65536
  pub atom : term_atom x < 65536

pub record StepFits (r : ℕ) (s : SeqStep) : Type 0 where
  pub high : r + step_registers s ≤ 65536
  pub atom : term_atom s.term < 65536
