-- A step as five words: the term's tag, atom and count, and the hop's tag and length. And steps one after the other.
-- Example: `step_words` of Bool 7 reached by AtLeast 2 is 1 ∷ 7 ∷ 0 ∷ 1 ∷ 2 ∷ [].
use Rattle.std.specs.Prelude.{List, [], ◌∷◌, ◌++◌, ℕ, ◌+◌, ◌<◌, eqb, get_or}
use Rattle.words.specs.Choice.{pick}
use Rattle.meaning.specs.declared.SeqTerm.{SeqTerm}
use Rattle.meaning.specs.declared.SeqTerm.TheVariants.{Bool as BoolTerm, Goto, Nonconsec, ConsecAtLeast, Empty}
use Rattle.meaning.specs.declared.SeqHop.{SeqHop}
use Rattle.meaning.specs.declared.SeqHop.TheVariants.{Fixed, AtLeast}
use Rattle.meaning.specs.declared.SeqStep.{SeqStep}

abbrev pub term_tag : SeqTerm → ℕ
term_tag (BoolTerm a) = 1
term_tag (Goto b k) = 2
term_tag (Nonconsec b k) = 3
term_tag (ConsecAtLeast b k) = 4
term_tag Empty = 0

abbrev pub term_atom : SeqTerm → ℕ
term_atom (BoolTerm a) = a
term_atom (Goto b k) = b
term_atom (Nonconsec b k) = b
term_atom (ConsecAtLeast b k) = b
term_atom Empty = 0

abbrev pub term_count : SeqTerm → ℕ
term_count (BoolTerm a) = 0
term_count (Goto b k) = k
term_count (Nonconsec b k) = k
term_count (ConsecAtLeast b k) = k
term_count Empty = 0

abbrev pub hop_tag : SeqHop → ℕ
hop_tag (Fixed d) = 0
hop_tag (AtLeast m) = 1

abbrev pub hop_ticks : SeqHop → ℕ
hop_ticks (Fixed d) = d
hop_ticks (AtLeast m) = m

-- The step's words.
unfoldable pub step_words : SeqStep → List ℕ
step_words s = term_tag s.term ∷ term_atom s.term ∷ term_count s.term ∷ hop_tag s.hop ∷ hop_ticks s.hop ∷ []

-- The term and the hop that such words stand for; any other tag is Empty, or "at least".
unfoldable pub term_from : ℕ → ℕ → ℕ → SeqTerm
term_from tag atom count =
    pick (eqb tag 1) (BoolTerm atom) (pick (eqb tag 2) (Goto atom count) (pick (eqb tag 3) (Nonconsec atom count) (pick (eqb tag 4) (ConsecAtLeast atom count) Empty)))

unfoldable pub hop_from : ℕ → ℕ → SeqHop
hop_from tag length = pick (eqb tag 0) (Fixed length) (AtLeast length)

-- The step that stands at a place of a list.
unfoldable pub step_at : List ℕ → ℕ → SeqStep
step_at s at = record {
  term = term_from (get_or s at 0) (get_or s (at + 1) 0) (get_or s (at + 2) 0);
  hop = hop_from (get_or s (at + 3) 0) (get_or s (at + 4) 0);
}

-- Steps one after the other, five words each.
unfoldable pub steps_words : List SeqStep → List ℕ
steps_words [] = []
steps_words (s ∷ ss) = step_words s ++ steps_words ss

-- 1: "an atom or condition above 65,535" came first, so that each atom fits into a listing's word.
abbrev pub SmallAtoms : List SeqStep → Type 0
SmallAtoms [] = Unit {0}
SmallAtoms (s ∷ ss) = (term_atom s.term < 65536) × SmallAtoms ss
