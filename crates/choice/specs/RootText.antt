-- The match of one alternative at the root as words, said from what is kept of it.
-- Example: of `a` alone it is `a0`, of `c throughout a` it is `a0 any a2 any and`.
use Rattle.std.specs.Prelude.{List, [], ◌∷◌, ℕ, ◌+◌, Option, Some, None, eqb, length}
use Rattle.words.specs.Choice.{pick}
use Rattle.meaning.specs.declared.SeqTerm.{SeqTerm}
use Rattle.meaning.specs.declared.SeqTerm.TheVariants.{Bool as BoolTerm, Goto, Nonconsec, ConsecAtLeast, Empty}
use Rattle.term.specs.declared.Kept.{Kept}
use Rattle.term.specs.Keeping.{step_of}
use Rattle.step_text.specs.Text.{atom_word}
use Rattle.pipeline.specs.Stores.{alternative_store_words}
use Rattle.alternative.specs.Keeping.{kept_text}

-- The atom of a term that is a Boolean.
unfoldable pub bool_of : SeqTerm → Option ℕ
bool_of (BoolTerm a) = Some a
bool_of (Goto b k) = None
bool_of (Nonconsec b k) = None
bool_of (ConsecAtLeast b k) = None
bool_of Empty = None

-- "a lone unguarded Bool": one step, no words of a guard, a Bool term; its atom.
unfoldable pub lone_in : List ℕ → Kept → Option ℕ
lone_in work a = pick (eqb a.steps 1) (pick (eqb a.guard a.end) (bool_of (step_of work a 0).term) None) None

-- ".. stays the bare atom"; any other alternative is what its pipeline returns.
abbrev pub bare_or : Option ℕ → List ℕ → List ℕ
bare_or (Some a) text = atom_word a ∷ []
bare_or None text = text

unfoldable pub kept_root_text : List ℕ → Kept → List ℕ
kept_root_text work a = bare_or (lone_in work a) (kept_text work a)

-- The words of a kept alternative's assignments and of its match at the root.
unfoldable pub kept_root_size : List ℕ → Kept → ℕ
kept_root_size work a = length (alternative_store_words work a) + length (kept_root_text work a)
