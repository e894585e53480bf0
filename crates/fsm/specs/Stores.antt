-- The stores of the three machines in words, from the words of their activation (sva_fsm.rs; `crates/meaning/specs/Machines.antt`).
-- Example: `b[->1]` led by constant one stores `r0 1 or a1 any not and` into register 0.
use Rattle.std.specs.Prelude.{List, [], ◌∷◌, ◌++◌, ℕ, zero, suc, ◌+◌, ◌-◌, ◌<◌}
use Rattle.meaning.specs.Expression.{gto, ncx, crl}
use Rattle.meaning.specs.declared.SeqTerm.{SeqTerm}
use Rattle.meaning.specs.declared.SeqTerm.TheVariants.{Bool as BoolTerm, Goto, Nonconsec, ConsecAtLeast, Empty}
use Rattle.term.specs.declared.Kept.{Kept}
use Rattle.step_text.specs.Text.{atom_word, register_word, any_word, not_word, and_word, or_word, store_word, at_least_one, term_text}
use Rattle.current.specs.Walk.{Ready}
use Rattle.fsm.specs.declared.Machine.{Machine}

-- The machine that counts atom b so often, in registers from r on.
abbrev pub machine : ℕ → ℕ → ℕ → Machine
machine b count r = record { atom = b; count = count; register = r }

-- "avail_0 = reg_0 | act".
abbrev pub available : ℕ → List ℕ → List ℕ
available r act = register_word r ∷ (act ++ (or_word ∷ []))

-- "reg_0 <= avail_0 & ~b".
abbrev pub goto_first : Machine → List ℕ → List ℕ
goto_first m act = available m.register act ++ (atom_word m.atom ∷ any_word ∷ not_word ∷ and_word ∷ store_word gto m.register ∷ [])

-- "reg_s <= (b & avail_{s-1}) | (~b & reg_s)", reg_s being register r; and what stands behind avail_{s-1} in it.
abbrev pub goto_end : ℕ → ℕ → List ℕ
goto_end b r = and_word ∷ atom_word b ∷ any_word ∷ not_word ∷ register_word r ∷ and_word ∷ or_word ∷ store_word gto r ∷ []

abbrev pub goto_stage : ℕ → ℕ → List ℕ → List ℕ
goto_stage b r avail = atom_word b ∷ any_word ∷ (avail ++ goto_end b r)

-- The stage over avail_0.
abbrev pub goto_second : Machine → List ℕ → List ℕ
goto_second m act = goto_stage m.atom (m.register + 1) (available m.register act)

-- So many stages from register r on, the first of them over avail, each other over the register before it.
unfoldable pub goto_stage_words : ℕ → ℕ → ℕ → List ℕ → List ℕ
goto_stage_words b r zero avail = []
goto_stage_words b r (suc count) avail = goto_stage b r avail ++ goto_stage_words b (suc r) count (register_word r ∷ [])

-- `goto_fsm`: a count of 0 is taken as 1.
unfoldable pub goto_store_words : Machine → List ℕ → List ℕ
goto_store_words m act = goto_first m act ++ goto_stage_words m.atom (suc m.register) (m.count - 1) (available m.register act)

-- The text after a nonconsecutive machine: what it matches.
abbrev pub match_text : Machine → List ℕ → List ℕ
match_text m act = term_text m.register (Nonconsec m.atom m.count) act

-- `nonconsec_fsm`: the goto's, and "ext <= cur".
unfoldable pub nonconsec_store_words : Machine → List ℕ → List ℕ
nonconsec_store_words m act = goto_store_words m act ++ (match_text m act ++ (store_word ncx (m.register + at_least_one m.count) ∷ []))

-- "c_i <= prior & b", c_i being register r: what stands behind prior, and then r, which is prior for the next one.
abbrev pub run_stage : ℕ → ℕ → List ℕ
run_stage b r = atom_word b ∷ any_word ∷ and_word ∷ store_word crl r ∷ register_word r ∷ []

-- "cur = (prior | reg) & b", reg being register r, the top one, which also holds itself.
abbrev pub run_top : ℕ → ℕ → List ℕ
run_top b r = register_word r ∷ or_word ∷ atom_word b ∷ any_word ∷ and_word ∷ store_word crl r ∷ []

-- So many registers from r on, then the top one.
unfoldable pub run_stage_words : ℕ → ℕ → ℕ → List ℕ
run_stage_words b r zero = run_top b r
run_stage_words b r (suc count) = run_stage b r ++ run_stage_words b (suc r) count

-- `consec_run_fsm`: a count of 0 is taken as 1.
unfoldable pub run_store_words : Machine → List ℕ → List ℕ
run_store_words m act = act ++ run_stage_words m.atom m.register (m.count - 1)

-- A term's stores, its first register being r.
unfoldable pub term_store_words : ℕ → SeqTerm → List ℕ → List ℕ
term_store_words r (BoolTerm a) act = []
term_store_words r (Goto b count) act = goto_store_words (machine b count r) act
term_store_words r (Nonconsec b count) act = nonconsec_store_words (machine b count r) act
term_store_words r (ConsecAtLeast b count) act = run_store_words (machine b count r) act
term_store_words r Empty act = []

-- A machine that the k-th term starts: the text that starts it can be written, and its atom and its registers up to the i-th are small
-- enough for words.
pub record Started (W : List ℕ) (a : Kept) (k r : ℕ) (m : Machine) (i : ℕ) : Type 0 where
  pub ready : Ready W a k r
  pub atom : m.atom < 65536
  pub register : m.register + i < 65536
