-- The semantic half of demand 3: the match bit of a lowered tree is 1 at tick t exactly where a match of the tree ends with t,
-- as the standard defines a match. For every acceptable tree, every first register, and any registers that the stores drive.
-- Example: `a ##1 b` is stored into register 0 and matches where `r0 & b` is 1, that is where a held at the tick before.
use mathlib.Core.Bool.{Bool}
use mathlib.Core.Logic.Iff
use mathlib.Core.Logic.{◌↔◌}
use Prim.Native.Nat.{ℕ, suc, ◌≤◌}
use lib.Dec.{T}
use Rattle.meaning.specs.Tree.{Seq, Rooted}
use Rattle.meaning.specs.Match.{Match}
use Rattle.meaning.specs.Root.{synth_rooted, synth_seq_match}
use Rattle.meaning.proofs.Values.{val, Drives}
use Rattle.meaning.proofs.Acceptable.{AcceptableRooted, Acceptable}
use Rattle.meaning.proofs.Roots.{by_root}
use Rattle.meaning.proofs.On.{On, on_where_its_value_is_1}
use Rattle.meaning.proofs.RootRuns.{the_choice_ends_the_matches}
use Rattle.meaning.proofs.WithinRuns.{a_within_ends_the_matches}

-- The signal of a tree ends its matches, by the kind of the root: a within, or a choice over the alternatives.
the_signal_ends_the_matches : (σ Reg : ℕ → ℕ → Bool) (s : Seq) → Acceptable s → (n : ℕ)
    → Drives σ Reg n (synth_seq_match s n).stores → (t : ℕ)
    → On σ Reg (synth_seq_match s n).cur t ↔ ((i : ℕ) × (i ≤ t) × Match σ s i (suc t))
the_signal_ends_the_matches σ Reg =
    by_root Marks (λ k x y A. a_within_ends_the_matches σ Reg k x y A.0 A.1 A.2 A.3)
    (λ s A. the_choice_ends_the_matches σ Reg s A.0 A.1)
  where
    Marks : Seq → Rooted → Type 0
    Marks s v = AcceptableRooted v → (n : ℕ) → Drives σ Reg n (synth_rooted v n).stores → (t : ℕ)
        → On σ Reg (synth_rooted v n).cur t ↔ ((i : ℕ) × (i ≤ t) × Match σ s i (suc t))

-- The match bit is the standard's match; i ≤ t says that the match has a tick.
pub the_match_is_the_standards : (σ Reg : ℕ → ℕ → Bool) (s : Seq) → Acceptable s → (n : ℕ) → Drives σ Reg n (synth_seq_match s n).stores → (t : ℕ)
    → T (val (synth_seq_match s n).cur (Reg t) (σ t)) ↔ ((i : ℕ) × (i ≤ t) × Match σ s i (suc t))
the_match_is_the_standards σ Reg s A n D t =
    Iff.trans (on_where_its_value_is_1 σ Reg (synth_seq_match s n).cur t) (the_signal_ends_the_matches σ Reg s A n D t)
