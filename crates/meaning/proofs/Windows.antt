-- Alternatives of Bool terms and fixed hops, as refusal 9 leaves them: they pass 12, and `window_len` is the length of every run.
-- Example: every run of [a, b after 2] has 3 ticks.
use mathlib.Core.Bool.{Bool}
use mathlib.Core.List.{List, [], ◌∷◌}
use Prim.Native.Nat.{ℕ, zero, suc, ◌+◌}
use native.Mathlib.Omega.{arith}
use Rattle.meaning.specs.Match.{Runs, Join}
use Rattle.meaning.specs.Root.{hop_length, hop_sum, window_len}
use Rattle.meaning.specs.declared.SeqTerm.{SeqTerm}
use Rattle.meaning.specs.declared.SeqTerm.TheVariants.{Bool as BoolTerm, Goto, Nonconsec, ConsecAtLeast, Empty}
use Rattle.meaning.specs.declared.SeqHop.{SeqHop}
use Rattle.meaning.specs.declared.SeqHop.TheVariants.{Fixed, AtLeast}
use Rattle.meaning.specs.declared.SeqStep.{SeqStep}
use Rattle.meaning.proofs.Acceptable.{IsBool, IsEmpty, NotEmpty, IsFixed, Plain, EmptiesFit, Rule12, Rule9}
use Rattle.meaning.proofs.RunLaws.{HasLength}
use Rattle.meaning.proofs.Joining.{JoinOver}
use Rattle.meaning.proofs.AlternativeRuns.{TermRuns, FollowedBy, AlternativeRuns, bool_length}

-- A Bool is no Empty.
a_bool_is_not_empty : (x : SeqTerm) → IsBool x → NotEmpty x × (IsEmpty x → ⊥)
a_bool_is_not_empty (BoolTerm a) p = (tt, λ q. q)
a_bool_is_not_empty (Goto b k) p = absurd p
a_bool_is_not_empty (Nonconsec b k) p = absurd p
a_bool_is_not_empty (ConsecAtLeast b k) p = absurd p
a_bool_is_not_empty Empty p = absurd p

-- Bool terms fit any hop.
plain_has_no_empties : (p : SeqTerm) (ss : List SeqStep) → IsBool p → Plain ss → EmptiesFit p ss
plain_has_no_empties p [] b P = tt
plain_has_no_empties p (s ∷ ss) b P = (
  λ q. absurd ((a_bool_is_not_empty p b).1 q),
  λ q. absurd ((a_bool_is_not_empty s.term P.0).1 q),
  plain_has_no_empties s.term ss P.0 P.2,
)

-- What passed 9 passes 12.
pub rule_9_gives_12 : (ss : List SeqStep) → Rule9 ss → Rule12 ss
rule_9_gives_12 [] F = absurd F
rule_9_gives_12 (s ∷ ss) F = ((a_bool_is_not_empty s.term F.0).0, plain_has_no_empties s.term ss F.0 F.1)

-- ##d adds d ticks to a run that a Bool ends.
join_length : (d : ℕ) (R X : Runs) (w : ℕ) → HasLength R w → HasLength X 1 → HasLength (Join d R X) (w + d)
join_length zero R X w L L₁ i j (k, l, l', x, y) = omega (arith, L i (suc k) x, L₁ k j y)
join_length (suc d) R X w L L₁ i j (k, x, y) = omega (arith, L i k x, L₁ (k + d) j y)

-- A fixed hop adds its length to a run that a Bool ends.
hop_adds_its_length : (h : SeqHop) → IsFixed h → (R X : Runs) (w : ℕ) → HasLength R w → HasLength X 1
    → HasLength (JoinOver h R X) (w + hop_length h)
hop_adds_its_length (Fixed n) F R X w L L₁ i j (d, a, y) = omega (arith, join_length d R X w L L₁ i j y)
hop_adds_its_length (AtLeast m) F R X w L L₁ i j y = absurd F

module _ (σ : ℕ → ℕ → Bool) where
  -- Plain steps in a row add the sum of their hops.
  followed_length : (ss : List SeqStep) → Plain ss → (R : Runs) (w : ℕ) → HasLength R w
      → HasLength (FollowedBy σ R ss) (w + hop_sum ss)
  followed_length [] P R w L i j x = omega (arith, L i j x)
  followed_length (s ∷ ss) P R w L i j x =
      let X = TermRuns σ s.term in
      let L' = hop_adds_its_length s.hop P.1 R X w L (bool_length σ s.term P.0) in
      omega (arith, followed_length ss P.2 (JoinOver s.hop R X) (w + hop_length s.hop) L' i j x)

  -- `window_len` is the length of every run.
  pub alternative_length : (ss : List SeqStep) → Rule9 ss → HasLength (AlternativeRuns σ ss) (window_len ss)
  alternative_length [] F i j x = absurd F
  alternative_length (s ∷ ss) F i j x =
      omega (arith, followed_length ss F.1 (TermRuns σ s.term) 1 (bool_length σ s.term F.0) i j x)
