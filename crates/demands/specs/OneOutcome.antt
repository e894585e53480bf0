-- What it is for a contract to leave one outcome: of the same call it allows no two results, and no two contents of a slice that
-- was lent to be written. The contract is what the checker itself makes of the clauses in a function's source: `ended` and
-- `clauses` of the function's module. So a clause that is dropped or weakened is found here.
-- Example: `Wrote before after place next (word ∷ [])`, which `words::put` promises, leaves one outcome; that next is above place
-- would leave many.
use Rattle.std.specs.Prelude.{◌≡◌}
use seplogic.Ra.Ura.{Ura}
use base.Logic.{SProp, ent, sep}
use contract.Lifetimes.{Lfts}
use contract.Monad.{fact}
use denote.Triple.Entry.{Args, Res}
use denote.Triple.Clauses.{Ended, Clauses, Lasts, at_exit}

-- A call's result, and what each parameter holds afterwards: the last list of a `&mut` slice, and nothing for any other.
pub record Outcome (Result Left : Type 0) : Type 0 where
  pub result : Result
  pub left : Left

-- The outcomes that a call with these arguments could have, of a function whose parameters and result are T's.
module _ (T : Ended) where
  abbrev pub Lifetimes : Type 0
  Lifetimes = Lfts T.signature.lifetimes

  abbrev pub Outcomes : (κs : Lifetimes) → Args T.signature κs → Type 0
  Outcomes κs a = Outcome (Res T.signature κs) (Lasts T κs a)

-- The contract `promised` of a function whose parameters and result are T's, over a model of the program logic.
module _ {M : Type 1} (𝓤 : Ura M) (T : Ended) (promised : Clauses 𝓤 T) where
  -- What the contract says of an outcome.
  abbrev pub Said : (κs : Lifetimes T) (a : Args T.signature κs) → (promised κs a).ghost → Outcomes T κs a → SProp 𝓤
  Said κs a g o = (promised κs a).ensures g o.result (at_exit T κs a o.left)

  -- Two outcomes of which the contract holds are as alike as Alike demands.
  abbrev pub OneOutcomeUpTo : ((κs : Lifetimes T) (a : Args T.signature κs) → Outcomes T κs a → Outcomes T κs a → Type 0) → Type 1
  OneOutcomeUpTo Alike =
      (κs : Lifetimes T) (a : Args T.signature κs) (g : (promised κs a).ghost) (o o' : Outcomes T κs a)
      → ent 𝓤 (sep 𝓤 (Said κs a g o) (Said κs a g o')) (fact 𝓤 (Alike κs a o o'))

  -- Two outcomes of which the contract holds are the same.
  abbrev pub OneOutcome : Type 1
  OneOutcome = OneOutcomeUpTo (λ κs a o o'. o ≡ o')

  -- Two outcomes of which the contract holds have the same result, whatever is left in the slices.
  abbrev pub OneResult : Type 1
  OneResult = OneOutcomeUpTo (λ κs a o o'. o.result ≡ o'.result)
