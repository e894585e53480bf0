-- The premises of demand 3 that speak of code are promises: what Shipped supposes of a call of `lower` and of a call of `tick`, and
-- ShippedForC of `sva_lower` and `sva_tick`, is, word for word, what the checker takes from the clauses of that function, which is
-- proved to keep them.
use mathlib.Core.Path.{◌≡◌, refl}
use seplogic.Ra.Ura.{Ura}
use base.Logic.{SProp}
use prog.Memory.{Memory}
use prog.Routine.{Routine}
use types.Logic.{Logic}
use contract.Monad.{Fun, fact}
use denote.Triple.Entry.{Args}
use Rattle.lower.specs.Answers.{Lowers}
use Rattle.lower.specs.contracts.lower as lower
use Rattle.tick.specs.Stepped.{Stepped}
use Rattle.tick.specs.contracts.tick as tick
use Rattle.sva_c.specs.Boundary.{LowersForC, TicksForC}
use Rattle.sva_c.specs.contracts.sva_lower as sva_lower
use Rattle.sva_c.specs.contracts.sva_tick as sva_tick
use Rattle.demands.specs.OneOutcome.{Lifetimes, Outcomes, Said}

module _ {M : Type 1} {𝓤 : Ura M} (𝓛 : Logic 𝓤) (mem : Memory → SProp 𝓤) (run : Routine → Fun 𝓤) where
  -- The parameters are the tree, work and the output; the last two are what is left.
  pub lower_promises_what_is_supposed : (κs : Lifetimes lower.ended) (a : Args lower.signature κs)
      (o : Outcomes lower.ended κs a)
      → Said 𝓤 lower.ended (lower.clauses 𝓛 mem run) κs a tt o
      ≡ fact 𝓤 (Lowers a.0.now 0 a.1.0.now a.1.1.0.now o.result o.left.1.0 o.left.1.1.0)
  lower_promises_what_is_supposed κs a o = refl

  -- The parameters are the listing, now, the atoms, next and the stack; the last two are what is left.
  pub tick_promises_what_is_supposed : (κs : Lifetimes tick.ended) (a : Args tick.signature κs)
      (o : Outcomes tick.ended κs a)
      → Said 𝓤 tick.ended (tick.clauses 𝓛 mem run) κs a tt o
      ≡ fact 𝓤 (Stepped a.0.now a.1.0.now a.1.1.0.now a.1.1.1.0.now o.left.1.1.1.0 a.1.1.1.1.0.now o.left.1.1.1.1.0 o.result)
  tick_promises_what_is_supposed κs a o = refl

  -- The parameters are the tree, work, the output, the registers, the words, the deepest stack and the place; all but the first are left.
  pub sva_lower_promises_what_is_supposed : (κs : Lifetimes sva_lower.ended) (a : Args sva_lower.signature κs)
      (o : Outcomes sva_lower.ended κs a)
      → Said 𝓤 sva_lower.ended (sva_lower.clauses 𝓛 mem run) κs a tt o
      ≡ fact 𝓤 (LowersForC a.0.now a.1.0.now a.1.1.0.now o.result o.left.1.0 o.left.1.1.0 o.left.1.1.1.0 o.left.1.1.1.1.0 o.left.1.1.1.1.1.0 o.left.1.1.1.1.1.1.0)
  sva_lower_promises_what_is_supposed κs a o = refl

  -- The parameters are the listing, now, the atoms, next, the stack, the match bit and the place; the last four are left.
  pub sva_tick_promises_what_is_supposed : (κs : Lifetimes sva_tick.ended) (a : Args sva_tick.signature κs)
      (o : Outcomes sva_tick.ended κs a)
      → Said 𝓤 sva_tick.ended (sva_tick.clauses 𝓛 mem run) κs a tt o
      ≡ fact 𝓤 (TicksForC a.0.now a.1.0.now a.1.1.0.now a.1.1.1.0.now a.1.1.1.1.0.now a.1.1.1.1.1.0.now o.result o.left.1.1.1.0 o.left.1.1.1.1.0 o.left.1.1.1.1.1.0 o.left.1.1.1.1.1.1.0)
  sva_tick_promises_what_is_supposed κs a o = refl
