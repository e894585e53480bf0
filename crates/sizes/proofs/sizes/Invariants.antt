-- `sizes` counts step after step: before the k-th, the sizes are those of the steps before it.
use mathlib.Core.Path.{◌≡◌}
use Prim.Native.Nat.{◌-◌}
use Rattle.sizes.specs.Sizes.{size_up_to_step}
use Rattle.sizes.proofs.sizes.Given as goal

abbrev pub invariant-loop-k : goal.invariant-loop-k
invariant-loop-k l = l.z ≡ size_up_to_step l.y.work.now l.y.kept (l.k - 1)
