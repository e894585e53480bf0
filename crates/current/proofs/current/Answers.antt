-- `current` goes back over the steps that keep their text, and forth again; where it stands is said in `Back`.
use native.Mathlib.Omega.{arith}
use Rattle.current.proofs.Walk.{back}
use Rattle.current.proofs.current.Goals as goal

pub loop-y-preserved : goal.loop-y-preserved
loop-y-preserved c = grind (arith, back)
