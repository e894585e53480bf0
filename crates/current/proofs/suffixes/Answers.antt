-- `suffixes` puts one suffix after the other; what is left of them is said in `Forth`.
use borrow.Author.Rules.{rules}
use native.Mathlib.Omega.{arith}
use Rattle.current.proofs.Walk.{forth, forth_high, forth_fits}
use Rattle.current.proofs.suffixes.Goals as goal

pub register_after-register-requires : goal.register_after-register-requires
register_after-register-requires c = (search rules, search forth_high)

pub step_suffix-p-requires : goal.step_suffix-p-requires
step_suffix-p-requires c = (grind (arith, forth), search forth_fits)

pub loop-i-preserved : goal.loop-i-preserved
loop-i-preserved c = grind (arith, forth)

pub returns : goal.returns
returns c = grind (arith, forth)
