-- `walk` goes over the rows, and over the pairs beside each; what is left is said in `AtRow` and in `AtPair`.
use mathlib.Core.Path.{sym, ◌∙◌}
use borrow.Author.Rules.{rules}
use borrow.Author.Tests.{leb-true}
use Rattle.within.proofs.Walk.{walk_ends, pass_ends, row_there, row_given, row_done, pairs_end, pair_there, window_there, pair_passed, pair_given, pair_done}
use Rattle.within.proofs.Operands.walk.Goals as goal
use Rattle.within.proofs.Operands.walk.Goals.{then-fits, else-fits}

pub row_of-row-requires : goal.row_of-row-requires
row_of-row-requires g c = (search rules, search row_there)

pub row-pass-requires : goal.row-pass-requires
row-pass-requires g c = search row_given

pub loop-j-init : goal.loop-j-init
loop-j-init g c = search row_done

pub fits-requires : goal.fits-requires
fits-requires g c = search window_there

pub beside-pair-requires-clause-fits : goal.beside-pair-requires-clause-fits
beside-pair-requires-clause-fits g c = (
  search rules,
  pair_there c.requires.0 c.count_of-count.ensures c.loop-j-test.true,
  leb-true _ _ (sym c.fits.ensures ∙ c.if-fits.true),
)

pub pair-pass-requires : goal.pair-pass-requires
pair-pass-requires g c = search pair_given

pub loop-j-preserved : goal.loop-j-preserved
loop-j-preserved g c =
    elim c.if-fits.branch [
      | then-fits w ↦ rw (w.work-is, w.out-is, w.pass-is) (search pair_done)
      | else-fits w ↦ rw (w.work-is, w.out-is, w.pass-is) (search pair_passed)
    ]

pub loop-i-preserved : goal.loop-i-preserved
loop-i-preserved g c = search pairs_end

pub returns : goal.returns
returns g c = record { goes = search walk_ends; ends = search pass_ends }
