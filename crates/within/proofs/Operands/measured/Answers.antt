-- `measured` keeps one alternative of seq1 after the other and measures it.
use native.Mathlib.Omega.{arith}
use borrow.Author.Rules.{rules}
use Rattle.alternative.proofs.Keeping.{keepable_again}
use Rattle.within.proofs.Rows.{one_keepable, still_paired}
use Rattle.within.proofs.Windows.{none_measured, alternative_there, window_room, measuring_on, measuring_ends}
use Rattle.within.proofs.Operands.measured.Goals as goal

pub loop-j-init : goal.loop-j-init
loop-j-init c = search none_measured

pub keep-kept-requires : goal.keep-kept-requires
keep-kept-requires c = (
  keepable_again (one_keepable c.requires.0) (search rules),
  alternative_there (one_keepable c.requires.0) c.count_of-j-end.ensures c.loop-j-test.true,
)

pub bounds-windows-j : goal.bounds-windows-j
bounds-windows-j c = window_room (one_keepable c.requires.0) c.count_of-j-end.ensures c.loop-j-test.true (omega arith)

pub loop-j-preserved : goal.loop-j-preserved
loop-j-preserved c =
    measuring_on c.loop-j.invariant (window_room (one_keepable c.requires.0) c.count_of-j-end.ensures c.loop-j-test.true (omega arith)) c.keep-kept.ensures
    c.window_len.ensures.value

pub returns-clause-ready : goal.returns-clause-ready
returns-clause-ready c = record {
  paired = still_paired c.requires.0 (search rules);
  measured = measuring_ends (one_keepable c.requires.0) c.count_of-j-end.ensures c.loop-j.invariant c.loop-j-test.false (omega arith);
}
