-- `window_len` adds up the hops of the steps after the first; what is left of them is said in `Windowing`.
use borrow.Author.Rules.{rules}
use Rattle.pair.proofs.Windows.{windowing_begins, windowing_on, windowing_ends}
use Rattle.pair.proofs.window_len.Goals as goal

pub loop-k-init : goal.loop-k-init
loop-k-init c = search windowing_begins

pub loop-k-preserved : goal.loop-k-preserved
loop-k-preserved c = search windowing_on

pub returns : goal.returns
returns c = record { value = search windowing_ends; small = search rules }
