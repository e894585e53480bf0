-- `window_len` adds up the hops of the steps after the first; what is left of them is said in `Windowing`.
use Rattle.pair.proofs.Windows.{Windowing}
use Rattle.pair.proofs.window_len.Given as goal

abbrev pub invariant-loop-k : goal.invariant-loop-k
invariant-loop-k l = Windowing l.y.work.now l.y.kept l.total l.k
