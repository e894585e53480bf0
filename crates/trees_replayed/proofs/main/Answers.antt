-- `main` lends its array whole, and replays the part that was read.
use mathlib.Core.Path.{sym}
use Prim.Native.Nat.{ℕ}
use lib.ListN.{length-replicate}
use Rattle.trees_replayed.proofs.main.Goals as goal

pub slice_bounds-read_full-end : goal.slice_bounds-read_full-end
slice_bounds-read_full-end c = sym (length-replicate {A = ℕ} 1572864 0)

pub slice_bounds-input-end : goal.slice_bounds-input-end
slice_bounds-input-end c = c.read_full-count.ensures.0

pub slice_bounds-each_case-end : goal.slice_bounds-each_case-end
slice_bounds-each_case-end c = c.read_full-count.ensures.1
