-- `replay_filled` lends its arrays whole.
use mathlib.Core.Path.{sym}
use Prim.Native.Nat.{ℕ}
use lib.ListN.{length-replicate}
use Rattle.trees_replayed.proofs.replay_filled.Goals as goal

pub slice_bounds-replay_tree-end : goal.slice_bounds-replay_tree-end
slice_bounds-replay_tree-end c = sym (length-replicate {A = ℕ} 1052672 1515870810)

pub slice_bounds-replay_tree-end-2 : goal.slice_bounds-replay_tree-end-2
slice_bounds-replay_tree-end-2 c = sym (length-replicate {A = ℕ} 164224 1515870810)
