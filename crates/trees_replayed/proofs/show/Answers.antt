-- `show` writes the part of the page that the text takes.
use mathlib.Core.Path.{sym}
use Prim.Native.Nat.{ℕ}
use lib.ListN.{length-replicate}
use lib.Seq.{length-take-le}
use Rattle.text.proofs.Room.{printed_ends_inside}
use Rattle.trees_replayed.proofs.show.Goals as goal

pub slice_bounds-text-end : goal.slice_bounds-text-end
slice_bounds-text-end c = sym (length-replicate {A = ℕ} 524416 0)

pub slice_bounds-page-end : goal.slice_bounds-page-end
slice_bounds-page-end c = search printed_ends_inside

pub slice_bounds-write_all-end : goal.slice_bounds-write_all-end
slice_bounds-write_all-end c = sym (length-take-le _ _ (search printed_ends_inside))
