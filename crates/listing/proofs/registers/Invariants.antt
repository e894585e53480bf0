-- The stores before the place are counted.
use Rattle.std.proofs.Common.{◌≡◌, take}
use Rattle.std.specs.List.{count_by}
use Rattle.meaning.specs.Listing.{is_store}
use Rattle.listing.proofs.registers.Given as goal

abbrev pub invariant-loop-w : goal.invariant-loop-w
invariant-loop-w l = l.stores ≡ count_by is_store (take l.w-index l.listing)
