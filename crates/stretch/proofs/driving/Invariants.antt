-- The reader of `driving` reads the caller's listing, and has passed no assignment of the register.
use Rattle.std.proofs.Common.{◌≡◌, length, ◌-◌}
use Rattle.stretch.proofs.Starting.{Starting}
use Rattle.stretch.proofs.driving.Given as goal

abbrev pub invariant-loop-reader : goal.invariant-loop-reader
invariant-loop-reader l = record { same : l.reader.listing.now ≡ l.listing; starting : Starting l.listing l.register l.reader.at }

abbrev pub decreases-loop-reader : goal.decreases-loop-reader
decreases-loop-reader l = length l.listing - l.reader.at
