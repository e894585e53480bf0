-- No more values are put than there is room for.
use Rattle.std.proofs.Common.{◌≤◌, length}
use Rattle.recordings_matched.proofs.digits.Given as goal

abbrev pub invariant-loop-byte : goal.invariant-loop-byte
invariant-loop-byte l = l.count ≤ length l.bytes
