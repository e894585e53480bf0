-- The highest of the bytes decides.
use Rattle.std.proofs.Common.{rules, ◌≡◌, fold, max}
use Rattle.std.proofs.iter.runs.Made.{chains}
use Rattle.tick.proofs.Refusals.{highest_decides}
use Rattle.tick.proofs.are_bits.Goals as goal

pub returns : goal.returns
returns c = let e : c.fold.result ≡ fold max 0 c.args.bytes.now = search (rules, chains) in rw e (highest_decides c.args.bytes.now)
