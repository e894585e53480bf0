-- What remains to be replayed are the cases behind the place.
use Rattle.std.proofs.Common.{◌-◌, length}
use Rattle.std.specs.Fn.{CalledAt}
use Rattle.std.specs.List.{FoldsTo}
use Rattle.replay.specs.Lines.{case_lines}
use Rattle.replay.proofs.Laws.{cases_left}
use Rattle.replay.proofs.each_case.Given as goal

abbrev pub invariant-loop-from : goal.invariant-loop-from
invariant-loop-from g l =
    goal.F-IsAlwaysCallable g l.step
    × ((last : _) → FoldsTo (λ p x q. CalledAt g.F.FnMut p x tt q) l.step (cases_left l.named l.text l.from) last
    → FoldsTo (λ p x q. CalledAt g.F.FnMut p x tt q) l.fn.step (case_lines l.text) last)

abbrev pub decreases-loop-from : goal.decreases-loop-from
decreases-loop-from g l = length l.text - l.from
