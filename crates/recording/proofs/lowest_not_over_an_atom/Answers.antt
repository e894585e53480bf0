-- The loop returns the lowest node that 6 refuses.
use Rattle.std.proofs.Common.{sym, ◌∙◌, arith}
use Rattle.meaning.specs.declared.refusal.Refusal.TheVariants.{NotOverAnAtom}
use Rattle.tree.proofs.Lowest.{lowest_fails, none_fails}
use Rattle.recording.specs.Refusals.{over_an_atom}
use Rattle.recording.proofs.lowest_not_over_an_atom.Goals as goal

pub returns-then-not-over_an_atom : goal.returns-then-not-over_an_atom
returns-then-not-over_an_atom c =
    lowest_fails NotOverAnAtom (over_an_atom c.args.tree.now) c.args.count c.loop-n.n c.loop-n-test.true c.loop-n.invariant
    (sym c.over_an_atom.ensures ∙ c.if-not-over_an_atom.true)

pub returns : goal.returns
returns c = none_fails NotOverAnAtom (over_an_atom c.args.tree.now) c.args.count (λ k h. c.loop-n.invariant k (omega arith))
