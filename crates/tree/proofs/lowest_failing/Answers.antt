-- The loop returns the lowest node that fails.
use Rattle.std.proofs.Common.{sym, ◌∙◌, ap, true, arith}
use Rattle.std.specs.Prelude.{Err}
use Rattle.tree.proofs.Lowest.{lowest_fails, none_fails}
use Rattle.tree.proofs.lowest_failing.Goals as goal

pub returns-then-not-passes : goal.returns-then-not-passes
returns-then-not-passes g c refusal test same agree =
    ap Err (same c.loop-n.n _ c.loop-n-test.true c.refused.ensures)
    ∙ lowest_fails refusal test c.args.count c.loop-n.n c.loop-n-test.true
    (λ k h. sym (agree k true (omega arith) (c.loop-n.invariant k h)))
    (sym (agree c.loop-n.n _ c.loop-n-test.true c.passes.ensures) ∙ c.if-not-passes.true)

pub returns : goal.returns
returns g c refusal test same agree =
    none_fails refusal test c.args.count (λ k h. sym (agree k true h (c.loop-n.invariant k (omega arith))))
