-- Each node is looked at, up to the first that is outside the row.
use Rattle.std.proofs.Common.{rules, tests, arith, refl, ◌≡◌, true, false}
use Rattle.std.proofs.lemmas.Iterator.{YieldsList-from_range, cases_from_all}
use Rattle.recording.specs.Refusals.{in_the_row}
use Rattle.recording.proofs.Rows.{all_inside}
use Rattle.recording.proofs.all_in_the_row.Goals as goal

pub returns : goal.returns
returns c =
    let a = c.args in
    all_inside a.tree.now a.width a.count _
    (cases_from_all _ _ _
    (λ n. in_the_row a.tree.now a.width n ≡ true)
    (λ n. in_the_row a.tree.now a.width n ≡ false)
    c.all.ensures.ran
    (YieldsList-from_range 0 a.count a.count refl (omega arith))
    (λ x q k. search (rules, tests))
    (λ x q k. search (rules, tests)))
