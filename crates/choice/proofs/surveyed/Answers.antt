-- `surveyed` goes through the alternatives up to one that 12 refuses; what is left of them is said in `Surveying`.
use Rattle.alternative.proofs.Keeping.{keepable_again}
use Rattle.choice.proofs.Passes.{among, surveying_begins, survey_stops, surveying_on, survey_ends}
use Rattle.choice.proofs.surveyed.Goals as goal

pub loop-i-init : goal.loop-i-init
loop-i-init c = search surveying_begins

pub keep-kept-requires : goal.keep-kept-requires
keep-kept-requires c = (search keepable_again, search among)

pub returns-then-not-steps_fit : goal.returns-then-not-steps_fit
returns-then-not-steps_fit c = search survey_stops

pub loop-i-preserved : goal.loop-i-preserved
loop-i-preserved c =
    surveying_on c.requires c.count_of-i-end.ensures c.loop-i.invariant c.loop-i-test.true
    c.keep-kept.ensures c.steps_fit.ensures c.if-not-steps_fit.false c.registers-total.ensures.value c.registers-total.ensures.small

pub returns : goal.returns
returns c = search survey_ends
