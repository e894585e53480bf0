-- `put_stores` puts the assignments alternative by alternative; what is left of them is said in `Storing`.
use Rattle.alternative.proofs.Keeping.{keepable_again}
use Rattle.choice.proofs.Passes.{among, now_placed, stores_fit, storing_on, storing_ends}
use Rattle.choice.proofs.put_stores.Goals as goal

pub keep-kept-requires : goal.keep-kept-requires
keep-kept-requires c = (search keepable_again, search among)

pub stores-p-requires : goal.stores-p-requires
stores-p-requires c = (search now_placed, search stores_fit)

pub next_register-r-requires : goal.next_register-r-requires
next_register-r-requires c = search now_placed

pub loop-i-preserved : goal.loop-i-preserved
loop-i-preserved c =
    storing_on c.requires.0 c.count_of-i-end.ensures c.loop-i.invariant
    c.loop-i-test.true c.keep-kept.ensures c.stores-p.ensures c.next_register-r.ensures

pub returns : goal.returns
returns c = search storing_ends
