-- `put_match` puts the texts one by one; what is left of them is said in `Joining`.
use Rattle.alternative.proofs.Keeping.{keepable_again}
use Rattle.choice.proofs.Passes.{among, now_placed, now_ended, joining_begins, text_fits, closing_fits, joining_on, joining_ends}
use Rattle.choice.proofs.put_match.Goals as goal

pub loop-i-init : goal.loop-i-init
loop-i-init c = search joining_begins

pub keep-kept-requires : goal.keep-kept-requires
keep-kept-requires c = (search keepable_again, search among)

pub next_register-next-requires : goal.next_register-next-requires
next_register-next-requires c = search now_placed

pub root_text-p-requires : goal.root_text-p-requires
root_text-p-requires c = (search now_ended, search text_fits)

pub close-p-requires : goal.close-p-requires
close-p-requires c = search closing_fits

pub loop-i-preserved : goal.loop-i-preserved
loop-i-preserved c =
    joining_on c.requires.0 c.count_of-count.ensures c.loop-i.invariant
    c.loop-i-test.true c.keep-kept.ensures c.root_text-p.ensures c.close-p.ensures c.next_register-next.ensures

pub returns : goal.returns
returns c = search joining_ends
