-- `word_count` adds the words alternative by alternative; what is left of them is said in `Sizing`.
use Rattle.alternative.proofs.Keeping.{keepable_again}
use Rattle.choice.proofs.Passes.{among, now_countable, sizing_begins, sizing_on, sizing_ends}
use Rattle.choice.proofs.word_count.Goals as goal

pub loop-i-init : goal.loop-i-init
loop-i-init c = search sizing_begins

pub keep-kept-requires : goal.keep-kept-requires
keep-kept-requires c = (search keepable_again, search among)

pub root_size-requires : goal.root_size-requires
root_size-requires c = search now_countable

pub loop-i-preserved : goal.loop-i-preserved
loop-i-preserved c = search sizing_on

pub returns : goal.returns
returns c = search sizing_ends
