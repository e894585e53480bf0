-- `in_order` decides `ordered`: the loop's rest, from the entry that it looks at.
use Rattle.correction.proofs.MapLaws.{checking_begins, column_outside, too_early, checking_on, checking_ends}
use Rattle.correction.proofs.in_order.Goals as goal

pub loop-entry-init : goal.loop-entry-init
loop-entry-init c = search checking_begins

pub returns-then-entry-ge-COLUMNS : goal.returns-then-entry-ge-COLUMNS
returns-then-entry-ge-COLUMNS c = search column_outside

pub returns-then-tick-from : goal.returns-then-tick-from
returns-then-tick-from c = search too_early

pub loop-entry-preserved : goal.loop-entry-preserved
loop-entry-preserved c = search checking_on

pub returns : goal.returns
returns c = search checking_ends
