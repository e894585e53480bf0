-- `write` puts the assignments, the match and the match's own word one after the other.
use borrow.Author.Rules.{rules}
use Rattle.within.proofs.Rows.{still_ready}
use Rattle.within.proofs.StoreWords.{stores_taken, stores_put}
use Rattle.within.proofs.Whole.{stores_have_room, match_has_room, end_has_room, listing_written}
use Rattle.within.proofs.write.Goals as goal

pub walk-requires : goal.walk-requires
walk-requires c =
    let operands = c.measured-operands.ensures in
    (operands.ready, rw (operands.ones, operands.twos) (stores_taken _ _ _ _ c.requires.0.few (stores_have_room c.requires.0 _ c.requires.1)))

pub put_match-end-requires : goal.put_match-end-requires
put_match-end-requires c =
    let operands = c.measured-operands.ensures in
    let stores = stores_put _ _ _ (rw (operands.ones, operands.twos) at c.walk.ensures.goes) in record {
      numbered = (still_ready operands.ready (search rules), rw (operands.ones, operands.twos) c.requires.0.few);
      room = rw (operands.ones, operands.twos) (match_has_room c.requires.0 _ c.requires.1 stores);
    }

pub put-requires : goal.put-requires
put-requires c =
    let operands = c.measured-operands.ensures in
    let stores = stores_put _ _ _ (rw (operands.ones, operands.twos) at c.walk.ensures.goes) in
    end_has_room c.requires.0 _ c.requires.1 stores (rw (operands.ones, operands.twos) at c.put_match-end.ensures)

pub returns : goal.returns
returns c =
    let operands = c.measured-operands.ensures in
    let stores = stores_put _ _ _ (rw (operands.ones, operands.twos) at c.walk.ensures.goes) in
    listing_written c.requires.0 stores (rw (operands.ones, operands.twos) at c.put_match-end.ensures) c.put.ensures
