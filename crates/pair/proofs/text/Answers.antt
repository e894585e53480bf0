-- `text` writes seq2's text, seq1's and what closes the pair.
use borrow.Author.Rules.{rules}
use Rattle.pair.proofs.Pairs.{pair_delays_fit, pair_next_fits, pair_slid, two_text_room, one_text_room, closing_room, pair_text_done}
use Rattle.pair.proofs.text.Goals as goal

pub overflow_cast-d : goal.overflow_cast-d
overflow_cast-d c = search pair_delays_fit

pub text-a-requires : goal.text-a-requires
text-a-requires c = (search rules, search two_text_room)

pub slid_text-b-requires : goal.slid_text-b-requires
slid_text-b-requires c = (search pair_slid, search one_text_room)

pub closed-requires : goal.closed-requires
closed-requires c = search closing_room

pub overflow_add-result : goal.overflow_add-result
overflow_add-result c = search pair_next_fits

pub returns : goal.returns
returns c =
    pair_text_done _ _ c.next_register-r.ensures _ c.text-a.ensures c.slid_text-b.ensures c.closed.ensures
