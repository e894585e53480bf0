-- `write` puts the assignments, then the match.
use borrow.Author.Rules.{rules}
use Rattle.choice.proofs.Passes.{numberable_again, room_for_stores, room_for_match, both_written}
use Rattle.choice.proofs.write.Goals as goal

pub put_stores-at-requires : goal.put_stores-at-requires
put_stores-at-requires c = (search rules, search room_for_stores)

pub put_match-requires : goal.put_match-requires
put_match-requires c = (search numberable_again, search room_for_match)

pub returns : goal.returns
returns c = search both_written
