-- `join_guards` makes the tests of `joining`.
use borrow.Author.Rules.{rules}
use Rattle.guards.proofs.Laws.{none_joined, first_joined, both_room, both_joined}
use Rattle.guards.proofs.join_guards.Goals as goal
use Rattle.guards.proofs.join_guards.Goals.{then-from-middle-via-then-from-middle, then-from-middle-via-else-from-middle+then-middle-end}

pub returns-then-from-middle : goal.returns-then-from-middle
returns-then-from-middle c =
    elim c.then-from-middle.branch [
      | then-from-middle-via-then-from-middle w ↦ search none_joined
      | then-from-middle-via-else-from-middle+then-middle-end w ↦ search first_joined
    ]

pub put_operation-requires : goal.put_operation-requires
put_operation-requires c = (search both_room, search rules, search rules)

pub returns : goal.returns
returns c = search both_joined
