-- Each kind adds its ends from what its operands are.
use borrow.Author.Rules.{rules}
use native.Mathlib.Omega.{arith}
use Rattle.matches.proofs.AddedEnds.{operand_few, operand_stands, atom_recorded, delay_left_below, delay_right_below, condition_recorded, one_below, two_below, known, counts_on, counted_some, counted_recorded, occurs_added, delayed_added, repeated_added, throughout_added, inside_added, counted_added}
use Rattle.matches.proofs.add_ends_of.Goals as goal

pub occurs-requires : goal.occurs-requires
occurs-requires c = (search rules, search atom_recorded, search rules)

pub table-left-requires : goal.table-left-requires
table-left-requires c = (search (operand_stands, delay_left_below), search rules, search (operand_few, delay_left_below))

pub table-right-requires : goal.table-right-requires
table-right-requires c = (search (operand_stands, delay_right_below), search rules, search (operand_few, delay_right_below))

pub throughout-requires : goal.throughout-requires
throughout-requires c = (search rules, search rules, search condition_recorded, search rules)

pub table-one-requires : goal.table-one-requires
table-one-requires c = (search (operand_stands, one_below), search rules, search (operand_few, one_below))

pub table-two-requires : goal.table-two-requires
table-two-requires c = (search (operand_stands, two_below), search rules, search (operand_few, two_below))

pub counted-requires : goal.counted-requires
counted-requires c =
    let ready = c.requires.0 in
    let counts = counts_on c.read-v.result.kind (omega (arith, known ready c.read-v.ensures)) (omega (arith, known ready c.read-v.ensures)) in (
      ready.fillable.covers,
      counted_recorded ready c.read-v.ensures counts c.read-atom.ensures,
      c.requires.1,
      counted_some ready c.read-v.ensures counts,
    )

pub returns-in-1 : goal.returns-in-1
returns-in-1 c = search occurs_added

pub returns-in-2 : goal.returns-in-2
returns-in-2 c = search delayed_added

pub returns-in-3 : goal.returns-in-3
returns-in-3 c = search repeated_added

pub returns-in-6 : goal.returns-in-6
returns-in-6 c = search throughout_added

pub returns-in-7 : goal.returns-in-7
returns-in-7 c = search inside_added

pub returns-in_default : goal.returns-in_default
returns-in_default c =
    let ready = c.requires.0 in
    let counts = counts_on c.read-v.result.kind (omega (arith, known ready c.read-v.ensures)) (omega (arith, known ready c.read-v.ensures)) in
    counted_added c.args.i ready c.read-v.ensures counts c.read-atom.ensures c.counted.ensures
