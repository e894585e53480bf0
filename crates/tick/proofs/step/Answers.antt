-- 22 and 23, then the evaluation and the cleared stack.
use Rattle.tick.proofs.Refusals.{short_tick, part_long, atom_above_one, register_above_one, nothing_refused, evaluated_tick}
use borrow.Author.Rules.{rules}
use Rattle.tick.proofs.step.Goals as goal
use Rattle.tick.proofs.step.Goals.{then-not-wanted-via-then-not-wanted, then-not-wanted-via-else-not-wanted+then-not-are_bits}

pub returns-then-lacks : goal.returns-then-lacks
returns-then-lacks c = search short_tick

pub returns-then-not-wanted : goal.returns-then-not-wanted
returns-then-not-wanted c =
    elim c.then-not-wanted.branch [
      | then-not-wanted-via-then-not-wanted w ↦
          atom_above_one _ _ _ _ _ c.requires.0 c.requires.1 c.lacks.ensures c.if-lacks.false w.if-not-wanted.true
      | then-not-wanted-via-else-not-wanted+then-not-are_bits w ↦
          register_above_one _ _ _ _ _ c.requires.0 c.requires.1 c.lacks.ensures c.if-lacks.false w.if-not-wanted.false w.are_bits.ensures w.if-not-are_bits.true
    ]

pub slice_bounds-are_bits-end : goal.slice_bounds-are_bits-end
slice_bounds-are_bits-end c = search part_long

pub evaluate-bit-requires : goal.evaluate-bit-requires
evaluate-bit-requires c = search nothing_refused

pub returns : goal.returns
returns c =
    evaluated_tick _ _ _ _ _ c.requires.0 c.requires.1 c.lacks.ensures c.if-lacks.false c.if-not-wanted.false c.are_bits.ensures c.evaluate-bit.new.stack c.if-not-are_bits.false
    c.evaluate-bit.ensures c.evaluate-bit.auto.stack (search rules)
