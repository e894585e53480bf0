-- `later` puts the stores of the hop, then those of the term.
use Rattle.current.proofs.Walk.{reached_small}
use Rattle.pipeline.proofs.Laws.{later_small, later_term_fits, later_hop_room, later_term_room, later_done, later_without_machine}
use borrow.Author.Rules.{rules}
use Rattle.pipeline.proofs.later.Goals as goal

pub term_register-q-requires : goal.term_register-q-requires
term_register-q-requires c = search later_small

pub hop_over-p-requires : goal.hop_over-p-requires
hop_over-p-requires c = (search rules, search rules, search reached_small, search later_hop_room)

pub returns-then-term_registers-eq0 : goal.returns-then-term_registers-eq0
returns-then-term_registers-eq0 c = search later_without_machine

pub apply_term-requires : goal.apply_term-requires
apply_term-requires c = (search rules, search later_term_fits, search later_term_room)

pub returns : goal.returns
returns c = search later_done
