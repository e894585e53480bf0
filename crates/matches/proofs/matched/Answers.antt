-- So many ticks are answered.
use Rattle.matches.proofs.AnsweredTicks.{ticks_fillable, ticks_have_room}
use Rattle.matches.proofs.matched.Goals as goal

pub answer_ticks-requires : goal.answer_ticks-requires
answer_ticks-requires c =
    (ticks_fillable _ _ _ _ _ c.judged.ensures c.in_ok-ticks.was, ticks_have_room _ _ _ _ _ c.judged.ensures c.in_ok-ticks.was)
