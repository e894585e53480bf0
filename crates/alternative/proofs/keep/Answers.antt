-- `keep` puts the steps, then the guard behind them; both find room, and are held.
use Rattle.alternative.proofs.Keeping.{its_number, room_for_steps, room_for_guard, is_kept}
use Rattle.alternative.proofs.keep.Goals as goal

pub alternative-guard-requires : goal.alternative-guard-requires
alternative-guard-requires c = (search its_number, search room_for_steps)

pub guard_words-end-requires : goal.guard_words-end-requires
guard_words-end-requires c = (search its_number, search room_for_guard)

pub returns : goal.returns
returns c = search is_kept
