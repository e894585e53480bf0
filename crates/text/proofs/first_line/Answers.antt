-- The line of a refusal, which has too many bytes for the search through its parts.
use Rattle.text.proofs.Laws.{refusal_line}
use Rattle.text.proofs.first_line.Goals as goal

pub returns-in-Err : goal.returns-in-Err
returns-in-Err c = refusal_line c.in-Err.is (cc) (cc) c.copied-refused.ensures c.number_then-numbered.ensures c.number_then-in-Err.ensures
