-- Where the byte stands, and where it stands nowhere.
use Rattle.cases.proofs.Laws.{byte_found, no_byte}
use Rattle.cases.proofs.until.Goals as goal

pub returns-in-Some-clause-value : goal.returns-in-Some-clause-value
returns-in-Some-clause-value c = search (byte_found, c.in-Some.ensures)

pub returns-in-None-clause-value : goal.returns-in-None-clause-value
returns-in-None-clause-value c = search (no_byte, c.in-None.ensures)
