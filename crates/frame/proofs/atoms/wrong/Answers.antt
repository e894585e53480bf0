-- `wrong` compares a value with what is to leave.
use Rattle.frame.proofs.AtomLaws.{wrong_told}
use Rattle.frame.proofs.atoms.wrong.Goals as goal

pub returns : goal.returns
returns c = search wrong_told
