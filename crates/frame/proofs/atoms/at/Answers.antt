-- `at` has all atoms, in their order.
use Rattle.frame.proofs.AtomLaws.{all_atoms}
use Rattle.frame.proofs.atoms.at.Goals as goal

pub returns : goal.returns
returns c = search all_atoms
