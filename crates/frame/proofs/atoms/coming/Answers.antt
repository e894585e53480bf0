-- `coming` is the definition's, from the sensor's answers.
use Rattle.words.specs.Choice.{tests}
use Rattle.frame.specs.Atoms.{coming_atoms}
use Rattle.frame.proofs.AtomLaws.{coming_told}
use Rattle.frame.proofs.atoms.coming.Goals as goal

pub returns-then-tick-ge-FRAME : goal.returns-then-tick-ge-FRAME
unfolding coming_atoms
returns-then-tick-ge-FRAME c = search tests

pub returns : goal.returns
returns c = search coming_told
