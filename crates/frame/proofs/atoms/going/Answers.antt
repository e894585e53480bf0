-- `going` is the definition's, by what leaves.
use Rattle.words.specs.Choice.{tests}
use Rattle.frame.specs.Atoms.{going_atoms}
use Rattle.frame.proofs.AtomLaws.{nothing_goes, kept_goes, replaced_goes}
use Rattle.frame.proofs.atoms.going.Goals as goal

pub returns-then-tick-lt-DELAY : goal.returns-then-tick-lt-DELAY
unfolding going_atoms
returns-then-tick-lt-DELAY c = search tests

pub returns-in-Nothing : goal.returns-in-Nothing
returns-in-Nothing c = search nothing_goes

pub returns-in-Kept : goal.returns-in-Kept
returns-in-Kept c = search kept_goes

pub returns-in-Replaced : goal.returns-in-Replaced
returns-in-Replaced c = search replaced_goes
