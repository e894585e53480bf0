-- `lowered` leaves the words that the tree lowers to.
use Rattle.frame.proofs.AssertionLaws.{nothing_listed, words_listed}
use Rattle.frame.proofs.assertions.lowered.Goals as goal

pub returns-in-Err-clause-wrote : goal.returns-in-Err-clause-wrote
returns-in-Err-clause-wrote c = search nothing_listed

pub returns-in-Ok-clause-wrote : goal.returns-in-Ok-clause-wrote
returns-in-Ok-clause-wrote c = search words_listed
