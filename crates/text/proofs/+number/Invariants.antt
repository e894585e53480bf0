-- The digits in front are written by the same function, of one digit less; then the last.
use Rattle.text.proofs.+number.Given as goal

abbrev pub decreases-number : goal.decreases-number
decreases-number l = l.most
