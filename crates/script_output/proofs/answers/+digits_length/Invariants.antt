-- It calls itself. The measure is the number of digits that it may still have.
use Rattle.script_output.proofs.answers.+digits_length.Given as goal

abbrev pub decreases-digits_length : goal.decreases-digits_length
decreases-digits_length l = l.k
