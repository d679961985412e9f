-- It calls itself. The measure is the number of digits that it may still have.
use Rattle.script_output.proofs.answers.+write_digits.Given as goal

abbrev pub decreases-write_digits : goal.decreases-write_digits
decreases-write_digits l = l.k
