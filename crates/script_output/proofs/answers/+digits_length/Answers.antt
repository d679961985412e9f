use Rattle.script_output.proofs.DigitLaws.{length_none, length-one, length_more}
use Rattle.script_output.proofs.answers.+digits_length.Goals as goal

pub returns-then-k-eq0-clause-is : goal.returns-then-k-eq0-clause-is
returns-then-k-eq0-clause-is t c = search length_none

pub returns-then-n-lt10-clause-is : goal.returns-then-n-lt10-clause-is
returns-then-n-lt10-clause-is t c = search length-one

pub returns-clause-is : goal.returns-clause-is
returns-clause-is t c = search length_more
