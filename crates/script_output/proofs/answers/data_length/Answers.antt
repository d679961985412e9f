use Rattle.script_output.proofs.AnswerLaws.{data-sum}
use Rattle.script_output.proofs.answers.data_length.Goals as goal

pub returns-clause-is : goal.returns-clause-is
returns-clause-is c = search data-sum
