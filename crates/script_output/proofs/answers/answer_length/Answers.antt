use Rattle.script_output.proofs.AnswerLaws.{text-sum}
use Rattle.script_output.proofs.answers.answer_length.Goals as goal

pub returns : goal.returns
returns c = search text-sum
