use Rattle.script_output.proofs.AnswerLaws.{none-length, some-length}
use Rattle.script_output.proofs.answers.fields_length.Goals as goal

pub returns-then-f-eq0-clause-is : goal.returns-then-f-eq0-clause-is
returns-then-f-eq0-clause-is c = search none-length

pub returns-else-f-eq0-clause-is : goal.returns-else-f-eq0-clause-is
returns-else-f-eq0-clause-is c = search some-length
