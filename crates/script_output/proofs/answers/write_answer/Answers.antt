use Rattle.script_output.proofs.AnswerLaws.{too_long, has_room, enough}
use Rattle.script_output.proofs.answers.write_answer.Goals as goal

pub returns-then-saturating_sub-n : goal.returns-then-saturating_sub-n
returns-then-saturating_sub-n c = search too_long

pub write_lines-requires : goal.write_lines-requires
write_lines-requires c = search has_room

pub returns : goal.returns
returns c = search enough
