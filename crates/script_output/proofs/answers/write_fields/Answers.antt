use Rattle.script_output.proofs.AnswerLaws.{none-text, some-room, some-text}
use Rattle.script_output.proofs.answers.write_fields.Goals as goal

pub returns-then-f-eq0 : goal.returns-then-f-eq0
returns-then-f-eq0 c = search none-text

pub write_hex-requires : goal.write_hex-requires
write_hex-requires c = search some-room

pub returns : goal.returns
returns c = search some-text
