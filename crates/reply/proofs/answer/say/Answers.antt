use Rattle.rules.specs.Step.{name_out, fields_out, bytes_out}
use Rattle.reply.specs.Answers.{said_of}
use Rattle.reply.proofs.answer.say.Goals as goal

pub returns-in-Nothing : goal.returns-in-Nothing
unfolding said_of name_out fields_out bytes_out
returns-in-Nothing c = λ E P. rw (c.in-Nothing.is, c.plain_answer.ensures)

pub returns-in-Name : goal.returns-in-Name
unfolding said_of name_out fields_out bytes_out
returns-in-Name c = λ E P. rw (c.in-Name.is, c.answer_listed.ensures)

pub returns-in-Fields : goal.returns-in-Fields
unfolding said_of name_out fields_out bytes_out
returns-in-Fields c = λ E P. rw (c.in-Fields.is, c.answer_fields.ensures)

pub returns-in-Bytes : goal.returns-in-Bytes
unfolding said_of name_out fields_out bytes_out
returns-in-Bytes c = λ E P. rw (c.in-Bytes.is, c.plain_answer-in-Bytes.ensures, c.read_into.ensures)
