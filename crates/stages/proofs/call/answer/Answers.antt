use Rattle.stages.specs.Judged.{answered_by}
use Rattle.stages.proofs.call.answer.Goals as goal

pub returns-in-Err : goal.returns-in-Err
unfolding answered_by
returns-in-Err c = λ E P. rw (c.in-Err.is, c.refused_answer.ensures)

pub returns-in-Ok : goal.returns-in-Ok
unfolding answered_by
returns-in-Ok c = λ E P. rw c.in-Ok.is (c.say.ensures E P)
