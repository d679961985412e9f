use Rattle.std.proofs.Common.{sym, ◌∙◌}
use Rattle.rules.specs.Step.{step}
use Rattle.store.proofs.call.call.Goals as goal

pub returns-then-not-sound : goal.returns-then-not-sound
unfolding step
returns-then-not-sound c = rw (sym c.sound.ensures ∙ c.if-not-sound.true, c.refused_answer.ensures, c.into.ensures)

pub returns : goal.returns
unfolding step
returns c = rw (sym c.sound.ensures ∙ c.if-not-sound.false) c.act.ensures
