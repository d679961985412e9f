use Rattle.rules.specs.Rights.{transition}
use Rattle.tables.proofs.policy.transition_of.Goals as goal

pub returns : goal.returns
unfolding transition
returns c = cc
