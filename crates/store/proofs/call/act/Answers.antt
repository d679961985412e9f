use Rattle.rules.specs.Step.{act}
use Rattle.store.proofs.call.act.Goals as goal

pub returns : goal.returns
unfolding act
returns c = rw c.decide_call-d.ensures at c.settle.ensures
