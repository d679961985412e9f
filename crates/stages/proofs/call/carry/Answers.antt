use mathlib.Core.Path.{refl}
use Rattle.rules.specs.Step.{store_after}
use Rattle.stages.proofs.call.carry.Goals as goal

pub returns-in_default : goal.returns-in_default
unfolding store_after
returns-in_default c = rw c.in_default.is (λ buffer. refl)

pub returns-in-Ok : goal.returns-in-Ok
unfolding store_after
returns-in-Ok c = rw c.in-Ok.is c.carry_out.ensures
