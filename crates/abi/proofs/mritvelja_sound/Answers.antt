use Rattle.rules.proofs.Choices.{steps}
use Rattle.abi.specs.Crossing.{flag}
use Rattle.abi.proofs.mritvelja_sound.Goals as goal

pub returns-then-sound : goal.returns-then-sound
unfolding flag
returns-then-sound c = search steps

pub returns-else-sound : goal.returns-else-sound
unfolding flag
returns-else-sound c = search steps
