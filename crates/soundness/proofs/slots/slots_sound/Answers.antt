use Rattle.soundness.proofs.Bridge.{slots-by}
use Rattle.soundness.proofs.slots.slots_sound.Goals as goal

pub returns : goal.returns
returns c = search slots-by
