use Rattle.rules.proofs.Scans.{all_yes, all-no, all_done}
use Rattle.soundness.proofs.slots.all_slots_sound.Goals as goal

pub loop-s-preserved : goal.loop-s-preserved
loop-s-preserved c = search all_yes

pub returns-then-not-slot_sound : goal.returns-then-not-slot_sound
returns-then-not-slot_sound c = search all-no

pub returns : goal.returns
returns c = search all_done
