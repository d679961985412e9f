use Rattle.rules.specs.Store.{apply_all}
use Rattle.descriptor_effects.proofs.open_files.move_offset.Goals as goal

pub returns : goal.returns
unfolding apply_all
returns c = λ F C P. rw c.put.ensures
