use Rattle.rules.specs.Store.{apply_all}
use Rattle.rules.specs.Effects.{duplicate_changes}
use Rattle.descriptor_effects.proofs.open_files.duplicate_descriptor.Goals as goal

pub returns : goal.returns
unfolding apply_all duplicate_changes
returns c = λ F C. rw (c.put.ensures, c.put_held.ensures)
