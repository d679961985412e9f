use Rattle.rules.specs.Store.{apply_all}
use Rattle.rules.specs.Effects.{duplicate_changes, share_changes}
use Rattle.descriptor_effects.proofs.open_files.share_descriptor.Goals as goal

pub returns-in-None : goal.returns-in-None
unfolding apply_all duplicate_changes share_changes
returns-in-None c = λ F C. rw (c.in-None.is, c.put_empty.ensures)

pub returns-in-Some : goal.returns-in-Some
unfolding apply_all duplicate_changes share_changes
returns-in-Some c = λ F C. rw c.in-Some.is (c.duplicate_descriptor.ensures _ _)
