use Rattle.rules.specs.Effects.{close_changes}
use Rattle.rows.proofs.Changes.{after-change}
use Rattle.descriptor_effects.proofs.open_files.close_descriptor.Goals as goal

pub returns : goal.returns
unfolding close_changes
returns c = after-change _ _ _ (c.release_open.ensures _) (rw c.put_empty.ensures)
