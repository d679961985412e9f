use Rattle.rules.specs.Effects.{truncate_changes}
use Rattle.rows.proofs.Changes.{in-turn}
use Rattle.descriptor_effects.proofs.open_files.open_truncated.Goals as goal

pub returns : goal.returns
unfolding truncate_changes
returns c = in-turn _ _ _ (c.clear_slot.ensures _ _) (c.open_file.ensures _ _)
