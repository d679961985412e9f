use Rattle.rules.specs.Effects.{remove_changes}
use Rattle.rows.proofs.Changes.{in-turn}
use Rattle.file_effects.proofs.names.remove_directory.Goals as goal

pub returns : goal.returns
unfolding remove_changes
returns c = λ E P. in-turn _ _ _ (c.clear_slot.ensures _ _) (c.remove_name.ensures _ _)
