use Rattle.rules.specs.Effects.{unlink_changes}
use Rattle.rows.proofs.Changes.{in-turn}
use Rattle.file_effects.proofs.names.unlink_file.Goals as goal

pub returns : goal.returns
unfolding unlink_changes
returns c = λ E P. in-turn _ _ _ (c.lose_name.ensures _ _) (c.remove_name.ensures _ _)
