use Rattle.rules.specs.Effects.{transfer_changes}
use Rattle.rows.proofs.Changes.{in-turn}
use Rattle.file_effects.proofs.names.transfer_entry.Goals as goal

pub returns : goal.returns
unfolding transfer_changes
returns c = λ E P. in-turn _ _ _ (rw c.last_name.ensures at (c.add_name.ensures E P)) (c.remove_name.ensures E P)
