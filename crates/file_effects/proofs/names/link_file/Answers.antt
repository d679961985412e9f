use Rattle.rules.specs.Effects.{link_changes}
use Rattle.rows.proofs.Changes.{after-change}
use Rattle.file_effects.proofs.names.link_file.Goals as goal

pub returns : goal.returns
unfolding link_changes
returns c = λ E P. after-change _ _ _ (rw c.last_name.ensures at (c.add_name.ensures E P)) (rw c.put.ensures)
