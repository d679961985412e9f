use Rattle.rules.specs.Effects.{create_changes}
use Rattle.rows.proofs.Changes.{after-change}
use Rattle.file_effects.proofs.names.create_file.Goals as goal

pub returns : goal.returns
unfolding create_changes
returns c = λ E P. after-change _ _ _ (rw c.last_name.ensures at (c.add_name.ensures E P)) (rw c.put_record.ensures)
