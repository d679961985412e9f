use Rattle.rules.specs.Effects.{symlink_changes}
use Rattle.rows.proofs.Changes.{in-turn}
use Rattle.file_effects.proofs.names.make_symlink.Goals as goal

pub returns : goal.returns
unfolding symlink_changes
returns c = λ E P. in-turn _ _ _ (rw c.last_name.ensures at (c.add_name.ensures E P)) (c.put_text.ensures E P)
