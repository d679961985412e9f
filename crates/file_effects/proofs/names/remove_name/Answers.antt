use Rattle.rules.specs.Store.{apply_all}
use Rattle.rules.specs.Effects.{unname_changes}
use Rattle.file_effects.proofs.names.remove_name.Goals as goal

pub returns : goal.returns
unfolding apply_all unname_changes
returns c = λ E P. rw (c.put_directory.ensures, c.fill.ensures)
