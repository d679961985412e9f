use Rattle.rules.specs.Store.{apply_all}
use Rattle.rules.specs.Effects.{name_changes}
use Rattle.file_effects.proofs.names.add_name.Goals as goal

pub returns : goal.returns
unfolding apply_all name_changes
returns c = λ E P. rw (c.put_directory.ensures, c.put_dirent.ensures)
