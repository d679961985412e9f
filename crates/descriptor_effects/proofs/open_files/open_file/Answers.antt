use Rattle.rules.specs.Store.{apply_all}
use Rattle.rules.specs.Effects.{open_changes}
use Rattle.descriptor_effects.proofs.open_files.open_file.Goals as goal

pub returns : goal.returns
unfolding apply_all open_changes
returns c = λ F C. rw (c.put_held.ensures, c.put_open.ensures)
