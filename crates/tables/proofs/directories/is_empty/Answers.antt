use Rattle.rules.specs.Directories.{is_empty}
use Rattle.tables.proofs.directories.is_empty.Goals as goal

pub returns : goal.returns
unfolding is_empty
returns c = rw c.dirent_slot.ensures
