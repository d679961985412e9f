use Rattle.rules.specs.Directories.{dirent_slot}
use Rattle.tables.proofs.directories.dirent_slot.Goals as goal

pub returns : goal.returns
unfolding dirent_slot
returns c = cc
