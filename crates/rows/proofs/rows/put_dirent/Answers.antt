use Rattle.rules.specs.Directories.{dirent}
use Rattle.rules.proofs.Lists.{padded-two}
use Rattle.rows.proofs.rows.put_dirent.Goals as goal

pub returns : goal.returns
unfolding dirent
returns c = rw (c.put-2.ensures, c.put.ensures, c.slot_byte.ensures, c.put_name.ensures) (padded-two _ _ _ _ _ _)
