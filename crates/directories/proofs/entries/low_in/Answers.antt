use Prim.Native.Nat.{◌*◌}
use Rattle.tables.proofs.SameWords.{low-at}
use Rattle.directories.proofs.entries.low_in.Goals as goal

pub returns : goal.returns
returns c = rw (low-at c.args.dir.now (16 * c.args.i.0)) c.eight_of.ensures
