use Prim.Native.Nat.{◌*◌}
use Rattle.tables.proofs.SameWords.{high-at}
use Rattle.directories.proofs.entries.high_in.Goals as goal

pub returns : goal.returns
returns c = rw (high-at c.args.dir.now (16 * c.args.i.0)) c.six_of.ensures
