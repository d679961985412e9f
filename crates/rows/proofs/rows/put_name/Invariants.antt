use mathlib.Core.Path.{◌≡◌}
use Prim.Native.Nat.{◌-◌, ◌+◌}
use lib.ListN.{length, drop}
use lib.Seq.{sets}
use Rattle.rules.specs.Layout.{NAME}
use Rattle.rules.specs.Directories.{padded}
use Rattle.rows.proofs.rows.put_name.Given as goal

abbrev pub invariant-loop-k : goal.invariant-loop-k
invariant-loop-k l = (length l.contents ≡ length l.initial.contents) × (sets l.contents (l.at + l.k) (padded (NAME - l.k) (drop l.k l.name)) ≡ sets l.initial.contents l.at (padded NAME l.name))
