use mathlib.Core.Path.{◌≡◌}
use Prim.Native.Nat.{◌≤◌}
use lib.ListN.{length}
use Rattle.rules.specs.Layout.{DIRENTS}
use Rattle.rules.specs.Scan.{fold}
use Rattle.counts.specs.Counts.{entry_counted, entry_claimed}
use Rattle.counts.proofs.count.count_directory.Given as goal

abbrev pub invariant-loop-i : goal.invariant-loop-i
invariant-loop-i l = (length l.links ≡ length l.initial.links) × (length l.parents ≡ length l.initial.parents) × (l.i ≤ DIRENTS) × (l.links ≡ fold (entry_counted l.dir) l.i DIRENTS l.initial.links)
    × (l.parents ≡ fold (entry_claimed l.dir l.d.0) l.i DIRENTS l.initial.parents)
