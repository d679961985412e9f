use mathlib.Core.Path.{◌≡◌}
use Prim.Native.Nat.{◌≤◌}
use lib.ListN.{length}
use Rattle.rules.specs.Layout.{DESCRIPTORS}
use Rattle.rules.specs.Scan.{fold}
use Rattle.rules.specs.Store.{desc_of}
use Rattle.counts.specs.Counts.{desc_counted}
use Rattle.counts.proofs.count.count_process.Given as goal

abbrev pub invariant-loop-i : goal.invariant-loop-i
invariant-loop-i l = (length l.held ≡ length l.initial.held) × (l.i ≤ DESCRIPTORS) × (l.held ≡ fold (desc_counted (desc_of l.processes) l.p.0) l.i DESCRIPTORS l.initial.held)
