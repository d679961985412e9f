use mathlib.Core.Path.{◌≡◌}
use Prim.Native.Nat.{◌≤◌}
use lib.ListN.{length}
use Rattle.rules.specs.Layout.{PROCESSES}
use Rattle.rules.specs.Scan.{fold}
use Rattle.rules.specs.Store.{desc_of}
use Rattle.counts.specs.Counts.{proc_counted}
use Rattle.counts.proofs.count.count_held.Given as goal

abbrev pub invariant-loop-p : goal.invariant-loop-p
invariant-loop-p l = (length l.held ≡ length l.initial.held) × (l.p ≤ PROCESSES) × (l.held ≡ fold (proc_counted (desc_of l.processes)) l.p PROCESSES l.initial.held)
