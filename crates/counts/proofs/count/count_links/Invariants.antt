use mathlib.Core.Path.{◌≡◌}
use Prim.Native.Nat.{◌≤◌}
use lib.ListN.{length}
use Rattle.rules.specs.Layout.{SLOTS}
use Rattle.rules.specs.Scan.{fold}
use Rattle.rules.specs.Store.{tree}
use Rattle.counts.specs.Counts.{slot_counted, slot_claimed}
use Rattle.counts.proofs.count.count_links.Given as goal

abbrev pub invariant-loop-d : goal.invariant-loop-d
invariant-loop-d l = (length l.links ≡ length l.initial.links) × (length l.parents ≡ length l.initial.parents) × (l.d ≤ SLOTS) × (l.links ≡ fold (slot_counted (tree l.files l.contents)) l.d SLOTS l.initial.links)
    × (l.parents ≡ fold (slot_claimed (tree l.files l.contents)) l.d SLOTS l.initial.parents)
