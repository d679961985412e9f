use mathlib.Core.Path.{◌≡◌}
use Prim.Native.Nat.{◌-◌}
use lib.ListN.{length}
use Rattle.rules.specs.Scan.{repeat}
use Rattle.rules.specs.Store.{store}
use Rattle.rules.specs.Effects.{released}
use Rattle.apply.proofs.carry.release_all.Given as goal

abbrev pub invariant-loop-i : goal.invariant-loop-i
invariant-loop-i l = (length l.files ≡ length l.initial.files) × (length l.contents ≡ length l.initial.contents) × (length l.open_files ≡ length l.initial.open_files) × (length l.processes ≡ length l.initial.processes)
    × (repeat (released l.p) l.i 8 (store l.files l.contents l.open_files l.processes) ≡ repeat (released l.p) 0 8 (store l.initial.files l.initial.contents l.initial.open_files l.initial.processes))
