use mathlib.Core.Path.{◌≡◌}
use mathlib.Core.List.{List}
use Prim.Native.Nat.{ℕ, ◌-◌}
use lib.ListN.{length}
use Rattle.rules.specs.Scan.{repeat}
use Rattle.rules.specs.Store.{store}
use Rattle.rules.specs.Effects.{shared}
use Rattle.apply.proofs.carry.share_all.Given as goal

abbrev pub invariant-loop-i : goal.invariant-loop-i
invariant-loop-i l = (length l.open_files ≡ length l.initial.open_files) × (length l.processes ≡ length l.initial.processes)
    × ((F C : List ℕ) → repeat (shared l.p l.q) l.i 8 (store F C l.open_files l.processes) ≡ repeat (shared l.p l.q) 0 8 (store F C l.initial.open_files l.initial.processes))
