use mathlib.Core.Path.{◌≡◌}
use Prim.Native.Nat.{◌+◌, ◌≤◌}
use Rattle.rules.specs.Layout.{DIRENTS}
use Rattle.rules.specs.Scan.{count}
use Rattle.rules.specs.Sound.{is_used}
use Rattle.soundness.proofs.dirents.used_count.Given as goal

abbrev pub invariant-loop-i : goal.invariant-loop-i
invariant-loop-i l = (l.n ≤ l.i) × (l.n + count (is_used l.dir) l.i DIRENTS ≡ count (is_used l.dir) 0 DIRENTS)
