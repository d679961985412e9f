use mathlib.Core.Path.{◌≡◌}
use Prim.Native.Nat.{◌-◌}
use Rattle.soundness.specs.Counted.{climbs_by}
use Rattle.soundness.proofs.tree.climbs.Given as goal

abbrev pub invariant-loop-step : goal.invariant-loop-step
invariant-loop-step l = climbs_by l.parents (l.n - l._step) l.at.0 ≡ climbs_by l.parents l.n l.initial.at.0
