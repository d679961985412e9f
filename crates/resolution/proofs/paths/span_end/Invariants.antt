-- The invariant: the span from i on ends where the whole span does.
use Prim.Native.Nat.{ℕ, ◌+◌}
use mathlib.Core.Path.{◌≡◌}
use mathlib.Core.Bool.{Bool}
use mathlib.Core.List.{List}
use lib.ListN.{drop}
use Rattle.rules.specs.Paths.{span}
use Rattle.resolution.specs.Parse.{Tests}
use Rattle.resolution.proofs.paths.span_end.Given as goal

abbrev pub ends : List ℕ → ℕ → (ℕ → Bool) → ℕ
ends p i t = i + span t (drop i p)

abbrev pub invariant-loop-i : goal.invariant-loop-i
invariant-loop-i g l = (t : ℕ → Bool) → Tests (goal.F-post g l.test) t → ends l.path l.at t ≡ ends l.path l.i t
