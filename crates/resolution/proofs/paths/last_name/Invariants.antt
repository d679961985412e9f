-- The invariant: the last of the name that was read and those from `at` on is that of the path.
use Prim.Native.Nat.{ℕ, ◌-◌}
use mathlib.Core.Path.{◌≡◌}
use mathlib.Core.List.{List, []}
use lib.ListN.{length, get_or, drop}
use Rattle.rules.specs.Paths.{Name, first_names}
use Rattle.resolution.proofs.Names.{last_of}
use Rattle.resolution.proofs.paths.last_name.Given as goal

abbrev pub last : List ℕ → Name → ℕ → ℕ → Name
last p name at k = last_of name (first_names (9 - k) (drop at p))

abbrev pub invariant-loop-k : goal.invariant-loop-k
invariant-loop-k l = last l.path l.name l.at l.k ≡ get_or (first_names 9 l.path) (length (first_names 9 l.path) - 1) []
