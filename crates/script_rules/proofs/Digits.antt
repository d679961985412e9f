-- More digits never make a number smaller.
use Prim.Native.Nat.{ℕ, ◌+◌, ◌-◌, ◌*◌, ◌≤◌}
use mathlib.Core.List.{List, [], ◌∷◌}
use native.Mathlib.Omega.{arith}
use Rattle.script_rules.specs.Text.{ZERO, digits_from}

pub grows : (n : ℕ) (ds : List ℕ) → n ≤ digits_from n ds
unfolding digits_from
grows n [] = omega arith
grows n (d ∷ ds) = omega (arith, grows (n * 10 + (d - ZERO)) ds)
