-- What tests that pass say: each of two, and each of a list.
use mathlib.Core.Path.{◌≡◌, refl}
use mathlib.Core.Bool.{Bool, true, false, false≢true, cond}
use mathlib.Core.List.{List, [], ◌∷◌}
use Prim.Native.Nat.{ℕ, zero, suc}
use lib.ListN.{get_or}
use Rattle.rules.specs.Choice.{every}

pub both : (a b : Bool) → cond a b false ≡ true → (a ≡ true) × (b ≡ true)
both true b e = (refl, e)
both false b e = absurd (false≢true e)

-- the i-th test of a list that passes
pub test : (i : ℕ) (ts : List Bool) → every ts ≡ true → get_or ts i true ≡ true
unfolding every
test i [] e = refl
test zero (t ∷ ts) e = (both t (every ts) e).0
test (suc i) (t ∷ ts) e = test i ts (both t (every ts) e).1
