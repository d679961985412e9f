-- What the first byte of a name tells: names that begin otherwise are not the same, and one that does not begin with a point is no dots.
use Prim.Native.Nat.{ℕ}
use mathlib.Core.Path.{◌≡◌, refl, sym, ◌∙◌}
use mathlib.Core.Bool.{Bool, false}
use mathlib.Core.List.{[], ◌∷◌}
use native.Mathlib.Omega.{arith}
use borrow.Author.Tests.{ne_eqb}
use lib.Dec.{eqb}
use lib.ListN.{get_or}
use Rattle.rules.specs.Choice.{some}
use Rattle.rules.specs.Layout.{POINT}
use Rattle.rules.specs.Paths.{Name, same_at, same_name, is_dots}
use Rattle.rules.proofs.Scans.{all-no}

pub told-apart : (m n : Name) (b : ℕ) (r : Bool) → b ≡ get_or n 0 0 → r ≡ eqb (get_or m 0 0) b → r ≡ false → false ≡ same_name m n
unfolding same_name same_at
told-apart m n b r a q e = all-no (same_at m n) 0 14 refl (omega arith) (sym q ∙ e) (rw a)

pub no_dots : (n : Name) (b : ℕ) → b ≡ get_or n 0 0 → (b ≡ POINT → ⊥) → false ≡ is_dots n
unfolding is_dots some
no_dots n b q h =
    let e : eqb (get_or n 0 0) POINT ≡ false = ne_eqb (get_or n 0 0) POINT (λ w. h (q ∙ w)) in
    rw (← told-apart n (POINT ∷ []) POINT _ refl refl e, ← told-apart n (POINT ∷ POINT ∷ []) POINT _ refl refl e) refl
