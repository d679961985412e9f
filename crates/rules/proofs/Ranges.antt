-- What the constructors of bits and modes take, as bounds.
use Prim.Native.Nat.{ℕ, ◌+◌, ◌-◌}
use mathlib.Core.Path.{◌≡◌, refl}
use mathlib.Core.Bool.{Bool, true, false, cond}
use mathlib.Core.List.{[], ◌∷◌}
use lib.Dec.{leb}
use Rattle.std.specs.Prelude.{Some, None, is_some}
use Rattle.rules.specs.Choice.{every}
use Rattle.rules.specs.Layout.{BITS_MAX, MODE_MAX}
use Rattle.rules.specs.Rights.{bits_of, bits_known, mode_of, mode_kept, TRUNCATE}
use Rattle.rules.specs.Decisions.{Keep, Truncate}
use Rattle.rules.specs.declared.rights.Bits.{Bits}

pub bits-known : (n : ℕ) → bits_known n ≡ leb n BITS_MAX
unfolding bits_of
bits-known n = by (leb n BITS_MAX)
  where
    by : (b : Bool) → is_some {T = Bits} (cond b (Some (record { 0 = n })) None) ≡ b
    by true = refl
    by false = refl

pub mode-kept : (n : ℕ) → mode_kept (mode_of n) ≡ every (leb 1 n ∷ leb n MODE_MAX ∷ [])
unfolding mode_of mode_kept
mode-kept n = by (every (leb 1 n ∷ leb n MODE_MAX ∷ [])) (every (leb (TRUNCATE + 2) n ∷ leb n (TRUNCATE + MODE_MAX) ∷ []))
  where
    by : (a b : Bool) → mode_kept (cond a (Keep (record { 0 = n })) (cond b (Truncate (record { 0 = n - TRUNCATE })) None)) ≡ a
    by true b = refl
    by false true = refl
    by false false = refl
