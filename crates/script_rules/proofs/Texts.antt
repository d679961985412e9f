-- Laws of texts as a script writes them.
use Prim.Native.Nat.{ℕ, ◌*◌}
use mathlib.Core.Path.{◌≡◌, refl}
use mathlib.Core.List.{List, [], ◌∷◌}
use native.Mathlib.Omega.{arith}
use lib.ListN.{length}
use Rattle.script_rules.specs.Text.{hex_of}

-- two digits for a byte
pub length-hex : (bs : List ℕ) → length (hex_of bs) ≡ 2 * length bs
unfolding hex_of
length-hex [] = refl
length-hex (b ∷ bs) = omega (arith, length-hex bs)
