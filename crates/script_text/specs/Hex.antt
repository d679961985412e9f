-- Hex as the code reads it: a byte is what is left of a pair of digits in 8 bits, whatever the digits are.
use Rattle.std.specs.Prelude.{ℕ, ◌+◌, ◌*◌, ◌%◌, List, [], ◌∷◌}
use Rattle.script_rules.specs.Text.{hex_value}

unfoldable pub pairs : List ℕ → List ℕ
pairs [] = []
pairs (a ∷ []) = []
pairs (a ∷ b ∷ rest) = ((hex_value a * 16 + hex_value b) % 256) ∷ pairs rest
