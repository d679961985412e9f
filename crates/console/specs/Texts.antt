-- Texts: a byte stands for itself, but `\xNN` is byte NN.
use Rattle.std.specs.Prelude.{ℕ, zero, suc, ◌+◌, ◌*◌, Bool, true, false, cond, not, List, [], ◌∷◌, eqb, leb, length, get_or, drop, Option, Some, None}
use Rattle.std.specs.Option.{unwrap_or, is_some}
use Rattle.rules.specs.Choice.{every}
use Rattle.rules.specs.Layout.{BLOCK}
use Rattle.script_rules.specs.Text.{is_hex, hex_value}

-- what stands for itself where a text is written: what can be seen, but no backslash
unfoldable pub is_plain : ℕ → Bool
is_plain b = every (not (eqb b 92) ∷ leb 33 b ∷ leb b 126 ∷ [])

-- the text begins with a backslash
unfoldable pub escapes : List ℕ → Bool
escapes t = eqb (get_or t 0 0) 92

-- what a digit of hex stands for
unfoldable pub hex_digit : ℕ → Option ℕ
hex_digit b = cond (is_hex b) (Some (hex_value b)) None

unfoldable pub hex_pair : Option ℕ → Option ℕ → Option ℕ
hex_pair (Some h) (Some l) = Some (16 * h + l)
hex_pair (Some h) None = None
hex_pair None l = None

-- and then x and two digits
unfoldable pub escaped : List ℕ → Option ℕ
escaped t = cond (eqb (get_or t 1 0) 120) (hex_pair (hex_digit (get_or t 2 0)) (hex_digit (get_or t 3 0))) None

-- the first byte that a text writes, and how many of its own bytes do
unfoldable pub first_byte : List ℕ → Option ℕ
first_byte t = cond (escapes t) (escaped t) (Some (get_or t 0 0))

unfoldable pub first_width : List ℕ → ℕ
first_width t = cond (escapes t) 4 1

unfoldable pub readable : List ℕ → Bool
readable t = every (is_some (first_byte t) ∷ leb (first_width t) (length t) ∷ [])

-- the bytes that a text writes, n at most: up to its end or to what writes none
unfoldable pub bytes_in : ℕ → List ℕ → List ℕ
bytes_in zero t = []
bytes_in (suc n) t = cond (readable t) (unwrap_or (first_byte t) 0 ∷ bytes_in n (drop (first_width t) t)) []

-- that is its end
unfoldable pub whole_in : ℕ → List ℕ → Bool
whole_in zero t = true
whole_in (suc n) t = cond (eqb (length t) 0) true (cond (readable t) (whole_in n (drop (first_width t) t)) false)

-- a text has at least as many bytes as it writes
abbrev pub text_bytes : List ℕ → List ℕ
text_bytes t = bytes_in (length t) t

-- how many they are; none where the text is broken
unfoldable pub text_length : List ℕ → Option ℕ
text_length t = cond (whole_in (length t) t) (Some (length (text_bytes t))) None

-- they have room in a slot
unfoldable pub fitting : Option ℕ → List ℕ → Option (List ℕ)
fitting (Some n) bytes = cond (leb n BLOCK) (Some bytes) None
fitting None bytes = None

unfoldable pub text_of : List ℕ → Option (List ℕ)
text_of t = fitting (text_length t) (text_bytes t)
