-- Numbers and bytes as a script writes them: decimal digits, lower-case hex, lines that end with byte 10.
use Rattle.std.specs.Prelude.{ℕ, zero, suc, ◌+◌, ◌-◌, ◌*◌, ◌/◌, ◌%◌, Bool, cond, not, List, [], ◌∷◌, ◌++◌, eqb, ltb, leb, length, get_or}
use Rattle.rules.specs.Choice.{every, some}
use Rattle.rules.specs.Layout.{NUMBER_MAX}

-- "Every line ends with byte 10"
abbrev pub NEWLINE : ℕ
NEWLINE = 10

unfoldable pub not_newline : ℕ → Bool
not_newline b = not (eqb b NEWLINE)

-- ---- "Numbers are decimal without leading zeros, at most 65,535"

-- digit 0
abbrev pub ZERO : ℕ
ZERO = 48

unfoldable pub is_digit : ℕ → Bool
is_digit b = every (leb 48 b ∷ leb b 57 ∷ [])

-- the number that digits write, after those that write n
unfoldable pub digits_from : ℕ → List ℕ → ℕ
digits_from n [] = n
digits_from n (d ∷ ds) = digits_from (n * 10 + (d - ZERO)) ds

abbrev pub number_of : List ℕ → ℕ
number_of digits = digits_from 0 digits

-- a leading zero stands alone
unfoldable pub leads : List ℕ → Bool
leads digits = some (eqb (length digits) 1 ∷ not (eqb (get_or digits 0 0) ZERO) ∷ [])

-- 65,535 has five digits
unfoldable pub length_ok : List ℕ → Bool
length_ok digits = every (leb 1 (length digits) ∷ leb (length digits) 5 ∷ [])

unfoldable pub number_ok : List ℕ → Bool
number_ok digits = every (length_ok digits ∷ leads digits ∷ leb (number_of digits) NUMBER_MAX ∷ [])

-- n in decimal, of at most k digits
unfoldable pub digits : ℕ → ℕ → List ℕ
digits zero n = []
digits (suc k) n = cond (ltb n 10) ((ZERO + n) ∷ []) (digits k (n / 10) ++ ((ZERO + n % 10) ∷ []))

-- a word of 32 bits has at most ten digits
abbrev pub decimal : ℕ → List ℕ
decimal n = digits 10 n

-- ---- "data is lower-case hex"

unfoldable pub is_letter : ℕ → Bool
is_letter b = every (leb 97 b ∷ leb b 102 ∷ [])

unfoldable pub is_hex : ℕ → Bool
is_hex b = some (is_digit b ∷ is_letter b ∷ [])

-- what a digit of hex stands for
unfoldable pub hex_value : ℕ → ℕ
hex_value b = cond (leb b 57) (b - ZERO) (b - 87)

-- the bytes that hex writes, two digits each
unfoldable pub bytes_of : List ℕ → List ℕ
bytes_of [] = []
bytes_of (a ∷ []) = []
bytes_of (a ∷ b ∷ rest) = (hex_value a * 16 + hex_value b) ∷ bytes_of rest

unfoldable pub hex_ok : List ℕ → Bool
hex_ok text = eqb (length text % 2) 0

unfoldable pub hex_digit : ℕ → ℕ
hex_digit n = cond (ltb n 10) (ZERO + n) (87 + n)

unfoldable pub hex_of : List ℕ → List ℕ
hex_of [] = []
hex_of (b ∷ bs) = hex_digit (b / 16) ∷ hex_digit (b % 16) ∷ hex_of bs

-- ---- numbers as bytes

-- n bytes, "little end first"
unfoldable pub little : ℕ → ℕ → List ℕ
little zero x = []
little (suc n) x = x % 256 ∷ little n (x / 256)
