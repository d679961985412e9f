-- Decimal numbers of 32 bits.
use Rattle.std.specs.Prelude.{ℕ, Bool, cond, not, List, [], ◌∷◌, eqb, leb, length, Option, Some, None}
use Rattle.std.specs.List.{list_all}
use Rattle.rules.specs.Choice.{every}
use Rattle.script_rules.specs.Text.{is_digit, number_of}
use Rattle.console.specs.Words.{word_of}

abbrev pub NUMBER_MAX : ℕ
NUMBER_MAX = 4294967295

-- digits, one at least
unfoldable pub is_decimal : List ℕ → Bool
is_decimal t = every (not (eqb (length t) 0) ∷ list_all is_digit t ∷ [])

-- none above the largest
unfoldable pub narrow : ℕ → Option ℕ
narrow n = cond (leb n NUMBER_MAX) (Some n) None

-- the number that a word writes
unfoldable pub number_in : List ℕ → Option ℕ
number_in t = cond (is_decimal t) (narrow (number_of t)) None

-- word k of a line as a number
abbrev pub number_at : List ℕ → ℕ → Option ℕ
number_at l k = number_in (word_of l k)
