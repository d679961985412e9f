-- Numbers as the code reads them: of 16 bits, or none.
use Rattle.std.specs.Prelude.{ℕ, cond, List, leb, Option, Some, None}
use Rattle.rules.specs.Layout.{NUMBER_MAX}
use Rattle.script_rules.specs.Text.{number_of, number_ok}

-- none above the largest
unfoldable pub narrow : ℕ → Option ℕ
narrow n = cond (leb n NUMBER_MAX) (Some n) None

-- the number that a text writes, none where it is no number of a script
unfoldable pub number_read : List ℕ → Option ℕ
number_read digits = cond (number_ok digits) (Some (number_of digits)) None
