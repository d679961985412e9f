-- Laws of a digit of hex.
use Prim.Native.Nat.{ℕ, ◌+◌, ◌-◌, ◌≤◌, ◌<◌}
use mathlib.Core.Path.{◌≡◌, ap}
use Rattle.std.specs.Prelude.{Some, None}
use native.Mathlib.Omega.{arith}
use borrow.Author.Tests.{le-leb, lt-leb}
use Rattle.rules.specs.Choice.{every, some}
use Rattle.script_rules.specs.Text.{is_digit, is_letter, is_hex, hex_value}
use Rattle.console.specs.Texts.{hex_digit}

module _ (b : ℕ) where
  pub digit : 48 ≤ b → b ≤ 57 → Some (b - 48) ≡ hex_digit b
  unfolding hex_digit is_hex is_digit is_letter hex_value some every
  digit h k = rw (le-leb 48 b h, le-leb b 57 k)

  pub letter : 97 ≤ b → b ≤ 102 → Some (b - 97 + 10) ≡ hex_digit b
  unfolding hex_digit is_hex is_digit is_letter hex_value some every
  letter h k = rw (le-leb 48 b (omega arith), lt-leb b 57 (omega arith), le-leb 97 b h, le-leb b 102 k) (ap (λ (n : ℕ). Some n) (omega arith))

  pub below : b < 48 → None ≡ hex_digit b
  unfolding hex_digit is_hex is_digit is_letter some every
  below h = rw (lt-leb 48 b h, lt-leb 97 b (omega arith))

  pub between : 57 < b → b < 97 → None ≡ hex_digit b
  unfolding hex_digit is_hex is_digit is_letter some every
  between h k = rw (le-leb 48 b (omega arith), lt-leb b 57 h, lt-leb 97 b k)

  pub above : 102 < b → None ≡ hex_digit b
  unfolding hex_digit is_hex is_digit is_letter some every
  above h = rw (le-leb 48 b (omega arith), lt-leb b 57 (omega arith), le-leb 97 b (omega arith), lt-leb b 102 h)
