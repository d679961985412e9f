-- The word of the descriptors that a process holds: one bit for each.
use Rattle.std.specs.Prelude.{ℕ, ◌+◌, ◌*◌, ◌/◌, ◌%◌, ◌^◌, ◌<◌, ◌≤◌, ◌≡◌, Bool, false, cond, eqb}
use Rattle.rules.specs.Layout.{DESCRIPTORS}
use Rattle.rules.specs.Scan.{fold}
use Rattle.rules.specs.Store.{Table, fd_of}
use Rattle.rules.specs.Checks.{held}
use Rattle.rules.specs.declared.ids.Pid.{Pid}

-- the number whose binary digits, lowest first, are 1 where t holds of i, i + 1, .. up to and without n, and 0 where it does not
unfoldable pub bits : (ℕ → Bool) → ℕ → ℕ → ℕ
bits t i n = fold (λ j rest. cond (t j) 1 0 + 2 * rest) i n 0

-- bit n of w
abbrev pub is_set : ℕ → ℕ → Bool
is_set w n = eqb ((w / 2 ^ n) % 2) 1

abbrev pub used_word : Table → Pid → ℕ
used_word desc p = bits (λ n. held desc p (fd_of n)) 0 DESCRIPTORS

-- Bit n of w is set exactly when descriptor n is held, for n below 8, and no other bit is set.
abbrev pub BitsHeld : Table → Pid → ℕ → Type 0
BitsHeld desc p w = ((n : ℕ) → n < DESCRIPTORS → is_set w n ≡ held desc p (fd_of n)) × ((n : ℕ) → DESCRIPTORS ≤ n → is_set w n ≡ false)
