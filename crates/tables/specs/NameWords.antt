-- The 14 bytes of a padded name as two numbers, the first byte the lowest: two names are the same where both numbers are.
use Rattle.std.specs.Prelude.{ℕ, ◌+◌, ◌*◌, List, slice_index}

abbrev pub pair : ℕ → ℕ → ℕ
pair a b = a + 256 * b

abbrev pub quad : ℕ → ℕ → ℕ → ℕ → ℕ
quad a b c d = pair a b + 65536 * pair c d

-- of the first eight bytes
unfoldable pub low_word : List ℕ → ℕ
low_word n = quad (slice_index n 0) (slice_index n 1) (slice_index n 2) (slice_index n 3) + 4294967296 * quad (slice_index n 4) (slice_index n 5) (slice_index n 6) (slice_index n 7)

-- of the six after them
unfoldable pub high_word : List ℕ → ℕ
high_word n = quad (slice_index n 8) (slice_index n 9) (slice_index n 10) (slice_index n 11) + 4294967296 * pair (slice_index n 12) (slice_index n 13)
