-- FNV-1a in 32 bits, a word or a byte a turn.
use Rattle.std.specs.Prelude.{ℕ, ◌*◌, ◌%◌, List}
use Rattle.std.specs.Int.Bits.{bit_xor}
use Rattle.std.specs.List.{fold}
use Rattle.recorded.specs.declared.records.Tables.{Tables}

abbrev pub START : ℕ
START = 2166136261

abbrev pub PRIME : ℕ
PRIME = 16777619

abbrev pub WORDS : ℕ
WORDS = 4294967296

-- h, with one number more
unfoldable pub mixed : (h x : ℕ) → ℕ
mixed h x = bit_xor h x * PRIME % WORDS

-- h, with the numbers of a list
abbrev pub hashed : ℕ → List ℕ → ℕ
hashed h xs = fold mixed h xs

-- of the four tables, then the buffer
unfoldable pub digest_of : Tables → List ℕ → ℕ
digest_of t buffer = hashed (hashed (hashed (hashed (hashed START t.files) t.contents) t.open_files) t.processes) buffer
