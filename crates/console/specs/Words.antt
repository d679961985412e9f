-- The lines of a script and the words of a line.
use Rattle.std.specs.Prelude.{ℕ, zero, suc, ◌+◌, Bool, cond, not, List, [], eqb, ltb, length, take, drop, Option}
use Rattle.std.specs.List.{slice_split, slice_get, filter, take_while, position}
use Rattle.std.specs.Option.{unwrap_or}
use Rattle.std.specs.Str.{bytes_eq}
use Rattle.rules.specs.Paths.{span}
use Rattle.script_rules.specs.Text.{NEWLINE, not_newline}

abbrev pub SPACE : ℕ
SPACE = 32

abbrev pub has_bytes : List ℕ → Bool
has_bytes l = not (eqb (length l) 0)

-- ---- lines

-- how long the line is that has the place `at` of the script, from there on
abbrev pub line_length : List ℕ → (at : ℕ) → ℕ
line_length script at = span not_newline (drop at script)

abbrev pub line_at : List ℕ → (at : ℕ) → List ℕ
line_at script at = take (line_length script at) (drop at script)

-- where that line ends
abbrev pub line_end : List ℕ → (at : ℕ) → ℕ
line_end script at = at + line_length script at

-- and the next begins
unfoldable pub next_line : List ℕ → (at : ℕ) → ℕ
next_line script at = cond (ltb (line_end script at) (length script)) (line_end script at + 1) (line_end script at)

-- the lines of a script's head: an empty one ends it
unfoldable pub head_of : List ℕ → List (List ℕ)
head_of script = take_while has_bytes (slice_split (λ b. eqb b NEWLINE) script)

-- ---- words

-- what stands between spaces
abbrev pub between : List ℕ → List (List ℕ)
between l = slice_split (λ b. eqb b SPACE) l

abbrev pub is_space : ℕ → Bool
is_space b = eqb b SPACE

abbrev pub not_space : ℕ → Bool
not_space b = not (eqb b SPACE)

-- a line from its first word on, that word, and what follows it
abbrev pub from_word : List ℕ → List ℕ
from_word l = drop (span is_space l) l

abbrev pub first_word : List ℕ → List ℕ
first_word l = take (span not_space (from_word l)) (from_word l)

abbrev pub after_word : List ℕ → List ℕ
after_word l = drop (span not_space (from_word l)) (from_word l)

-- what follows its first k words
unfoldable pub past_words : ℕ → List ℕ → List ℕ
past_words zero l = l
past_words (suc k) l = past_words k (after_word l)

-- word k of a line, counted from 0; empty past the last
unfoldable pub word_of : List ℕ → ℕ → List ℕ
word_of l k = unwrap_or (slice_get (filter has_bytes (between l)) k) []

-- which word of a list with one space between words is this one
unfoldable pub index_of : (list name : List ℕ) → Option ℕ
index_of list name = position (λ w. bytes_eq w name) (between list)
