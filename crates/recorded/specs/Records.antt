-- The tables as they are lent, and what records store in them.
use Rattle.std.specs.Prelude.{ℕ, ◌+◌, ◌*◌, min, List, [], ◌∷◌, length, get_or, take, drop, replicate}
use Rattle.std.proofs.lemmas.List.Edits.{sets}
use Rattle.rules.specs.Layout.{SLOTS, FILE_WIDTH, BLOCK, OPEN_FILES, OPEN_FILE_WIDTH, PROCESSES, PROCESS_WIDTH, RIGHTS_SIZE}
use Rattle.tables.specs.NameWords.{pair, quad}
use Rattle.recorded.specs.declared.records.Sizes.{Sizes}
use Rattle.recorded.specs.declared.records.Tables.{Tables}
use Rattle.recorded.specs.declared.records.Rom.{Rom}

-- ---- numbers of two and four bytes, little end first; 0 past the end

unfoldable pub short_at : List ℕ → ℕ → ℕ
short_at bs at = pair (get_or (drop at bs) 0 0) (get_or (drop at bs) 1 0)

unfoldable pub word_at : List ℕ → ℕ → ℕ
word_at bs at = quad (get_or (drop at bs) 0 0) (get_or (drop at bs) 1 0) (get_or (drop at bs) 2 0) (get_or (drop at bs) 3 0)

-- the words of a record; fewer than four bytes at the end are none
unfoldable pub words_of : List ℕ → List ℕ
words_of [] = []
words_of (a ∷ []) = []
words_of (a ∷ b ∷ []) = []
words_of (a ∷ b ∷ c ∷ []) = []
words_of (a ∷ b ∷ c ∷ d ∷ rest) = quad a b c d ∷ words_of rest

-- ---- a record that sets a table: a place, and what is stored from there on

abbrev pub words_set : (body table : List ℕ) → List ℕ
words_set body table = sets table (word_at body 0) (words_of (drop 4 body))

abbrev pub bytes_set : (body table : List ℕ) → List ℕ
bytes_set body table = sets table (word_at body 0) (drop 4 body)

-- ---- the tables

abbrev pub sizes : (files contents open_files processes policy : ℕ) → Sizes
sizes f c e p q = record { files = f; contents = c; open_files = e; processes = p; policy = q }

-- room for the factory part: more than 16 prompts take
abbrev pub ROM_ROOM : ℕ
ROM_ROOM = 9216

-- the factory part
abbrev pub rom_of : Rom → List ℕ
rom_of r = take r.size r.room

-- all 0 and of the right sizes, with room for one word more, and no prompts
unfoldable pub empty_tables : Tables
empty_tables = record {
  sizes = sizes (SLOTS * FILE_WIDTH) (SLOTS * BLOCK) (OPEN_FILES * OPEN_FILE_WIDTH) (PROCESSES * PROCESS_WIDTH) (RIGHTS_SIZE + RIGHTS_SIZE);
  files = replicate (SLOTS * FILE_WIDTH + 1) 0;
  contents = replicate (SLOTS * BLOCK + 1) 0;
  open_files = replicate (OPEN_FILES * OPEN_FILE_WIDTH + 1) 0;
  processes = replicate (PROCESSES * PROCESS_WIDTH + 1) 0;
  policy = replicate (RIGHTS_SIZE + RIGHTS_SIZE + 1) 0;
  rom = record { room = replicate ROM_ROOM 0; size = 0 };
}

-- ---- what a record says of sizes and of the factory part

unfoldable pub sizes_in : List ℕ → Sizes
sizes_in body = sizes (word_at body 0) (word_at body 4) (word_at body 8) (word_at body 12) (word_at body 16)

-- the factory part, whole: what is past its room is left out
unfoldable pub rom_in : List ℕ → Rom
rom_in body = record { room = sets (replicate ROM_ROOM 0) 0 body; size = min (length body) ROM_ROOM }
