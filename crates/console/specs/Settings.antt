-- The console's tables, and what the lines that set them make of them.
use Rattle.std.specs.Prelude.{ℕ, ◌+◌, ◌*◌, min, Bool, true, false, cond, not, List, [], ◌∷◌, ◌++◌, eqb, length, take, replicate, Option, Some, None}
use Rattle.std.specs.List as list
use Rattle.std.specs.List.{slice_get}
use Rattle.std.specs.Option.{option_and_then, is_some}
use Rattle.std.proofs.lemmas.List.Edits.{sets}
use Rattle.rules.specs.Layout.{SLOTS, FILE_WIDTH, BLOCK, OPEN_FILES, OPEN_FILE_WIDTH, PROCESSES, PROCESS_WIDTH, LABELS, RIGHTS_SIZE, NO_TRANSITION}
use Rattle.rules.specs.Store.{zeros}
use Rattle.rules.specs.Scan.{fold, first}
use Rattle.console.specs.Words.{head_of, word_of, index_of}
use Rattle.console.specs.Numbers.{number_at}
use Rattle.console.specs.Texts.{text_of}
use Rattle.console.specs.declared.settings.Rom as factory
use Rattle.console.specs.declared.settings.Console.{Console}
use Rattle.console.specs.declared.settings.Table.{Table}
use Rattle.console.specs.declared.settings.Table.TheVariants.{Files, Opens, Processes, Contents, Policy, Rom}

-- ---- the tables

abbrev pub tables : (files contents open_files processes policy : List ℕ) (rom : factory.Rom) → Console
tables f c e p q r = record { files = f; contents = c; open_files = e; processes = p; policy = q; rom = r }

-- room for the factory part: more than 16 prompts take
abbrev pub ROM_ROOM : ℕ
ROM_ROOM = 9216

-- the factory part: the first `size` bytes of its room
abbrev pub part : (room : List ℕ) (size : ℕ) → factory.Rom
part r n = record { room = r; size = n }

abbrev pub rom_of : factory.Rom → List ℕ
rom_of r = take r.size r.room

abbrev pub part_of : Console → List ℕ
part_of s = rom_of s.rom

-- no files, no processes, no rights, no transitions and no prompts
unfoldable pub empty_tables : Console
empty_tables =
    tables (replicate (SLOTS * FILE_WIDTH) 0) (replicate (SLOTS * BLOCK) 0) (replicate (OPEN_FILES * OPEN_FILE_WIDTH) 0) (replicate (PROCESSES * PROCESS_WIDTH) 0)
    (replicate RIGHTS_SIZE 0 ++ replicate RIGHTS_SIZE NO_TRANSITION)
    (part (replicate ROM_ROOM 0) 0)

-- ---- the parts of a line l: set TABLE RECORD FIELD VALUES

-- where field k of record i is in a table of records of w words
abbrev pub place_in : (w i k : ℕ) → ℕ
place_in w i k = w * i + k

-- a number before the others
unfoldable pub before : Option ℕ → List ℕ → List ℕ
before (Some n) rest = n ∷ rest
before None rest = []

unfoldable pub with_number : List ℕ → ℕ → List ℕ → List ℕ
with_number l k rest = before (number_at l k) rest

-- the numbers of a line, from word 4 on, up to the first word that is none; a line has more bytes than words
unfoldable pub numbers_of : List ℕ → List ℕ
numbers_of l = fold (with_number l) 4 (length l) []

unfoldable pub no_number_at : List ℕ → ℕ → Bool
no_number_at l k = not (is_some (number_at l k))

-- and that word
abbrev pub numbers_end : List ℕ → ℕ
numbers_end l = first (no_number_at l) 4 (length l)

-- the line ends with them
unfoldable pub ends_well : List ℕ → Bool
ends_well l = eqb (length (word_of l (numbers_end l))) 0

-- the text of a line, word 4
abbrev pub text_in : List ℕ → Option (List ℕ)
text_in l = text_of (word_of l 4)

abbrev pub text_fits : List ℕ → Bool
text_fits l = is_some (text_in l)

abbrev pub words_set : (l : List ℕ) (at : ℕ) (table : List ℕ) → List ℕ
words_set l at table = cond (ends_well l) (sets table at (numbers_of l)) table

unfoldable pub text_put : Option (List ℕ) → (at : ℕ) (table : List ℕ) → List ℕ
text_put (Some t) at table = sets table at t
text_put None at table = table

abbrev pub bytes_set : (l : List ℕ) (at : ℕ) (table : List ℕ) → List ℕ
bytes_set l at table = text_put (text_in l) at table

-- the text in the factory part from `at` on, which ends with it or with its room; where the part was shorter there is 0 before the text
unfoldable pub rom_put : (at : ℕ) (text : List ℕ) → factory.Rom → factory.Rom
rom_put at text r = part (sets (sets r.room (min r.size at) (zeros ROM_ROOM)) at text) (min (at + length text) ROM_ROOM)

unfoldable pub rom_written : Option (List ℕ) → (at : ℕ) → factory.Rom → factory.Rom
rom_written (Some t) at r = rom_put at t r
rom_written None at r = r

abbrev pub rom_set : List ℕ → (at : ℕ) → factory.Rom → factory.Rom
rom_set l at r = rom_written (text_in l) at r

-- "files opens processes contents policy rom"
abbrev pub TABLES : List ℕ
TABLES =
    102 ∷ 105 ∷ 108 ∷ 101 ∷ 115 ∷ 32 ∷ 111 ∷ 112 ∷ 101 ∷ 110 ∷ 115 ∷ 32 ∷ 112 ∷ 114 ∷ 111 ∷ 99 ∷ 101 ∷ 115 ∷ 115 ∷ 101 ∷ 115 ∷ 32 ∷ 99 ∷ 111 ∷ 110 ∷ 116 ∷ 101 ∷ 110 ∷ 116 ∷ 115 ∷ 32 ∷ 112 ∷ 111 ∷ 108
    ∷ 105 ∷ 99 ∷ 121 ∷ 32 ∷ 114 ∷ 111 ∷ 109 ∷ []

-- the table that a line names
unfoldable pub table_of : List ℕ → Option Table
table_of l = option_and_then (λ k. slice_get (Files ∷ Opens ∷ Processes ∷ Contents ∷ Policy ∷ Rom ∷ []) k) (index_of TABLES (word_of l 1))

-- tables of words are shown
unfoldable pub is_shown : Option Table → Bool
is_shown (Some Files) = true
is_shown (Some Opens) = true
is_shown (Some Processes) = true
is_shown (Some Contents) = false
is_shown (Some Policy) = false
is_shown (Some Rom) = false
is_shown None = false

-- a line that shows a table names a record too
unfoldable pub record_shown : Option ℕ → Option Table → Bool
record_shown (Some i) t = is_shown t
record_shown None t = false

abbrev pub line_shown : List ℕ → Bool
line_shown l = record_shown (number_at l 2) (table_of l)

-- field k of record i, and what follows, become a line's numbers or its text
unfoldable pub table_set : Option Table → (i k : ℕ) → List ℕ → Console → Console
table_set (Some Files) i k l s = tables (words_set l (place_in FILE_WIDTH i k) s.files) s.contents s.open_files s.processes s.policy s.rom
table_set (Some Opens) i k l s = tables s.files s.contents (words_set l (place_in OPEN_FILE_WIDTH i k) s.open_files) s.processes s.policy s.rom
table_set (Some Processes) i k l s = tables s.files s.contents s.open_files (words_set l (place_in PROCESS_WIDTH i k) s.processes) s.policy s.rom
table_set (Some Contents) i k l s = tables s.files (bytes_set l (place_in BLOCK i k) s.contents) s.open_files s.processes s.policy s.rom
table_set (Some Policy) i k l s = tables s.files s.contents s.open_files s.processes (bytes_set l (place_in LABELS i k) s.policy) s.rom
table_set (Some Rom) i k l s = tables s.files s.contents s.open_files s.processes s.policy (rom_set l (place_in BLOCK i k) s.rom)
table_set None i k l s = s

unfoldable pub record_set : (i k : Option ℕ) → List ℕ → Console → Console
record_set (Some i) (Some k) l s = table_set (table_of l) i k l s
record_set (Some i) None l s = s
record_set None k l s = s

unfoldable pub line_set : List ℕ → Console → Console
line_set l s = record_set (number_at l 2) (number_at l 3) l s

-- the line is understood
unfoldable pub table_known : Option Table → List ℕ → Bool
table_known (Some Files) l = ends_well l
table_known (Some Opens) l = ends_well l
table_known (Some Processes) l = ends_well l
table_known (Some Contents) l = text_fits l
table_known (Some Policy) l = text_fits l
table_known (Some Rom) l = text_fits l
table_known None l = false

unfoldable pub record_known : (i k : Option ℕ) → List ℕ → Bool
record_known (Some i) (Some k) l = table_known (table_of l) l
record_known (Some i) None l = false
record_known None k l = false

abbrev pub set_known : List ℕ → Bool
set_known l = record_known (number_at l 2) (number_at l 3) l

-- ---- "fresh": the lines of the script's head

unfoldable pub fresh_tables : List ℕ → Console
fresh_tables script = list.fold (λ s l. line_set l s) empty_tables (head_of script)
