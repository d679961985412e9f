-- "Factory prompts" (paper 02, R-6): read-only memory beside the store, which the rules see as the directory /rom and plain files in it.
use Rattle.std.specs.Prelude.{ℕ, zero, suc, ◌+◌, ◌-◌, ◌*◌, ◌/◌, ◌%◌, Bool, true, cond, List, [], ◌∷◌, ◌++◌, eqb, ltb, leb, length, get_or, take, drop}
use Rattle.rules.specs.Choice.{every}
use Rattle.rules.specs.Layout.{SLOTS, BLOCK, DIRENT_WIDTH, DIRENTS, PROMPTS, ROM, PLAIN, DIRECTORY, FILE_WIDTH, FILE_KIND, FILE_OWNER, FILE_GROUP, FILE_BITS, FILE_LABEL, FILE_LENGTH, FILE_LINKS, FILE_VERSION}
use Rattle.rules.specs.Store.{Table, Tree, View, slot, is_slot, bits_at, words, tab, tree}
use Rattle.rules.specs.Paths.{Name}
use Rattle.rules.specs.Directories.{padded, dirent}
use Rattle.rules.specs.declared.ids.Slot.{Slot}
use Rattle.rules.specs.declared.decision.Record.{Record}

-- ---- the part: "each stored in turn as a two-byte length, little end first, and its bytes"

unfoldable pub prompt_length : List ℕ → ℕ
prompt_length X = get_or X 0 0 + 256 * get_or X 1 0

-- what follows the first prompt
abbrev pub next_prompt : List ℕ → List ℕ
next_prompt X = drop (2 + prompt_length X) X

-- the part from prompt k on
unfoldable pub rom_from : ℕ → List ℕ → List ℕ
rom_from zero X = X
rom_from (suc k) X = rom_from k (next_prompt X)

-- how many prompts there are, n at most
unfoldable pub prompt_count : ℕ → List ℕ → ℕ
prompt_count zero X = 0
prompt_count (suc n) X = cond (eqb (length X) 0) 0 (suc (prompt_count n (next_prompt X)))

-- the first prompt is whole, and of at most 512 bytes
unfoldable pub prompt_sound : List ℕ → Bool
prompt_sound X = every (leb (prompt_length X) BLOCK ∷ leb (2 + prompt_length X) (length X) ∷ [])

-- at most n prompts, and nothing after them: not "a short or overlong part, a prompt over 512 bytes"
unfoldable pub prompts_sound : ℕ → List ℕ → Bool
prompts_sound zero X = eqb (length X) 0
prompts_sound (suc n) X = cond (eqb (length X) 0) true (every (prompt_sound X ∷ prompts_sound n (next_prompt X) ∷ []))

-- "up to 16 files"
abbrev pub rom_sound : List ℕ → Bool
rom_sound R = prompts_sound PROMPTS R

-- the bytes of the first prompt
abbrev pub first_prompt : List ℕ → List ℕ
first_prompt X = take (prompt_length X) (drop 2 X)

-- the bytes of prompt k; there is no seventeenth
unfoldable pub prompt : List ℕ → ℕ → List ℕ
prompt R k = cond (ltb k PROMPTS) (first_prompt (rom_from k R)) []

-- ---- what the rules see of it

-- "Label, owner, group and stamp 0, bits 292, names 1"; "/rom is a like directory, bits 365". How long they are is asked of the part: `length_in`
abbrev pub rom_record : (kind bits : ℕ) → Record
rom_record kind bits = record { kind = kind; owner = 0; group = 0; bits = bits_at bits; label = 0; length = 0; links = 1; version = 0 }

-- "plain files, numbered 128 to 143"; the number of /rom is shown nowhere
unfoldable pub rom_words : ℕ → List ℕ
rom_words s = cond (ltb s ROM) (words (rom_record PLAIN 292)) (cond (eqb s ROM) (words (rom_record DIRECTORY 365)) [])

-- the records of the store's slots, and those of the part's files
unfoldable pub seen_file : Table → Table
seen_file file s k = cond (is_slot (slot s)) (file s k) (get_or (rom_words s) k 0)

-- the length of any file: what stat and a read ask
unfoldable pub length_in : List ℕ → Table → Slot → ℕ
length_in R file s =
    cond (is_slot s) (file s.0 FILE_LENGTH)
    (cond (eqb s.0 ROM) (prompt_count PROMPTS R) (length (prompt R (s.0 - SLOTS))))

-- "/rom/00 to /rom/15"
abbrev pub ROM_NAME : Name
ROM_NAME = 114 ∷ 111 ∷ 109 ∷ []

abbrev pub prompt_name : ℕ → Name
prompt_name i = (48 + i / 10) ∷ (48 + i % 10) ∷ []

-- the entries of n prompts, from prompt i on
unfoldable pub prompt_dirents : ℕ → ℕ → List ℕ
prompt_dirents i zero = []
prompt_dirents i (suc n) = dirent (prompt_name i) (slot (SLOTS + i)) ++ prompt_dirents (suc i) n

-- the entries of /rom: those of the prompts there are
abbrev pub rom_dirents : List ℕ → List ℕ
rom_dirents R = take (DIRENT_WIDTH * prompt_count PROMPTS R) (prompt_dirents 0 PROMPTS)

-- "listed in the root but not in its length": the root's own entries, and that of /rom
unfoldable pub with_rom : List ℕ → List ℕ
with_rom D = padded (DIRENTS * DIRENT_WIDTH) D ++ dirent ROM_NAME (slot ROM)

unfoldable pub seen_dirents : List ℕ → (ℕ → List ℕ) → ℕ → List ℕ
seen_dirents R dirents s = cond (eqb s 0) (with_rom (dirents 0)) (cond (eqb s ROM) (rom_dirents R) (dirents s))

-- what calls are decided on: the store as it is, and the files of the factory part
abbrev pub seen_tree : List ℕ → Tree → Tree
seen_tree R t = record { file = seen_file t.file; shown = t.shown; dirents = seen_dirents R t.dirents }

abbrev pub seen : List ℕ → View → View
seen R v = record { tree = seen_tree R v.tree; open_files = v.open_files; proc = v.proc; desc = v.desc }

-- the same of the lent tables
abbrev pub files_in : List ℕ → Table
files_in F = seen_file (tab FILE_WIDTH F)

abbrev pub tree_in : (R F C : List ℕ) → Tree
tree_in R F C = seen_tree R (tree F C)

-- the record of any file: what stat answers
abbrev pub record_of : List ℕ → Table → Slot → Record
record_of R file s = record {
  kind = file s.0 FILE_KIND;
  owner = file s.0 FILE_OWNER;
  group = file s.0 FILE_GROUP;
  bits = bits_at (file s.0 FILE_BITS);
  label = file s.0 FILE_LABEL;
  length = length_in R file s;
  links = file s.0 FILE_LINKS;
  version = file s.0 FILE_VERSION;
}
