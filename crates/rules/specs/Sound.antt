-- "Sound means": one test for each sentence, over the tables of the view that it looks at. Sizes, the policy, the files, the tree, the open files, the processes.
use Rattle.std.specs.Prelude.{ℕ, zero, suc, ◌+◌, ◌*◌, Bool, true, false, cond, not, List, [], ◌∷◌, eqb, ltb, leb, length, get_or, drop}
use Rattle.rules.specs.Choice.{every, some, implies}
use Rattle.rules.specs.Scan.{all, any, count, total, first}
use Rattle.rules.specs.Layout.{SLOTS, BLOCK, DIRENT_WIDTH, DIRENTS, PROMPTS, NAME, NAMES, OPEN_FILES, PROCESSES, DESCRIPTORS, FILE_WIDTH, OPEN_FILE_WIDTH, PROCESS_WIDTH, RIGHTS_SIZE, NO_TRANSITION, SLASH}
use Rattle.rules.specs.Layout.{FILE_KIND, FILE_OWNER, FILE_GROUP, FILE_BITS, FILE_LABEL, FILE_LENGTH, FILE_LINKS, FILE_VERSION, FREE, OPEN_SLOT, OPEN_MODE, OPEN_OFFSET, OPEN_REFERENCES, PROCESS_USED, PROCESS_USER, PROCESS_GROUP, PROCESS_LABEL}
use Rattle.rules.specs.Layout.{KIND_MAX, USER_MAX, GROUP_MAX, LABEL_MAX, WORD_MAX}
use Rattle.rules.specs.Store.{Store, Fixed, Table, Tree, View, view, slot, is_slot, is_open}
use Rattle.rules.specs.Rights.{MODE_READ, rights_known, bits_known, mode_of, mode_kept}
use Rattle.rules.specs.Paths.{Name, is_dots, same_name, path_ok}
use Rattle.rules.specs.Directories.{dirent_at, dirent_slot, is_empty, is_padding, has_name}
use Rattle.rules.specs.Rom.{ROM_NAME, rom_sound, prompt_count}
use Rattle.rules.specs.Walk.{is_directory, is_plain, is_link, link_text}

-- ---- sizes: "Lent tables of another size are 1"

-- a record and a block for each slot
unfoldable pub slots_sized : Store → Bool
slots_sized s = every (eqb (length s.files) (SLOTS * FILE_WIDTH) ∷ eqb (length s.contents) (SLOTS * BLOCK) ∷ [])

unfoldable pub sizes_sound : Store → Bool
sizes_sound s = every (slots_sized s ∷ eqb (length s.open_files) (OPEN_FILES * OPEN_FILE_WIDTH) ∷ eqb (length s.processes) (PROCESSES * PROCESS_WIDTH) ∷ [])

-- ---- the policy: rights 0 to 7; transitions to a label, or 255

unfoldable pub right_sound : List ℕ → ℕ → Bool
right_sound Q i = rights_known (get_or Q i 0)

unfoldable pub transition_sound : List ℕ → ℕ → Bool
transition_sound Q i = some (leb (get_or Q i 0) LABEL_MAX ∷ eqb (get_or Q i 0) NO_TRANSITION ∷ [])

unfoldable pub policy_sound : List ℕ → Bool
policy_sound Q = every (eqb (length Q) (RIGHTS_SIZE + RIGHTS_SIZE) ∷ all (right_sound Q) 0 RIGHTS_SIZE ∷ all (transition_sound Q) RIGHTS_SIZE (RIGHTS_SIZE + RIGHTS_SIZE) ∷ [])

-- ---- a file's record: "all fields in range"; "A free record is zero but for its stamp"

-- whose it is: owner and group
unfoldable pub owners_free : Table → ℕ → Bool
owners_free file s = every (eqb (file s FILE_OWNER) 0 ∷ eqb (file s FILE_GROUP) 0 ∷ [])

-- what says who may do what: owner and group, bits, label
unfoldable pub access_free : Table → ℕ → Bool
access_free file s = every (owners_free file s ∷ eqb (file s FILE_BITS) 0 ∷ eqb (file s FILE_LABEL) 0 ∷ [])

unfoldable pub record_free : Table → ℕ → Bool
record_free file s = every (access_free file s ∷ eqb (file s FILE_LENGTH) 0 ∷ eqb (file s FILE_LINKS) 0 ∷ [])

unfoldable pub owners_sound : Table → ℕ → Bool
owners_sound file s = every (leb (file s FILE_OWNER) USER_MAX ∷ leb (file s FILE_GROUP) GROUP_MAX ∷ [])

unfoldable pub access_sound : Table → ℕ → Bool
access_sound file s = every (owners_sound file s ∷ bits_known (file s FILE_BITS) ∷ leb (file s FILE_LABEL) LABEL_MAX ∷ [])

unfoldable pub fields_sound : Table → ℕ → Bool
fields_sound file s = every (leb (file s FILE_KIND) KIND_MAX ∷ access_sound file s ∷ leb (file s FILE_VERSION) WORD_MAX ∷ [])

unfoldable pub record_sound : Table → ℕ → Bool
record_sound file s = every (fields_sound file s ∷ implies (eqb (file s FILE_KIND) FREE) (record_free file s) ∷ [])

-- ---- a directory's entries

-- all bytes are 0
unfoldable pub all_zero : List ℕ → Bool
all_zero [] = true
all_zero (b ∷ bs) = cond (eqb b 0) (all_zero bs) false

-- byte k of a name is no slash, and after a 0 comes 0
unfoldable pub name_byte_sound : Name → ℕ → Bool
name_byte_sound n k = every (not (eqb (get_or n k 0) SLASH) ∷ implies (is_padding n k) (some (eqb (k + 1) NAME ∷ is_padding n (k + 1) ∷ [])) ∷ [])

-- "names valid"
unfoldable pub name_sound : Name → Bool
name_sound n = every (not (is_padding n 0) ∷ all (name_byte_sound n) 0 NAME ∷ not (is_dots n) ∷ [])

-- "each place naming a slot in use other than 0"
unfoldable pub used_sound : Table → Name → (target : ℕ) → Bool
used_sound file n target = every (name_sound n ∷ ltb target SLOTS ∷ not (eqb (file target FILE_KIND) FREE) ∷ [])

-- "An empty place is all 0"; any other has a name, a slot, then 0
unfoldable pub dirent_sound : Table → List ℕ → ℕ → Bool
dirent_sound file D i =
    every (eqb (get_or (dirent_at D i) (NAME + 1) 0) 0
    ∷ cond (is_empty D i) (all (is_padding (dirent_at D i)) 0 NAME) (used_sound file (dirent_at D i) (dirent_slot D i)) ∷ [])

-- entries i and j do not have the same name
unfoldable pub differs : List ℕ → ℕ → ℕ → Bool
differs D i j = some (is_empty D i ∷ is_empty D j ∷ not (same_name (dirent_at D i) (dirent_at D j)) ∷ [])

-- "names .. different within a directory": each from those before it
unfoldable pub is_new : List ℕ → ℕ → Bool
is_new D i = all (differs D i) 0 i

unfoldable pub is_used : List ℕ → ℕ → Bool
is_used D i = not (is_empty D i)

-- each entry, and its name among those before it
unfoldable pub entries_sound : Table → List ℕ → Bool
entries_sound file D = every (all (dirent_sound file D) 0 DIRENTS ∷ all (is_new D) 0 DIRENTS ∷ [])

-- "a directory's [length] equal to its number of names"; "the last 256 bytes of the slot are 0"
unfoldable pub dirents_sound : Table → List ℕ → (length : ℕ) → Bool
dirents_sound file D n = every (entries_sound file D ∷ eqb n (count (is_used D) 0 DIRENTS) ∷ all_zero (drop (DIRENTS * DIRENT_WIDTH) D) ∷ [])

-- ---- the tree

-- entry i names slot s
unfoldable pub links_at : List ℕ → ℕ → ℕ → Bool
links_at D s i = eqb (dirent_slot D i) s

-- how many entries of directory d name slot s; none where d is no directory
unfoldable pub links_from : Tree → ℕ → ℕ → ℕ
links_from t s d = cond (is_directory t.file (slot d)) (count (links_at (t.shown d) s) 0 DIRENTS) 0

unfoldable pub links_to : Tree → ℕ → ℕ
links_to t s = total (links_from t s) 0 SLOTS

-- "names equal to the places counted"; "root a directory with no name"
unfoldable pub links_sound : Tree → ℕ → Bool
links_sound t s = cond (eqb s 0) (eqb (t.file s FILE_LINKS) 0) (eqb (t.file s FILE_LINKS) (links_to t s))

unfoldable pub is_parent : Tree → ℕ → ℕ → Bool
is_parent t d u = every (is_directory t.file (slot u) ∷ any (links_at (t.shown u) d) 0 DIRENTS ∷ [])

-- the lowest directory that names d, SLOTS where none does
abbrev pub parent_of : Tree → ℕ → ℕ
parent_of t d = first (is_parent t d) 0 SLOTS

-- the root is reached from d by at most n steps to the parent
unfoldable pub climbs : Tree → ℕ → ℕ → Bool
climbs t zero d = eqb d 0
climbs t (suc n) d = cond (eqb d 0) true (climbs t n (parent_of t d))

-- "every other directory named exactly once and at most 8 names deep; every directory reached from the root"
unfoldable pub directory_sound : Tree → ℕ → Bool
directory_sound t d =
    every (dirents_sound t.file (t.shown d) (t.file d FILE_LENGTH) ∷ some (eqb d 0 ∷ eqb (t.file d FILE_LINKS) 1 ∷ []) ∷ climbs t NAMES d ∷ [])

-- ---- open files

-- "a plain file's length at most 512"; "each plain file named or open"; "A plain file's bytes past its length are 0"
unfoldable pub plain_sound : Tree → (open_files : Table) → ℕ → Bool
plain_sound t open_files s =
    every (leb (t.file s FILE_LENGTH) BLOCK ∷ some (ltb 0 (t.file s FILE_LINKS) ∷ is_open open_files (slot s) ∷ []) ∷ all_zero (t.shown s) ∷ [])

-- ---- symbolic links: "named once, bits 0, a valid path as text, of the record's length, then 0"

-- its text, and nothing after it
unfoldable pub text_sound : Tree → ℕ → Bool
text_sound t s = every (path_ok (link_text t (slot s)) ∷ all_zero (drop (t.file s FILE_LENGTH) (t.shown s)) ∷ [])

unfoldable pub link_sound : Tree → ℕ → Bool
link_sound t s = every (eqb (t.file s FILE_LINKS) 1 ∷ eqb (t.file s FILE_BITS) 0 ∷ text_sound t s ∷ [])

-- ---- every slot

-- what is owed by kind; a free slot's bytes are 0
unfoldable pub kind_sound : Tree → (open_files : Table) → ℕ → Bool
kind_sound t open_files s =
    cond (is_directory t.file (slot s)) (directory_sound t s)
    (cond (is_plain t.file (slot s)) (plain_sound t open_files s)
    (cond (is_link t.file (slot s)) (link_sound t s) (all_zero (t.shown s))))

unfoldable pub slot_sound : Tree → (open_files : Table) → ℕ → Bool
slot_sound t open_files s = every (record_sound t.file s ∷ links_sound t s ∷ kind_sound t open_files s ∷ [])

-- descriptor i of process p holds open file e
unfoldable pub holds_at : Table → ℕ → ℕ → ℕ → Bool
holds_at desc e p i = eqb (desc p i) (e + 1)

unfoldable pub holders_in : Table → ℕ → ℕ → ℕ
holders_in desc e p = count (holds_at desc e p) 0 DESCRIPTORS

unfoldable pub holders : Table → ℕ → ℕ
holders desc e = total (holders_in desc e) 0 PROCESSES

-- a free open file is all zero
unfoldable pub open_free : Table → ℕ → Bool
open_free open_files e = every (eqb (open_files e OPEN_SLOT) 0 ∷ eqb (open_files e OPEN_MODE) 0 ∷ eqb (open_files e OPEN_OFFSET) 0 ∷ [])

-- "open entries only on plain files", or on prompts in mode 1
unfoldable pub on_plain_file : (file open_files : Table) → ℕ → Bool
on_plain_file file open_files e = cond (is_slot (slot (open_files e OPEN_SLOT))) (is_plain file (slot (open_files e OPEN_SLOT))) (eqb (open_files e OPEN_MODE) MODE_READ.0)

-- and the mode and the position in range
unfoldable pub open_used : (file open_files : Table) → ℕ → Bool
open_used file open_files e = every (on_plain_file file open_files e ∷ mode_kept (mode_of (open_files e OPEN_MODE)) ∷ leb (open_files e OPEN_OFFSET) BLOCK ∷ [])

-- "references equal to the descriptors counted, at least 1"
unfoldable pub open_sound : (file open_files desc : Table) → ℕ → Bool
open_sound file open_files desc e =
    every (eqb (open_files e OPEN_REFERENCES) (holders desc e) ∷ cond (eqb (open_files e OPEN_REFERENCES) 0) (open_free open_files e) (open_used file open_files e) ∷ [])

-- not "past the last prompt"
unfoldable pub open_within : (R : List ℕ) (open_files : Table) → ℕ → Bool
open_within R open_files e = ltb (open_files e OPEN_SLOT) (SLOTS + prompt_count PROMPTS R)

unfoldable pub opens_within : (R : List ℕ) (open_files : Table) → Bool
opens_within R open_files = all (open_within R open_files) 0 OPEN_FILES

-- ---- processes

-- a descriptor names an open file or nothing
unfoldable pub desc_sound : Table → ℕ → ℕ → Bool
desc_sound desc p i = leb (desc p i) OPEN_FILES

unfoldable pub desc_free : Table → ℕ → ℕ → Bool
desc_free desc p i = eqb (desc p i) 0

-- who it is: user, group and label
unfoldable pub subject_free : Table → ℕ → Bool
subject_free proc p = every (eqb (proc p PROCESS_USER) 0 ∷ eqb (proc p PROCESS_GROUP) 0 ∷ eqb (proc p PROCESS_LABEL) 0 ∷ [])

unfoldable pub proc_free : (proc desc : Table) → ℕ → Bool
proc_free proc desc p = every (subject_free proc p ∷ all (desc_free desc p) 0 DESCRIPTORS ∷ [])

unfoldable pub subject_sound : Table → ℕ → Bool
subject_sound proc p = every (leb (proc p PROCESS_USER) USER_MAX ∷ leb (proc p PROCESS_GROUP) GROUP_MAX ∷ leb (proc p PROCESS_LABEL) LABEL_MAX ∷ [])

unfoldable pub proc_used : (proc desc : Table) → ℕ → Bool
proc_used proc desc p = every (eqb (proc p PROCESS_USED) 1 ∷ subject_sound proc p ∷ all (desc_sound desc p) 0 DESCRIPTORS ∷ [])

unfoldable pub proc_sound : (proc desc : Table) → ℕ → Bool
proc_sound proc desc p = cond (eqb (proc p PROCESS_USED) 0) (proc_free proc desc p) (proc_used proc desc p)

-- ---- all of it

-- ""rom" in the root is reserved: .. a store that holds it is unsound": D is the root
unfoldable pub is_not_rom : List ℕ → ℕ → Bool
is_not_rom D i = not (has_name D ROM_NAME i)

unfoldable pub rom_absent : List ℕ → Bool
rom_absent D = all (is_not_rom D) 0 DIRENTS

-- the root is a directory without that name, and every slot is sound
unfoldable pub tree_sound : Tree → (open_files : Table) → Bool
tree_sound t open_files = every (is_directory t.file (slot 0) ∷ rom_absent (t.shown 0) ∷ all (slot_sound t open_files) 0 SLOTS ∷ [])

unfoldable pub tables_sound : View → Bool
tables_sound v =
    every (tree_sound v.tree v.open_files
    ∷ all (open_sound v.tree.file v.open_files v.desc) 0 OPEN_FILES ∷ all (proc_sound v.proc v.desc) 0 PROCESSES ∷ [])

unfoldable pub store_sound : (R : List ℕ) → Store → Bool
store_sound R s = cond (sizes_sound s) (every (tables_sound (view s) ∷ opens_within R (view s).open_files ∷ [])) false

unfoldable pub sound : Fixed → Store → Bool
sound K s = every (policy_sound K.policy ∷ rom_sound K.rom ∷ store_sound K.rom s ∷ [])
