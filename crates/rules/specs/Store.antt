-- The store as lent, four flat lists; what the rules may look at, the view; and the changes that a call makes.
use Rattle.std.specs.Prelude.{ℕ, suc, ◌+◌, ◌*◌, ◌%◌, ◌^◌, Bool, cond, not, List, [], ◌∷◌, eqb, ltb, get_or, take, drop, set, replicate}
use Rattle.std.proofs.lemmas.List.Edits.{sets}
use Rattle.rules.specs.Choice.{every}
use Rattle.rules.specs.Scan.{any}
use Rattle.rules.specs.Layout.{OPEN_SLOT, OPEN_REFERENCES, SLOTS, OPEN_FILES, PROCESSES, DIRENTS, ENTRIES, BLOCK, FILE_WIDTH, FILE_KIND, FILE_LENGTH, PLAIN, OPEN_FILE_WIDTH, PROCESS_WIDTH, PROCESS_DESCRIPTOR, PROCESS_USER, PROCESS_GROUP, PROCESS_LABEL, DESCRIPTORS}
use Rattle.rules.specs.declared.decision.Record.{Record}
use Rattle.rules.specs.declared.ids.Slot.{Slot}
use Rattle.rules.specs.declared.ids.Pid.{Pid}
use Rattle.rules.specs.declared.ids.Fd.{Fd}
use Rattle.rules.specs.declared.ids.Ofd.{Ofd}
use Rattle.rules.specs.declared.ids.Dirent.{Dirent}
use Rattle.rules.specs.declared.rights.Bits.{Bits}
use Rattle.rules.specs.declared.rights.OpenMode.{OpenMode}
use Rattle.rules.specs.declared.request.Subject.{Subject}

-- What no call changes, and so stands beside the store: the policy, and the factory part.
pub record Fixed : Type 0 where
  pub policy : List ℕ
  pub rom : List ℕ

abbrev pub fixed : (Q R : List ℕ) → Fixed
fixed Q R = record { policy = Q; rom = R }

-- "Files", "Contents", "Open entries", "Processes".
pub record Store : Type 0 where
  pub files : List ℕ
  pub contents : List ℕ
  pub open_files : List ℕ
  pub processes : List ℕ

abbrev pub store : (F C E P : List ℕ) → Store
store F C E P = record { files = F; contents = C; open_files = E; processes = P }

-- numbers as what they number, and whether there is such a one

abbrev pub slot : ℕ → Slot
slot n = record { 0 = n }

-- a slot of the store: a file of the factory part has no slot
abbrev pub is_slot : Slot → Bool
is_slot s = ltb s.0 SLOTS

abbrev pub pid_of : ℕ → Pid
pid_of n = record { 0 = n }

abbrev pub is_pid : Pid → Bool
is_pid p = ltb p.0 PROCESSES

abbrev pub fd_of : ℕ → Fd
fd_of n = record { 0 = n }

abbrev pub is_fd : Fd → Bool
is_fd i = ltb i.0 DESCRIPTORS

abbrev pub ofd_of : ℕ → Ofd
ofd_of n = record { 0 = n }

abbrev pub is_ofd : Ofd → Bool
is_ofd e = ltb e.0 OPEN_FILES

abbrev pub entry : ℕ → Dirent
entry n = record { 0 = n }

abbrev pub is_dirent : Dirent → Bool
is_dirent i = ltb i.0 DIRENTS

-- or the one more that the root is seen with
abbrev pub is_entry : Dirent → Bool
is_entry i = ltb i.0 ENTRIES

-- bits and a mode as they stand in a table
abbrev pub bits_at : ℕ → Bits
bits_at n = record { 0 = n }

abbrev pub mode_at : ℕ → OpenMode
mode_at n = record { 0 = n }

-- ---- the view: the tables as functions of a row and a named column, and of each slot the bytes that are not a plain file's own

-- word k of record i
abbrev pub Table : Type 0
Table = ℕ → ℕ → ℕ

-- The files and directories: what the path rules look at. `dirents` are the entries that a directory is seen with: its bytes, and what the factory part
-- adds to them.
pub record Tree : Type 0 where
  pub file : Table
  pub shown : ℕ → List ℕ
  pub dirents : ℕ → List ℕ

-- Only the answer of a read looks at a plain file's bytes: every rule takes the view.
pub record View : Type 0 where
  pub tree : Tree
  pub open_files : Table
  pub proc : Table
  pub desc : Table

-- a table of records of w words: word k of record i; 0 past the record's or the table's end
abbrev pub tab : ℕ → List ℕ → Table
tab w xs i k = cond (ltb k w) (get_or xs (w * i + k) 0) 0

-- a process's own words
abbrev pub proc_of : List ℕ → Table
proc_of P p k = cond (ltb k PROCESS_DESCRIPTOR) (get_or P (PROCESS_WIDTH * p + k) 0) 0

-- what descriptor i of process p holds; nothing for i over 7
unfoldable pub desc_of : List ℕ → Table
desc_of P p i = cond (ltb i DESCRIPTORS) (get_or P (PROCESS_WIDTH * p + (PROCESS_DESCRIPTOR + i)) 0) 0

-- the bytes of slot s
abbrev pub block : List ℕ → ℕ → List ℕ
block C s = take BLOCK (drop (BLOCK * s) C)

-- how many bytes of slot s are a plain file's own
unfoldable pub hidden : List ℕ → ℕ → ℕ
hidden F s = cond (eqb (tab FILE_WIDTH F s FILE_KIND) PLAIN) (tab FILE_WIDTH F s FILE_LENGTH) 0

-- of a directory or a free slot all its bytes, of a plain file those past its length
unfoldable pub shown_of : List ℕ → List ℕ → ℕ → List ℕ
shown_of F C s = drop (hidden F s) (block C s)

abbrev pub tree : (F C : List ℕ) → Tree
tree F C = record { file = tab FILE_WIDTH F; shown = shown_of F C; dirents = shown_of F C }

abbrev pub view : Store → View
view s = record { tree = tree s.files s.contents; open_files = tab OPEN_FILE_WIDTH s.open_files; proc = proc_of s.processes; desc = desc_of s.processes }

-- ---- which files are open

-- open file e, another than x, is on slot s
unfoldable pub is_on : Table → Ofd → Slot → ℕ → Bool
is_on open_files x s e = every (not (eqb e x.0) ∷ not (eqb (open_files e OPEN_REFERENCES) 0) ∷ eqb (open_files e OPEN_SLOT) s.0 ∷ [])

-- slot s is open, but for open file x
unfoldable pub open_but : Table → Ofd → Slot → Bool
open_but open_files x s = any (is_on open_files x s) 0 OPEN_FILES

-- slot s is open: there is no open file 32
abbrev pub is_open : Table → Slot → Bool
is_open open_files s = open_but open_files (ofd_of OPEN_FILES) s

-- who asks: process p
abbrev pub subject_of : Table → Pid → Subject
subject_of proc p = record { user = proc p.0 PROCESS_USER; group = proc p.0 PROCESS_GROUP; label = proc p.0 PROCESS_LABEL }

-- a record by its words
abbrev pub words : Record → List ℕ
words r = r.kind ∷ r.owner ∷ r.group ∷ r.bits.0 ∷ r.label ∷ r.length ∷ r.links ∷ r.version ∷ []

-- ---- counters are words of 32 bits

-- one more: "a stamp of 4,294,967,295 is followed by 0"
unfoldable pub up : ℕ → ℕ
up n = (n + 1) % 2 ^ 32

unfoldable pub plus : ℕ → ℕ → ℕ
plus a b = (a + b) % 2 ^ 32

-- ---- changes

-- n bytes 0
abbrev pub zeros : ℕ → List ℕ
zeros n = replicate n 0

-- the words vs from column k of record i on, in a table of records of w words
abbrev pub puts : ℕ → List ℕ → ℕ → ℕ → List ℕ → List ℕ
puts w xs i k [] = xs
puts w xs i k (v ∷ vs) = puts w (set xs (w * i + k) v) i (suc k) vs

-- One change of the store. What a call does is a list of these.
pub data Change : Type 0 where
  file_word : ℕ → ℕ → ℕ → Change  -- slot, column, value
  file_to : ℕ → List ℕ → Change  -- a slot's record
  clear_to : ℕ → List ℕ → Change  -- a slot's record and all its bytes 0, at once: no store has the one without the other
  bytes_to : ℕ → ℕ → List ℕ → Change  -- slot, from, bytes
  open_word : ℕ → ℕ → ℕ → Change  -- open file, column, value
  open_to : ℕ → List ℕ → Change  -- an open file's record
  open_zero : ℕ → Change  -- an open file, all zero
  desc_to : ℕ → ℕ → ℕ → Change  -- process, descriptor, value
  proc_word : ℕ → ℕ → ℕ → Change  -- process, column, value
  proc_to : ℕ → List ℕ → Change  -- a process's own words
  proc_zero : ℕ → Change  -- a process, all zero

abbrev pub change : Change → Store → Store
change (file_word s k x) t = store (set t.files (FILE_WIDTH * s + k) x) t.contents t.open_files t.processes
change (file_to s ws) t = store (puts FILE_WIDTH t.files s 0 ws) t.contents t.open_files t.processes
change (clear_to s ws) t = store (puts FILE_WIDTH t.files s 0 ws) (sets t.contents (BLOCK * s + 0) (zeros BLOCK)) t.open_files t.processes
change (bytes_to s at bs) t = store t.files (sets t.contents (BLOCK * s + at) bs) t.open_files t.processes
change (open_word e k x) t = store t.files t.contents (set t.open_files (OPEN_FILE_WIDTH * e + k) x) t.processes
change (open_to e ws) t = store t.files t.contents (puts OPEN_FILE_WIDTH t.open_files e 0 ws) t.processes
change (open_zero e) t = store t.files t.contents (sets t.open_files (OPEN_FILE_WIDTH * e + 0) (zeros OPEN_FILE_WIDTH)) t.processes
change (desc_to p i x) t = store t.files t.contents t.open_files (set t.processes (PROCESS_WIDTH * p + (PROCESS_DESCRIPTOR + i)) x)
change (proc_word p k x) t = store t.files t.contents t.open_files (set t.processes (PROCESS_WIDTH * p + k) x)
change (proc_to p ws) t = store t.files t.contents t.open_files (puts PROCESS_WIDTH t.processes p 0 ws)
change (proc_zero p) t = store t.files t.contents t.open_files (sets t.processes (PROCESS_WIDTH * p + 0) (zeros PROCESS_WIDTH))

unfoldable pub apply_all : List Change → Store → Store
apply_all [] t = t
apply_all (c ∷ cs) t = apply_all cs (change c t)
