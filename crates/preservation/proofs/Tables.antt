-- The store as tables: five functions of a row and a column. All of `Sound` is said of these, so no proof about it sees a list or an index.
use mathlib.Core.Bool.{cond}
use mathlib.Core.List.{List, [], ◌∷◌}
use Prim.Native.Nat.{ℕ, ◌+◌, ◌-◌, ◌*◌, ◌/◌, ◌%◌}
use lib.Dec.{eqb, ltb}
use lib.ListN.{length, get_or}
use Rattle.rules.specs.Layout.{DIRENT_WIDTH, FILE_KIND, FILE_OWNER, FILE_BITS, FILE_LABEL, FILE_LENGTH, FILE_LINKS, FILE_VERSION, FILE_GROUP}
use Rattle.preservation.proofs.Tests.{upd, upd2, upd_row}

-- As in the view: the files' records, the open files, the processes' own words and their descriptors, each by row and named column. `byte` is
-- every byte of a slot, a plain file's own included.
pub record Tables : Type 0 where
  pub file : ℕ → ℕ → ℕ
  pub byte : ℕ → ℕ → ℕ
  pub open_files : ℕ → ℕ → ℕ
  pub proc : ℕ → ℕ → ℕ
  pub desc : ℕ → ℕ → ℕ

-- a column of a table
abbrev pub col : (ℕ → ℕ → ℕ) → ℕ → ℕ → ℕ
col f c i = f i c

-- the columns of a file's record, and the row that has these and no other
abbrev pub file_words : (ℕ → ℕ) → List ℕ
file_words row = row FILE_KIND ∷ row FILE_OWNER ∷ row FILE_GROUP ∷ row FILE_BITS ∷ row FILE_LABEL ∷ row FILE_LENGTH ∷ row FILE_LINKS ∷ row FILE_VERSION ∷ []

abbrev pub file_row : (ℕ → ℕ) → ℕ → ℕ
file_row row c = get_or (file_words row) c 0

-- the directory entries of a block of bytes: entry p, byte k; 0 for k from DIRENT_WIDTH on, so that two entries never share a byte
abbrev pub rows_of : (ℕ → ℕ) → ℕ → ℕ → ℕ
rows_of bytes p k = cond (ltb k DIRENT_WIDTH) (bytes (DIRENT_WIDTH * p + k)) 0

-- byte k of entry p of directory d
abbrev pub dirent_row : (ℕ → ℕ → ℕ) → ℕ → ℕ → ℕ → ℕ
dirent_row byte d = rows_of (byte d)

-- the block with entry p holding the bytes of r
abbrev pub fill : (ℕ → ℕ) → ℕ → (ℕ → ℕ) → ℕ → ℕ
fill bytes p r b = cond (eqb (b / DIRENT_WIDTH) p) (r (b % DIRENT_WIDTH)) (bytes b)

-- the row with vs from word a on
abbrev pub over_row : (ℕ → ℕ) → ℕ → List ℕ → ℕ → ℕ
over_row row a vs k = cond (ltb k a) (row k) (cond (ltb k (a + length vs)) (get_or vs (k - a) 0) (row k))

-- ---- primitive changes

abbrev pub file_to : ℕ → ℕ → ℕ → Tables → Tables
file_to s c v m = record { file = upd2 m.file s c v; byte = m.byte; open_files = m.open_files; proc = m.proc; desc = m.desc }

abbrev pub bytes_to : ℕ → (ℕ → ℕ) → Tables → Tables
bytes_to s g m = record { file = m.file; byte = upd m.byte s g; open_files = m.open_files; proc = m.proc; desc = m.desc }

abbrev pub open_to : ℕ → ℕ → ℕ → Tables → Tables
open_to e c v m = record { file = m.file; byte = m.byte; open_files = upd2 m.open_files e c v; proc = m.proc; desc = m.desc }

abbrev pub proc_to : ℕ → ℕ → ℕ → Tables → Tables
proc_to p c v m = record { file = m.file; byte = m.byte; open_files = m.open_files; proc = upd_row m.proc p c v; desc = m.desc }

abbrev pub desc_to : ℕ → ℕ → ℕ → Tables → Tables
desc_to p k v m = record { file = m.file; byte = m.byte; open_files = m.open_files; proc = m.proc; desc = upd_row m.desc p k v }

abbrev pub file_row_to : ℕ → (ℕ → ℕ) → Tables → Tables
file_row_to s row m = record { file = upd m.file s row; byte = m.byte; open_files = m.open_files; proc = m.proc; desc = m.desc }

abbrev pub open_row_to : ℕ → (ℕ → ℕ) → Tables → Tables
open_row_to e row m = record { file = m.file; byte = m.byte; open_files = upd m.open_files e row; proc = m.proc; desc = m.desc }

abbrev pub proc_row_to : ℕ → (ℕ → ℕ) → Tables → Tables
proc_row_to p row m = record { file = m.file; byte = m.byte; open_files = m.open_files; proc = upd m.proc p row; desc = m.desc }
