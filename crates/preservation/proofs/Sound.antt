-- What the soundness test means: a record of statements about the tables as functions, one for each group of the paper's sentences. A group that
-- speaks of one row is a record over that row; a group that counts, or follows names, is over just the columns that it reads.
use mathlib.Core.Path.{◌≡◌}
use mathlib.Core.Bool.{Bool, true, not, cond, ◌&&◌}
use Prim.Native.Nat.{ℕ, zero, suc, ◌+◌, ◌*◌, ◌≤◌, ◌<◌}
use mathlib.Core.List.{List, [], ◌∷◌}
use lib.ListN.{length, get_or}
use lib.Dec.{eqb, ltb}
use Rattle.rules.specs.Choice.{every, some, implies}
use Rattle.rules.specs.Scan.{all, first}
use Rattle.rules.specs.Layout.{SLOTS, BLOCK, DIRENT_WIDTH, DIRENTS, OPEN_FILES, PROCESSES, DESCRIPTORS, NAME, NAMES, SLASH, POINT, FILE_GROUP, PROCESS_GROUP, GROUP_MAX}
use Rattle.rules.specs.Layout.{FILE_KIND, FILE_OWNER, FILE_BITS, FILE_LABEL, FILE_LENGTH, FILE_LINKS, FILE_VERSION, OPEN_SLOT, OPEN_MODE, OPEN_OFFSET, OPEN_REFERENCES, PROCESS_USED, PROCESS_USER, PROCESS_LABEL, FREE, PLAIN, DIRECTORY, LINK}
use Rattle.rules.specs.Layout.{KIND_MAX, USER_MAX, BITS_MAX, LABEL_MAX, MODE_MAX, WORD_MAX}
use Rattle.rules.specs.Rights.{MODE_READ}
use Rattle.rules.specs.Paths.{path_ok}
use Rattle.rules.specs.Rom.{ROM_NAME}
use Rattle.preservation.proofs.Sums.{count, count2}
use Rattle.preservation.proofs.Tables.{Tables, col, dirent_row}

abbrev pub All : ℕ → (ℕ → Type 0) → Type 0
All n P = (i : ℕ) → i < n → P i

-- ---- a file's record: fields in range; a free record is zero but for its version

pub record File (row : ℕ → ℕ) : Type 0 where
  pub kind-most : row FILE_KIND ≤ KIND_MAX
  pub owner-most : row FILE_OWNER ≤ USER_MAX
  pub group-most : row FILE_GROUP ≤ GROUP_MAX
  pub bits_most : row FILE_BITS ≤ BITS_MAX
  pub label-most : row FILE_LABEL ≤ LABEL_MAX
  pub version-most : row FILE_VERSION ≤ WORD_MAX
  pub owner-zero : row FILE_KIND ≡ FREE → row FILE_OWNER ≡ 0
  pub group-zero : row FILE_KIND ≡ FREE → row FILE_GROUP ≡ 0
  pub bits-zero : row FILE_KIND ≡ FREE → row FILE_BITS ≡ 0
  pub label-zero : row FILE_KIND ≡ FREE → row FILE_LABEL ≡ 0
  pub length-zero : row FILE_KIND ≡ FREE → row FILE_LENGTH ≡ 0
  pub links-zero : row FILE_KIND ≡ FREE → row FILE_LINKS ≡ 0

-- ---- lengths of plain files and links, and the zero bytes: past their length, of a free slot, and past a directory's entries

pub record Block (kind length : ℕ) (bytes : ℕ → ℕ) : Type 0 where
  pub length_most : (kind ≡ DIRECTORY → ⊥) → length ≤ BLOCK
  pub past-zero : (kind ≡ DIRECTORY → ⊥) → All BLOCK (λ b. length ≤ b → bytes b ≡ 0)
  pub tail-zero : kind ≡ DIRECTORY → All BLOCK (λ b. DIRENTS * DIRENT_WIDTH ≤ b → bytes b ≡ 0)

-- ---- a symbolic link: bits 0, and a text of so many bytes, which is a well formed path

pub record Symlink (bits size : ℕ) (bytes : ℕ → ℕ) : Type 0 where
  pub no_bits : bits ≡ 0
  pub text : List ℕ
  pub text-size : length text ≡ size
  pub text-bytes : All size (λ b. get_or text b 0 ≡ bytes b)
  pub text-ok : path_ok text ≡ true

-- ---- a directory's entries, as rows of DIRENT_WIDTH bytes

-- byte k of a name is no slash, and after a 0 comes 0
unfoldable pub valid_byte : (ℕ → ℕ) → ℕ → Bool
valid_byte r k = every (not (eqb (r k) SLASH) ∷ implies (eqb (r k) 0) (some (eqb (k + 1) NAME ∷ eqb (r (k + 1)) 0 ∷ [])) ∷ [])

unfoldable pub same_row : (ℕ → ℕ) → (ℕ → ℕ) → Bool
same_row r t = all (λ k. eqb (r k) (t k)) 0 NAME

-- 1 to NAME bytes other than 0 and slash, then 0; neither "." nor ".."
unfoldable pub valid_row : (ℕ → ℕ) → Bool
valid_row r =
    every (not (eqb (r 0) 0) ∷ all (valid_byte r) 0 NAME
    ∷ not (some (same_row r (λ k. get_or (POINT ∷ []) k 0) ∷ same_row r (λ k. get_or (POINT ∷ POINT ∷ []) k 0) ∷ [])) ∷ [])

-- an empty entry is all 0; any other has a valid name, a slot in use other than 0, and 0
pub record Dirent (kind : ℕ → ℕ) (r : ℕ → ℕ) : Type 0 where
  pub last-zero : r (NAME + 1) ≡ 0
  pub slot_small : r NAME < SLOTS
  pub empty-zero : r NAME ≡ 0 → All NAME (λ k. r k ≡ 0)
  pub slot-used : (r NAME ≡ 0 → ⊥) → kind (r NAME) ≡ FREE → ⊥
  pub valid : (r NAME ≡ 0 → ⊥) → valid_row r ≡ true

pub record Directory (kind : ℕ → ℕ) (rows : ℕ → ℕ → ℕ) : Type 0 where
  pub dirents : All DIRENTS (λ p. Dirent kind (rows p))
  pub different : All DIRENTS (λ p. All DIRENTS (λ q. (p ≡ q → ⊥) → (rows p NAME ≡ 0 → ⊥) → (rows q NAME ≡ 0 → ⊥) → same_row (rows p) (rows q) ≡ true → ⊥))

-- ---- counted: a directory's names, and the entries that name a slot

-- entry p of slot d is a directory's and names s
abbrev pub naming : (ℕ → ℕ) → (ℕ → ℕ → ℕ → ℕ) → ℕ → ℕ → ℕ → Bool
naming kind dirent_row s d p = eqb (kind d) DIRECTORY && eqb (dirent_row d p NAME) s

unfoldable pub link_count : (ℕ → ℕ) → (ℕ → ℕ → ℕ → ℕ) → ℕ → ℕ
link_count kind dirent_row s = count2 SLOTS DIRENTS (naming kind dirent_row s)

unfoldable pub name_count : (ℕ → ℕ → ℕ) → ℕ
name_count rows = count DIRENTS (λ p. not (eqb (rows p NAME) 0))

-- ---- the tree

-- the lowest directory that names d
unfoldable pub parent : (ℕ → ℕ) → (ℕ → ℕ → ℕ → ℕ) → ℕ → ℕ
parent kind dirent_row d = first (λ u. ltb 0 (count DIRENTS (naming kind dirent_row d u))) 0 SLOTS

-- how many names lead from the root to d; more than n where they are more than n, or none do
unfoldable pub depth_within : (ℕ → ℕ) → (ℕ → ℕ → ℕ → ℕ) → ℕ → ℕ → ℕ
depth_within kind dirent_row zero d = cond (eqb d 0) 0 1
depth_within kind dirent_row (suc n) d = cond (eqb d 0) 0 (suc (depth_within kind dirent_row n (parent kind dirent_row d)))

-- a depth for each slot: 0 for the root, one more than its parent's for each other directory
pub record Depths (kind : ℕ → ℕ) (dirent_row : ℕ → ℕ → ℕ → ℕ) : Type 0 where
  pub depth : ℕ → ℕ
  pub depth-root : depth 0 ≡ 0
  pub depth-step : All SLOTS (λ u. kind u ≡ DIRECTORY → All DIRENTS (λ p. (dirent_row u p NAME ≡ 0 → ⊥) → kind (dirent_row u p NAME) ≡ DIRECTORY → depth (dirent_row u p NAME) ≡ suc (depth u)))
  pub depth-most : All SLOTS (λ d. kind d ≡ DIRECTORY → depth d ≤ NAMES)

-- ---- open files: a free one is all zero; any other is on a plain file, or on a prompt in mode 1

pub record OpenFile (kind row : ℕ → ℕ) : Type 0 where
  pub slot-zero : row OPEN_REFERENCES ≡ 0 → row OPEN_SLOT ≡ 0
  pub mode-zero : row OPEN_REFERENCES ≡ 0 → row OPEN_MODE ≡ 0
  pub offset-zero : row OPEN_REFERENCES ≡ 0 → row OPEN_OFFSET ≡ 0
  pub plain : (row OPEN_REFERENCES ≡ 0 → ⊥) → row OPEN_SLOT < SLOTS → kind (row OPEN_SLOT) ≡ PLAIN
  pub reading : (row OPEN_REFERENCES ≡ 0 → ⊥) → (row OPEN_SLOT < SLOTS → ⊥) → row OPEN_MODE ≡ MODE_READ.0
  pub mode-least : (row OPEN_REFERENCES ≡ 0 → ⊥) → 0 < row OPEN_MODE
  pub mode-most : (row OPEN_REFERENCES ≡ 0 → ⊥) → row OPEN_MODE ≤ MODE_MAX
  pub offset-most : (row OPEN_REFERENCES ≡ 0 → ⊥) → row OPEN_OFFSET ≤ BLOCK

-- how many open files are on slot s
unfoldable pub open_count : (slot refs : ℕ → ℕ) → ℕ → ℕ
open_count slot refs s = count OPEN_FILES (λ e. eqb (slot e) s && ltb 0 (refs e))

-- how many descriptors hold open file e
unfoldable pub holder_count : (ℕ → ℕ → ℕ) → ℕ → ℕ
holder_count desc e = count2 PROCESSES DESCRIPTORS (λ p k. eqb (desc p k) (e + 1))

-- ---- processes: a free one is all zero

pub record Process (row desc : ℕ → ℕ) : Type 0 where
  pub active-most : row PROCESS_USED ≤ 1
  pub user-most : row PROCESS_USER ≤ USER_MAX
  pub group-most : row PROCESS_GROUP ≤ GROUP_MAX
  pub label-most : row PROCESS_LABEL ≤ LABEL_MAX
  pub desc-most : All DESCRIPTORS (λ k. desc k ≤ OPEN_FILES)
  pub user-zero : row PROCESS_USED ≡ 0 → row PROCESS_USER ≡ 0
  pub group-zero : row PROCESS_USED ≡ 0 → row PROCESS_GROUP ≡ 0
  pub label-zero : row PROCESS_USED ≡ 0 → row PROCESS_LABEL ≡ 0
  pub desc-zero : row PROCESS_USED ≡ 0 → All DESCRIPTORS (λ k. desc k ≡ 0)

-- ---- all of it: groups of sentences, each over the columns that it reads, so that a change of other columns hands it on as it is

-- each slot's record and bytes, and the root's
pub record Slots (file byte : ℕ → ℕ → ℕ) : Type 0 where
  pub files : All SLOTS (λ s. File (file s))
  pub root-kind : file 0 FILE_KIND ≡ DIRECTORY
  pub root-links : file 0 FILE_LINKS ≡ 0
  pub blocks : All SLOTS (λ s. Block (file s FILE_KIND) (file s FILE_LENGTH) (byte s))
  pub texts : All SLOTS (λ s. file s FILE_KIND ≡ LINK → Symlink (file s FILE_BITS) (file s FILE_LENGTH) (byte s))

-- the name that the root may not hold
abbrev pub rom_row : ℕ → ℕ
rom_row k = get_or ROM_NAME k 0

abbrev pub NoRom : (ℕ → ℕ → ℕ → ℕ) → Type 0
NoRom dirent_row = All DIRENTS (λ p. same_row (dirent_row 0 p) rom_row ≡ true → ⊥)

-- the directories, and the names in them
pub record Directories (kind length named : ℕ → ℕ) (dirent_row : ℕ → ℕ → ℕ → ℕ) : Type 0 where
  pub dirs : All SLOTS (λ d. kind d ≡ DIRECTORY → Directory kind (dirent_row d))
  pub lengths : All SLOTS (λ d. kind d ≡ DIRECTORY → length d ≡ name_count (dirent_row d))
  pub links : All SLOTS (λ s. (s ≡ 0 → ⊥) → named s ≡ link_count kind dirent_row s)
  pub depths : Depths kind dirent_row
  pub no-rom : NoRom dirent_row

-- a directory and a link have one name, and a plain file has one or is open, but for slot x, of which it is not said; opened s: how many open files are
-- on s
pub record Live (x : ℕ) (kind named opened : ℕ → ℕ) : Type 0 where
  pub once : All SLOTS (λ s. (s ≡ x → ⊥) → (kind s ≡ FREE → ⊥) → (kind s ≡ PLAIN → ⊥) → (s ≡ 0 → ⊥) → named s ≡ 1)
  pub alive : All SLOTS (λ s. (s ≡ x → ⊥) → kind s ≡ PLAIN → 0 < named s + opened s)

pub record OpenFiles (kind : ℕ → ℕ) (open_files desc : ℕ → ℕ → ℕ) : Type 0 where
  pub open-files : All OPEN_FILES (λ e. OpenFile kind (open_files e))
  pub refs : All OPEN_FILES (λ e. open_files e OPEN_REFERENCES ≡ holder_count desc e)

-- sound but for slot x: so a store stands between the parts of one call
pub record SoundBut (x : ℕ) (m : Tables) : Type 0 where
  pub slots : Slots m.file m.byte
  pub tree : Directories (col m.file FILE_KIND) (col m.file FILE_LENGTH) (col m.file FILE_LINKS) (dirent_row m.byte)
  pub live : Live x (col m.file FILE_KIND) (col m.file FILE_LINKS) (open_count (col m.open_files OPEN_SLOT) (col m.open_files OPEN_REFERENCES))
  pub opens : OpenFiles (col m.file FILE_KIND) m.open_files m.desc
  pub procs : All PROCESSES (λ p. Process (m.proc p) (m.desc p))

-- sound: there is no slot SLOTS
abbrev pub Sound : Tables → Type 0
Sound m = SoundBut SLOTS m
