-- Paper 02, R-9: a user cannot get rid of his own directory while it holds a non-empty one of another user that he may not write. `directory-stays`
-- of proofs/Directory.antt proves it; `rom-shown` and `child-same` there, the two facts at the end. foo and bar are slots, not paths.
use Rattle.std.specs.Prelude.{ℕ, ◌<◌, ◌≡◌, true, false, ◌≢◌, List, [], ◌∷◌, get_or}
use Rattle.rules.specs.Layout.{DIRENTS, PROMPTS, ROM, FILE_KIND, FILE_OWNER, FILE_GROUP, FILE_BITS, FILE_LENGTH, DIRECTORY, PROCESS_USER, PROCESS_GROUP}
use Rattle.rules.specs.Rights.{WRITE, rights_in, covers}
use Rattle.rules.specs.Store.{Store, Fixed, Tree, view, slot, pid_of, bits_at, subject_of, words, block}
use Rattle.rules.specs.Refusals.{GRANTED}
use Rattle.rules.specs.Directories.{dirent_at, dirent_slot, dirent}
use Rattle.rules.specs.Rom.{ROM_NAME, prompt_count, rom_record, length_in, rom_dirents, seen}
use Rattle.rules.specs.Calls.{Call}
use Rattle.rules.specs.Checks.{in_use}
use Rattle.rules.specs.Step.{step, Action, serve, final}
use Rattle.rules.specs.declared.ids.Pid.{Pid}
use Rattle.rules.specs.declared.rights.Rights.{Rights}
use Rattle.ownership.specs.History.{FORK, as_call}

-- ---- what is looked at

-- a word of the record of slot f
abbrev pub word : Store → ℕ → ℕ → ℕ
word s f column = (view s).tree.file f column

abbrev pub user_of : Store → Pid → ℕ
user_of s p = (view s).proc p.0 PROCESS_USER

abbrev pub group_of : Store → Pid → ℕ
group_of s p = (view s).proc p.0 PROCESS_GROUP

-- the slot that entry i of directory d names
abbrev pub slot_at : Store → (d i : ℕ) → ℕ
slot_at s d i = dirent_slot ((view s).tree.shown d) i

-- the rights that the bits of slot f give process p: the owner's, the group's or the others', by its user and group
abbrev pub rights_on : Store → ℕ → Pid → Rights
rights_on s f p = rights_in (subject_of (view s).proc p) (word s f FILE_OWNER) (word s f FILE_GROUP) (bits_at (word s f FILE_BITS))

-- ---- the directory stays

-- "let foo belong to user A, not 0, and hold bar, a non-empty directory of another user; A's processes have no write right on bar by its bits, in any
-- group they hold". An entry with slot 0 is empty, so bar is not the root. Whose foo is, labels and the store's soundness are not asked
pub record Situation (A foo bar i : ℕ) (s : Store) : Type 0 where
  pub user : A ≢ 0
  pub foo-directory : word s foo FILE_KIND ≡ DIRECTORY
  pub entry : i < DIRENTS
  pub holds : slot_at s foo i ≡ bar
  pub not_root : bar ≢ 0
  pub bar-directory : word s bar FILE_KIND ≡ DIRECTORY
  pub not-empty : word s bar FILE_LENGTH ≢ 0
  pub another : word s bar FILE_OWNER ≢ A
  pub no_write : (p : Pid) → in_use (view s).proc p ≡ true → user_of s p ≡ A → covers (rights_on s bar p) WRITE ≡ false

-- "Whatever calls A's processes and their children make, with no other process calling": each is by a process that is then user A's
unfoldable pub ActionsOf : Fixed → ℕ → Store → List Action → Type 0
ActionsOf K A s [] = Unit {0}
ActionsOf K A s (a ∷ xs) = (user_of s (as_call a).process ≡ A) × ActionsOf K A (serve K s a).store xs

-- "foo still names bar, under some name" (paper 02, R-10), and bar's names are unchanged: foo is a directory with the owner that it had, its entry i names
-- bar, and neither a word of bar's record nor one of its 512 bytes has changed
pub record Stays (foo bar i : ℕ) (s t : Store) : Type 0 where
  pub foo-stays : word t foo FILE_KIND ≡ DIRECTORY
  pub foo-owner : word t foo FILE_OWNER ≡ word s foo FILE_OWNER
  pub still-holds : slot_at t foo i ≡ bar
  pub bar-record : (column : ℕ) → word t bar column ≡ word s bar column
  pub bar-names : block t.contents bar ≡ block s.contents bar

-- for every list, so after each call and borrowing read of it
abbrev pub DirectoryStays : Type 0
DirectoryStays = (K : Fixed) (A foo bar i : ℕ) (s : Store) → Situation A foo bar i s → (xs : List Action) → ActionsOf K A s xs → Stays foo bar i s (final K s xs)

-- ---- /rom, where foo is the root: no stored entry names it

abbrev pub seen_in : Fixed → Store → Tree
seen_in K s = (seen K.rom (view s)).tree

-- its entry in the root (the seventeenth), its record, the number of its names and the names: each is the factory part's alone, which no call changes
pub record RomShown (K : Fixed) (s : Store) : Type 0 where
  pub entry : dirent_at ((seen_in K s).dirents 0) DIRENTS ≡ dirent ROM_NAME (slot ROM)
  pub fields : (column : ℕ) → (seen_in K s).file ROM column ≡ get_or (words (rom_record DIRECTORY 365)) column 0
  pub count : length_in K.rom (seen_in K s).file (slot ROM) ≡ prompt_count PROMPTS K.rom
  pub names : (seen_in K s).dirents ROM ≡ rom_dirents K.rom

abbrev pub RomStays : Type 0
RomStays = (K : Fixed) (s : Store) → RomShown K s

-- ---- "and their children": the child of a granted fork is in use, with its parent's user and group

pub record ChildSame (s t : Store) (p q : Pid) : Type 0 where
  pub used : in_use (view t).proc q ≡ true
  pub same-user : user_of t q ≡ user_of s p
  pub same-group : group_of t q ≡ group_of s p

abbrev pub ChildrenSame : Type 0
ChildrenSame = (K : Fixed) (s : Store) (c : Call) → c.call ≡ FORK → (step K s c).reply.refusal ≡ GRANTED → ChildSame s (step K s c).store c.process (pid_of (step K s c).reply.value)
