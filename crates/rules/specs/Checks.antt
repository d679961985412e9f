-- Checks in the written order, and what every call that changes something is decided by: the lowest free ones, a directory that gains or
-- loses a name, a file that loses a name or an open file.
use Rattle.std.specs.Prelude.{ℕ, ◌-◌, Bool, true, false, cond, not, None, Ok, Err, [], ◌∷◌, eqb, ltb}
use Rattle.rules.specs.Choice.{every}
use Rattle.rules.specs.Decisions.{Walk, Decision, Refused, Granted, Share, Held}
use Rattle.rules.specs.Scan.{first}
use Rattle.rules.specs.Layout.{SLOTS, OPEN_FILES, PROCESSES, DESCRIPTORS, FILE_KIND, FILE_LENGTH, FILE_LINKS, FILE_VERSION, FREE, OPEN_SLOT, OPEN_REFERENCES, PROCESS_USED}
use Rattle.rules.specs.Store.{Table, slot, is_slot, pid_of, is_pid, fd_of, ofd_of, is_entry, bits_at, open_but, is_open, up}
use Rattle.rules.specs.declared.ids.Slot.{Slot}
use Rattle.rules.specs.declared.ids.Pid.{Pid}
use Rattle.rules.specs.declared.ids.Fd.{Fd}
use Rattle.rules.specs.declared.ids.Ofd.{Ofd}
use Rattle.rules.specs.declared.ids.Dirent.{Dirent}
use Rattle.rules.specs.declared.refusal.Refusal.{Refusal}
use Rattle.rules.specs.declared.decision.Location.{Location}
use Rattle.rules.specs.declared.decision.Record.{Record}
use Rattle.rules.specs.declared.decision.DirChange.{DirChange}
use Rattle.rules.specs.declared.decision.Unnamed.{Unnamed}
use Rattle.rules.specs.declared.decision.Unnamed.TheVariants as unnamed
use Rattle.rules.specs.declared.decision.Release.{Release}
use Rattle.rules.specs.declared.decision.Release.TheVariants as release
use Rattle.rules.specs.declared.decision.Output.TheVariants as output
use Rattle.rules.specs.declared.decision.Effect.{Effect}

-- a check: what follows, or the refusal. "every other answer says 0" for the name's number
unfoldable pub need : Bool → Refusal → Decision → Decision
need true r d = d
need false r d = Refused r 0

-- granted, with a value and nothing more to say
abbrev pub granted : ℕ → Effect → Decision
granted n e = Granted n output.Nothing e

-- what follows a walk, or the walk's refusal with its number
unfoldable pub after : Walk → (Location → Decision) → Decision
after (Ok at) f = f at
after (Err stop) f = Err stop

-- "a process number over 7 is 2"
unfoldable pub in_use : Table → Pid → Bool
in_use proc p = every (is_pid p ∷ eqb (proc p.0 PROCESS_USED) 1 ∷ [])

-- "descriptor not held"; a descriptor over 7 holds nothing
unfoldable pub held : Table → Pid → Fd → Bool
held desc p i = not (eqb (desc p.0 i.0) 0)

-- the open file that a descriptor holds
abbrev pub ofd_held : Table → Pid → Fd → Ofd
ofd_held desc p i = ofd_of (desc p.0 i.0 - 1)

-- the entry of a new name is past the entries of its parent: the name is missing
abbrev pub is_absent : Location → Bool
is_absent at = not (is_entry at.dirent)

-- ---- "always the lowest free"; the number past the last where none is

unfoldable pub slot_free : Table → ℕ → Bool
slot_free file s = eqb (file s FILE_KIND) FREE

abbrev pub free_slot : Table → Slot
free_slot file = slot (first (slot_free file) 0 SLOTS)

unfoldable pub ofd_free : Table → ℕ → Bool
ofd_free open_files e = eqb (open_files e OPEN_REFERENCES) 0

abbrev pub free_ofd : Table → Ofd
free_ofd open_files = ofd_of (first (ofd_free open_files) 0 OPEN_FILES)

unfoldable pub fd_free : Table → Pid → ℕ → Bool
fd_free desc p i = eqb (desc p.0 i) 0

abbrev pub free_fd : Table → Pid → Fd
free_fd desc p = fd_of (first (fd_free desc p) 0 DESCRIPTORS)

unfoldable pub pid_free : Table → ℕ → Bool
pid_free proc p = eqb (proc p PROCESS_USED) 0

abbrev pub free_pid : Table → Pid
free_pid proc = pid_of (first (pid_free proc) 0 PROCESSES)

-- ---- a directory gains or loses a name, or one of its names changes: its length, and its version goes up by one

abbrev pub gains : Table → Slot → Dirent → DirChange
gains file d i = record { dir = d; dirent = i; length = up (file d.0 FILE_LENGTH); version = up (file d.0 FILE_VERSION) }

abbrev pub loses : Table → Slot → Dirent → DirChange
loses file d i = record { dir = d; dirent = i; length = file d.0 FILE_LENGTH - 1; version = up (file d.0 FILE_VERSION) }

abbrev pub renames : Table → Slot → Dirent → DirChange
renames file d i = record { dir = d; dirent = i; length = file d.0 FILE_LENGTH; version = up (file d.0 FILE_VERSION) }

-- ---- "A plain file with no name and no open entry is freed at once, and so is a removed directory"

-- the record of a freed slot: its version goes up by one
abbrev pub freed : Table → Slot → Record
freed file s = record { kind = FREE; owner = 0; group = 0; bits = bits_at 0; label = 0; length = 0; links = 0; version = up (file s.0 FILE_VERSION) }

-- the plain file in slot s loses a name
unfoldable pub unnaming : (file open_files : Table) → Slot → Unnamed
unnaming file open_files s =
    cond (every (eqb (file s.0 FILE_LINKS - 1) 0 ∷ not (is_open open_files s) ∷ [])) (unnamed.Freed s (freed file s))
    (unnamed.Kept s (file s.0 FILE_LINKS - 1))

-- open file e on slot s goes: the file goes with it if it is of the store and has no name and no other open file
unfoldable pub closing : (file open_files : Table) → Ofd → Slot → Release
closing file open_files e s =
    cond (every (is_slot s ∷ eqb (file s.0 FILE_LINKS) 0 ∷ not (open_but open_files e s) ∷ [])) (release.Freed e s (freed file s))
    (release.Gone e)

-- open file e loses a reference
unfoldable pub dropping : (file open_files : Table) → Ofd → Release
dropping file open_files e = cond (ltb 1 (open_files e.0 OPEN_REFERENCES)) (release.Kept e (open_files e.0 OPEN_REFERENCES - 1)) (closing file open_files e (slot (open_files e.0 OPEN_SLOT)))

-- a descriptor is emptied
unfoldable pub releasing : (file open_files desc : Table) → Pid → Fd → Release
releasing file open_files desc p i = cond (held desc p i) (dropping file open_files (ofd_held desc p i)) release.Nothing

-- ---- a child shares its parent's open file

abbrev pub sharing : Table → Ofd → Share
sharing open_files e = Held e (up (open_files e.0 OPEN_REFERENCES))

unfoldable pub share_of : (open_files desc : Table) → Pid → Fd → Share
share_of open_files desc p i = cond (held desc p i) (sharing open_files (ofd_held desc p i)) None
