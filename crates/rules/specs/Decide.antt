-- The calls on descriptors and processes, 10 to 16; and the stages of every decision: process (2), form (3), then the call's own checks.
use Rattle.std.specs.Prelude.{ℕ, ◌+◌, ◌-◌, min, max, Bool, cond, List, eqb, leb, length}
use Rattle.rules.specs.Layout.{BLOCK, PLAIN, DIRECTORY, FILE_LENGTH, FILE_VERSION, OPEN_SLOT, OPEN_MODE, OPEN_OFFSET, OPEN_REFERENCES}
use Rattle.rules.specs.Store.{Fixed, Table, View, slot, is_pid, is_fd, mode_at, subject_of, up, plus}
use Rattle.rules.specs.Rom.{length_in}
use Rattle.rules.specs.Rights.{READ, WRITE, bits_of, reads, writes, appends}
use Rattle.rules.specs.Walk.{label_allows}
use Rattle.rules.specs.Calls.{Call, operation, well_formed}
use Rattle.rules.specs.Checks.{need, granted, in_use, held, ofd_held, free_fd, free_pid, releasing}
use Rattle.rules.specs.DecidePaths.{decide_open, decide_create, decide_unlink, decide_remove, decide_link, decide_list, decide_change_bits, decide_stat, decide_execute, decide_symlink, decide_read_link, decide_rename}
use Rattle.rules.specs.declared.ids.Slot.{Slot}
use Rattle.rules.specs.declared.ids.Pid.{Pid}
use Rattle.rules.specs.declared.ids.Fd.{Fd}
use Rattle.rules.specs.declared.ids.Ofd.{Ofd}
use Rattle.rules.specs.declared.rights.Rights.{Rights}
use Rattle.rules.specs.declared.request.Subject.{Subject}
use Rattle.rules.specs.declared.request.Operation.{Operation}
use Rattle.rules.specs.declared.request.Operation.TheVariants as op
use Rattle.rules.specs.declared.refusal.Refusal.TheVariants.{NoProcess, Malformed, NotHeld, WrongDirection, LabelForbids, TableFull, TooLong}
use Rattle.rules.specs.declared.decision.Placement.{Placement}
use Rattle.rules.specs.declared.decision.Output.TheVariants as output
use Rattle.rules.specs.declared.decision.Effect.TheVariants as effect
use Rattle.rules.specs.Decisions.{Decision, Refused, Granted}

-- ---- 10. Close (4)

abbrev pub closed : (file open_files desc : Table) → Pid → Fd → Decision
closed file open_files desc p i = granted 0 (effect.Closed i (releasing file open_files desc p i))

unfoldable pub decide_close : (file open_files desc : Table) → Pid → Fd → Decision
decide_close file open_files desc p i = need (held desc p i) NotHeld (closed file open_files desc p i)

-- ---- an open file is no right (paper 02, R-8): "calls 11, 12 and the borrowing read ask the caller's present label each time: 10, after 5 and before 14"

-- the label of who has the rights over the file of open file e. Bits are not asked again
abbrev pub label_allows_open : (file open_files : Table) → List ℕ → Subject → Ofd → Rights → Bool
label_allows_open file open_files Q who e want = label_allows file Q who (slot (open_files e.0 OPEN_SLOT)) want

-- ---- 11. Read (4, 5, 10): "as many bytes as it holds and the file has from the position; the position moves by that count"

-- what the file of open file e has from its offset on
abbrev pub remaining : List ℕ → (file open_files : Table) → Ofd → ℕ
remaining R file open_files e = length_in R file (slot (open_files e.0 OPEN_SLOT)) - open_files e.0 OPEN_OFFSET

abbrev pub fetching : Table → Ofd → ℕ → Decision
fetching open_files e n = Granted n (output.Bytes (slot (open_files e.0 OPEN_SLOT)) (open_files e.0 OPEN_OFFSET) n) (effect.Moved e (plus (open_files e.0 OPEN_OFFSET) n))

-- a read of size 0 asks the label too
unfoldable pub read_open : (Q R : List ℕ) → (file open_files : Table) → Subject → Ofd → (size : ℕ) → Decision
read_open Q R file open_files who e size =
    need (reads (mode_at (open_files e.0 OPEN_MODE))) WrongDirection
    (need (label_allows_open file open_files Q who e READ) LabelForbids
    (fetching open_files e (min size (remaining R file open_files e))))

unfoldable pub decide_read : (Q R : List ℕ) → (file open_files desc : Table) → Pid → Subject → Fd → (size : ℕ) → Decision
decide_read Q R file open_files desc p who i size = need (held desc p i) NotHeld (read_open Q R file open_files who (ofd_held desc p i) size)

-- ---- 12. Write (4, 5, 10, 14): "all or nothing, at the position, or at the length for append; a gap is filled with 0. Position moves to the end
-- of what was written; value is the count. Zero bytes change nothing"

unfoldable pub write_at : (file open_files : Table) → Ofd → ℕ
write_at file open_files e = cond (appends (mode_at (open_files e.0 OPEN_MODE))) (file (open_files e.0 OPEN_SLOT) FILE_LENGTH) (open_files e.0 OPEN_OFFSET)

abbrev pub placement : Table → Ofd → Slot → (at n : ℕ) → Placement
placement file e s at n = record {
  ofd = e;
  slot = s;
  end = file s.0 FILE_LENGTH;
  gap = at - file s.0 FILE_LENGTH;
  at = at;
  length = max (file s.0 FILE_LENGTH) (plus at n);
  version = up (file s.0 FILE_VERSION);
  offset = plus at n;
}

unfoldable pub write_file : (file open_files : Table) → Ofd → (at n : ℕ) → Decision
write_file file open_files e at n = need (leb (at + n) BLOCK) TooLong (granted n (effect.Stored (placement file e (slot (open_files e.0 OPEN_SLOT)) at n)))

unfoldable pub write_some : (file open_files : Table) → Ofd → (n : ℕ) → Decision
write_some file open_files e n = cond (eqb n 0) (granted 0 effect.Nothing) (write_file file open_files e (write_at file open_files e) n)

-- a write of no bytes asks the label too
unfoldable pub write_open : List ℕ → (file open_files : Table) → Subject → Ofd → (n : ℕ) → Decision
write_open Q file open_files who e n =
    need (writes (mode_at (open_files e.0 OPEN_MODE))) WrongDirection
    (need (label_allows_open file open_files Q who e WRITE) LabelForbids
    (write_some file open_files e n))

unfoldable pub decide_write : List ℕ → (file open_files desc : Table) → Pid → Subject → Fd → (n : ℕ) → Decision
decide_write Q file open_files desc p who i n = need (held desc p i) NotHeld (write_open Q file open_files who (ofd_held desc p i) n)

-- ---- 13. Seek (4): "position 0 to 512; value is the position"

abbrev pub sought : Table → Pid → Fd → ℕ → Decision
sought desc p i n = granted n (effect.Moved (ofd_held desc p i) n)

unfoldable pub decide_seek : Table → Pid → Fd → ℕ → Decision
decide_seek desc p i n = need (held desc p i) NotHeld (sought desc p i n)

-- ---- 14. Duplicate (4, 13): "a descriptor for the same entry"; the value is that descriptor

abbrev pub duplicated : Table → Ofd → Fd → Decision
duplicated open_files e i = granted i.0 (effect.Duplicated i e (up (open_files e.0 OPEN_REFERENCES)))

unfoldable pub duplicate_to : Table → Ofd → Fd → Decision
duplicate_to open_files e i = need (is_fd i) TableFull (duplicated open_files e i)

unfoldable pub decide_duplicate : (open_files desc : Table) → Pid → Fd → Decision
decide_duplicate open_files desc p i = need (held desc p i) NotHeld (duplicate_to open_files (ofd_held desc p i) (free_fd desc p))

-- ---- 15. Fork (13): "same user, label and entries, position shared; value is the child"

abbrev pub forked : Subject → Pid → Decision
forked who q = granted q.0 (effect.Forked q who)

unfoldable pub fork_to : Subject → Pid → Decision
fork_to who q = need (is_pid q) TableFull (forked who q)

abbrev pub decide_fork : Table → Pid → Decision
decide_fork proc p = fork_to (subject_of proc p) (free_pid proc)

-- ---- the stages

-- who asks
abbrev pub asker : View → Call → Subject
asker v c = subject_of v.proc c.process

-- the call's own checks. 16. Exit: "closes all, frees the process"
unfoldable pub decide_own : Fixed → View → Call → Operation → Decision
decide_own K v c op.Open = decide_open K.policy v.tree v.open_files v.desc c.process (asker v c) c.number c.path
decide_own K v c op.Create = decide_create K.policy v.tree (asker v c) PLAIN (bits_of c.number) c.path
decide_own K v c op.MakeDirectory = decide_create K.policy v.tree (asker v c) DIRECTORY (bits_of c.number) c.path
decide_own K v c op.Unlink = decide_unlink K.policy v.tree v.open_files (asker v c) c.path
decide_own K v c op.RemoveDirectory = decide_remove K.policy v.tree (asker v c) c.path
decide_own K v c op.Link = decide_link K.policy v.tree (asker v c) c.path c.«data»
decide_own K v c op.List = decide_list K.policy v.tree (asker v c) c.number c.path
decide_own K v c op.ChangeBits = decide_change_bits K.policy v.tree (asker v c) (bits_of c.number) c.path
decide_own K v c op.Stat = decide_stat K.policy K.rom v.tree (asker v c) c.path
decide_own K v c op.Close = decide_close v.tree.file v.open_files v.desc c.process c.fd
decide_own K v c op.Read = decide_read K.policy K.rom v.tree.file v.open_files v.desc c.process (asker v c) c.fd (length c.buffer)
decide_own K v c op.Write = decide_write K.policy v.tree.file v.open_files v.desc c.process (asker v c) c.fd (length c.«data»)
decide_own K v c op.Seek = decide_seek v.desc c.process c.fd c.number
decide_own K v c op.Duplicate = decide_duplicate v.open_files v.desc c.process c.fd
decide_own K v c op.Fork = decide_fork v.proc c.process
decide_own K v c op.Exit = granted 0 effect.Exited
decide_own K v c op.Execute = decide_execute K.policy v.tree (asker v c) c.path
decide_own K v c op.Symlink = decide_symlink K.policy v.tree (asker v c) (length c.«data») c.path
decide_own K v c op.ReadLink = decide_read_link K.policy v.tree (asker v c) (length c.buffer) c.path
decide_own K v c op.Rename = decide_rename K.policy v.tree (asker v c) c.path c.«data»
decide_own K v c op.Unknown = Refused Malformed 0

-- "Order: 1, 2, 3, then as each call lists"
unfoldable pub decide : Fixed → View → Call → Decision
decide K v c = need (in_use v.proc c.process) NoProcess (need (well_formed c) Malformed (decide_own K v c (operation c)))

-- ---- the borrowing read (paper 02, R-6): "up to a given count (over 512 is 3); checks, value and position are as in read"

unfoldable pub decide_borrow : Fixed → View → Pid → Fd → (n : ℕ) → Decision
decide_borrow K v p i n =
    need (in_use v.proc p) NoProcess
    (need (leb n BLOCK) Malformed
    (decide_read K.policy K.rom v.tree.file v.open_files v.desc p (subject_of v.proc p) i n))
