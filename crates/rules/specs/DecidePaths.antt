-- The calls on paths, once their form is right: 1 to 9 and 17 to 20. The text's order is the order of refusals.
use Rattle.std.specs.Prelude.{ℕ, min, Bool, cond, not, Option, Some, None, List, [], ◌∷◌, eqb, ltb, leb}
use Rattle.rules.specs.Choice.{every, some, implies}
use Rattle.rules.specs.Decisions.{Decision, Refused, Granted}
use Rattle.rules.specs.Layout.{FILE_OWNER, FILE_GROUP, FILE_BITS, FILE_LABEL, FILE_LENGTH, FILE_LINKS, FILE_VERSION, PLAIN, DIRECTORY, LINK, NAMES}
use Rattle.rules.specs.Store.{Table, Tree, is_slot, is_fd, is_ofd, is_dirent, is_entry, bits_at, up}
use Rattle.rules.specs.Rights.{READ, WRITE, EXECUTE, bits_execute, owns, moved, mode_of, mode_rights}
use Rattle.rules.specs.Directories.{free_dirent, dirent_ranked}
use Rattle.rules.specs.Rom.{record_of}
use Rattle.rules.specs.Walk.{is_directory, is_plain, is_link, bits_allow, label_allows, walk_path, follow_path, walk_new}
use Rattle.rules.specs.Checks.{need, granted, after, is_absent, free_slot, free_ofd, free_fd, gains, loses, renames, freed, unnaming}
use Rattle.rules.specs.declared.ids.Slot.{Slot}
use Rattle.rules.specs.declared.ids.Pid.{Pid}
use Rattle.rules.specs.declared.ids.Fd.{Fd}
use Rattle.rules.specs.declared.ids.Ofd.{Ofd}
use Rattle.rules.specs.declared.ids.Dirent.{Dirent}
use Rattle.rules.specs.declared.rights.Rights.{Rights}
use Rattle.rules.specs.declared.rights.Bits.{Bits}
use Rattle.rules.specs.declared.rights.OpenMode.{OpenMode}
use Rattle.rules.specs.declared.rights.OpenFlags.{OpenFlags}
use Rattle.rules.specs.declared.request.Subject.{Subject}
use Rattle.rules.specs.declared.refusal.Refusal.TheVariants.{Malformed, WrongKind, BitsForbid, LabelForbids, NameThere, NotEmpty, TableFull, TooDeep}
use Rattle.rules.specs.declared.decision.Location.{Location}
use Rattle.rules.specs.declared.decision.Record.{Record}
use Rattle.rules.specs.declared.decision.NewFile.{NewFile}
use Rattle.rules.specs.declared.decision.DirChange.{DirChange}
use Rattle.rules.specs.declared.decision.NewOpen.{NewOpen}
use Rattle.rules.specs.declared.decision.Output.TheVariants as output
use Rattle.rules.specs.declared.decision.Effect.{Effect}
use Rattle.rules.specs.declared.decision.Effect.TheVariants as effect

-- "(9, 10)": the rights over slot s, by its bits and then by its label, and then what follows
abbrev pub allowed : Table → List ℕ → Subject → Slot → Rights → Decision → Decision
allowed file Q who s want d =
    need (bits_allow file who s want) BitsForbid
    (need (label_allows file Q who s want) LabelForbids d)

-- the same where directory d gains or loses a name of the file in s, which is then of the store: "link included"
unfoldable pub may_name : Table → Subject → (d s : Slot) → Bool
may_name file who d s = every (bits_allow file who d WRITE ∷ is_slot s ∷ [])

abbrev pub naming : Table → List ℕ → Subject → (d s : Slot) → Decision → Decision
naming file Q who d s rest =
    need (may_name file who d s) BitsForbid
    (need (label_allows file Q who d WRITE) LabelForbids rest)

-- ---- 1. Open: "Walk; plain file (8); rights (9, 10); free descriptor and entry (13). Cutting comes last"

-- the file truncated: its version goes up by one
abbrev pub truncated : Table → Slot → Record
truncated file s = record {
  kind = PLAIN;
  owner = file s.0 FILE_OWNER;
  group = file s.0 FILE_GROUP;
  bits = bits_at (file s.0 FILE_BITS);
  label = file s.0 FILE_LABEL;
  length = 0;
  links = file s.0 FILE_LINKS;
  version = up (file s.0 FILE_VERSION);
}

abbrev pub new_open : Slot → OpenMode → Fd → Ofd → NewOpen
new_open s m i e = record { fd = i; ofd = e; slot = s; mode = m }

-- an empty file is not truncated
unfoldable pub opening : Table → Slot → OpenMode → (truncating : Bool) → Fd → Ofd → Effect
opening file s m truncating i e =
    cond (every (truncating ∷ ltb 0 (file s.0 FILE_LENGTH) ∷ [])) (effect.Truncated (new_open s m i e) (truncated file s))
    (effect.Opened (new_open s m i e))

abbrev pub opened : Table → Slot → OpenMode → (truncating : Bool) → Fd → Ofd → Decision
opened file s m truncating i e = granted i.0 (opening file s m truncating i e)

unfoldable pub open_room : Table → Slot → OpenMode → (truncating : Bool) → Fd → Ofd → Decision
open_room file s m truncating i e = need (is_fd i) TableFull (need (is_ofd e) TableFull (opened file s m truncating i e))

unfoldable pub open_file : List ℕ → (file open_files desc : Table) → Pid → Subject → OpenMode → (truncating : Bool) → Slot → Decision
open_file Q file open_files desc p who m truncating s =
    need (is_plain file s) WrongKind
    (allowed file Q who s (mode_rights m)
    (open_room file s m truncating (free_fd desc p) (free_ofd open_files)))

unfoldable pub open_mode : List ℕ → (file open_files desc : Table) → Pid → Subject → Option OpenFlags → Slot → Decision
open_mode Q file open_files desc p who (Some o) s = open_file Q file open_files desc p who o.mode o.truncates s
open_mode Q file open_files desc p who None s = Refused Malformed 0

unfoldable pub decide_open : List ℕ → Tree → (open_files desc : Table) → Pid → Subject → ℕ → List ℕ → Decision
decide_open Q t open_files desc p who n path = after (follow_path t Q who path) (λ at. open_mode Q t.file open_files desc p who (mode_of n) at.slot)

-- ---- 2. Create, 3. Make directory: "Walk to the parent with its three checks; name there (11); write on the parent (9, 10); free slot and
-- place (13). Owner is the caller's user, bits as given, label the parent's. Value: the slot"

abbrev pub new_file : (kind : ℕ) → Bits → NewFile
new_file kind bits = record { kind = kind; bits = bits; length = 0 }

abbrev pub new_record : Table → Subject → NewFile → (d s : Slot) → Record
new_record file who new d s = record { kind = new.kind; owner = who.user; group = who.group; bits = new.bits; label = file d.0 FILE_LABEL; length = new.length; links = 1; version = file s.0 FILE_VERSION }

-- a link gets its text too
unfoldable pub making : (kind : ℕ) → DirChange → Slot → Record → Effect
making kind d s r = cond (eqb kind LINK) (effect.Symlinked d s r) (effect.Created d s r)

abbrev pub created : Table → Subject → NewFile → (d s : Slot) → Dirent → Decision
created file who new d s i = granted s.0 (making new.kind (gains file d i) s (new_record file who new d s))

unfoldable pub create_room : Table → Subject → NewFile → (d s : Slot) → Dirent → Decision
create_room file who new d s i = need (is_slot s) TableFull (need (is_dirent i) TableFull (created file who new d s i))

-- "A directory that would lie over 8 names deep through links is refused with 15, before 13"
abbrev pub depth_ok : (kind : ℕ) → Location → Bool
depth_ok kind at = implies (eqb kind DIRECTORY) (leb at.depth NAMES)

-- at the new name's entry in its parent
unfoldable pub create_at : List ℕ → Table → (shown : ℕ → List ℕ) → Subject → NewFile → Location → Decision
create_at Q file shown who new at =
    need (is_absent at) NameThere
    (allowed file Q who at.dir WRITE
    (need (depth_ok new.kind at) TooDeep
    (create_room file who new at.dir (free_slot file) (free_dirent (shown at.dir.0)))))

abbrev pub create_new : List ℕ → Tree → Subject → NewFile → List ℕ → Decision
create_new Q t who new path = after (walk_new t Q who path) (create_at Q t.file t.shown who new)

unfoldable pub decide_create : List ℕ → Tree → Subject → (kind : ℕ) → Option Bits → List ℕ → Decision
decide_create Q t who kind None path = Refused Malformed 0
decide_create Q t who kind (Some bits) path = create_new Q t who (new_file kind bits) path

-- ---- 18. Make link: "path and text both well formed (3), otherwise as create, value included"; "Link bits are 0"

-- with a text of n bytes
abbrev pub new_link : ℕ → NewFile
new_link n = record { kind = LINK; bits = bits_at 0; length = n }

unfoldable pub decide_symlink : List ℕ → Tree → Subject → ℕ → List ℕ → Decision
decide_symlink Q t who n path = create_new Q t who (new_link n) path

-- ---- 4. Unlink: "walk; plain (8); write on the parent (9, 10)"; "unlink takes [the link itself] away"

abbrev pub unlinked : (file open_files : Table) → Location → Decision
unlinked file open_files at = granted 0 (effect.Unlinked (loses file at.dir at.dirent) (unnaming file open_files at.slot))

unfoldable pub unlink_at : List ℕ → (file open_files : Table) → Subject → Location → Decision
unlink_at Q file open_files who at =
    need (some (is_plain file at.slot ∷ is_link file at.slot ∷ [])) WrongKind
    (naming file Q who at.dir at.slot
    (unlinked file open_files at))

unfoldable pub decide_unlink : List ℕ → Tree → (open_files : Table) → Subject → List ℕ → Decision
decide_unlink Q t open_files who path = after (walk_path t Q who path) (unlink_at Q t.file open_files who)

-- ---- 5. Remove directory: "walk; directory (8); write on the parent (9, 10); empty (12)"

abbrev pub removed : Table → Location → Decision
removed file at = granted 0 (effect.Removed (loses file at.dir at.dirent) at.slot (freed file at.slot))

abbrev pub remove_empty : Table → Location → Decision
remove_empty file at = need (eqb (file at.slot.0 FILE_LENGTH) 0) NotEmpty (removed file at)

unfoldable pub remove_at : List ℕ → Table → Subject → Location → Decision
remove_at Q file who at =
    need (is_directory file at.slot) WrongKind
    (naming file Q who at.dir at.slot
    (remove_empty file at))

unfoldable pub decide_remove : List ℕ → Tree → Subject → List ℕ → Decision
decide_remove Q t who path = after (walk_path t Q who path) (remove_at Q t.file who)

-- ---- 6. Link: "walk the old; plain (8); the new as in create, but only a place is needed. Value 0"

abbrev pub linked : Table → (old d : Slot) → Dirent → Decision
linked file old d i = granted 0 (effect.Linked (gains file d i) old (up (file old.0 FILE_LINKS)))

unfoldable pub link_room : Table → (old d : Slot) → Dirent → Decision
link_room file old d i = need (is_dirent i) TableFull (linked file old d i)

unfoldable pub link_at : List ℕ → Table → (shown : ℕ → List ℕ) → Subject → (old : Slot) → Location → Decision
link_at Q file shown who old at =
    need (is_absent at) NameThere
    (naming file Q who at.dir old
    (link_room file old at.dir (free_dirent (shown at.dir.0))))

abbrev pub link_new : List ℕ → Tree → Subject → List ℕ → Slot → Decision
link_new Q t who new old = after (walk_new t Q who new) (link_at Q t.file t.shown who old)

unfoldable pub link_to : List ℕ → Tree → Subject → List ℕ → Slot → Decision
link_to Q t who new old = need (is_plain t.file old) WrongKind (link_new Q t who new old)

unfoldable pub decide_link : List ℕ → Tree → Subject → (old new : List ℕ) → Decision
decide_link Q t who old new = after (walk_path t Q who old) (λ at. link_to Q t who new at.slot)

-- ---- 7. List: "walk; directory (8); read (9, 10). The k-th name in byte order, from 0, with value 1, or value 0 past the end"

unfoldable pub list_entry : Slot → Dirent → Decision
list_entry d i = cond (is_entry i) (Granted 1 (output.Name d i) effect.Nothing) (granted 0 effect.Nothing)

unfoldable pub list_at : List ℕ → Tree → Subject → ℕ → Slot → Decision
list_at Q t who k d =
    need (is_directory t.file d) WrongKind
    (allowed t.file Q who d READ
    (list_entry d (dirent_ranked (t.dirents d.0) k)))

unfoldable pub decide_list : List ℕ → Tree → Subject → ℕ → List ℕ → Decision
decide_list Q t who k path = after (follow_path t Q who path) (λ at. list_at Q t who k at.slot)

-- ---- 8. Change bits: "walk; owner or user 0 (9); label write (10)"

-- and of the store
unfoldable pub may_change : Table → Subject → Slot → Bool
may_change file who s = every (owns who (file s.0 FILE_OWNER) ∷ is_slot s ∷ [])

unfoldable pub change_bits_at : List ℕ → Table → Subject → Bits → Slot → Decision
change_bits_at Q file who bits s =
    need (may_change file who s) BitsForbid
    (need (label_allows file Q who s WRITE) LabelForbids
    (granted 0 (effect.BitsChanged s bits)))

unfoldable pub decide_change_bits : List ℕ → Tree → Subject → Option Bits → List ℕ → Decision
decide_change_bits Q t who None path = Refused Malformed 0
decide_change_bits Q t who (Some bits) path = after (follow_path t Q who path) (λ at. change_bits_at Q t.file who bits at.slot)

-- ---- 9. Stat: "walk. Kind, owner, bits, label, length, names, stamp"

abbrev pub described : List ℕ → Table → Slot → Decision
described R file s = Granted 0 (output.Fields (record_of R file s)) effect.Nothing

unfoldable pub decide_stat : (Q R : List ℕ) → Tree → Subject → List ℕ → Decision
decide_stat Q R t who path = after (walk_path t Q who path) (λ at. described R t.file at.slot)

-- ---- 17. Execute: "walk; plain (8); execute (9, 10). The label moves by the transition, if any"

abbrev pub executed : List ℕ → Table → Subject → Slot → Decision
executed Q file who s = granted 0 (effect.Relabelled (moved Q who.label (file s.0 FILE_LABEL)))

-- user 0 searches any directory, but executes only what someone may
abbrev pub bits_allow_execute : Table → Subject → Slot → Bool
bits_allow_execute file who s = bits_execute who (file s.0 FILE_OWNER) (file s.0 FILE_GROUP) (bits_at (file s.0 FILE_BITS))

unfoldable pub execute_at : List ℕ → Table → Subject → Slot → Decision
execute_at Q file who s =
    need (is_plain file s) WrongKind
    (need (bits_allow_execute file who s) BitsForbid
    (need (label_allows file Q who s EXECUTE) LabelForbids
    (executed Q file who s)))

unfoldable pub decide_execute : List ℕ → Tree → Subject → List ℕ → Decision
decide_execute Q t who path = after (follow_path t Q who path) (λ at. execute_at Q t.file who at.slot)

-- ---- 19. Read link: "walk, 8; bytes as in read, from 0"

abbrev pub link_read : Slot → ℕ → Decision
link_read s n = Granted n (output.Bytes s 0 n) effect.Nothing

unfoldable pub read_link_at : Table → (size : ℕ) → Slot → Decision
read_link_at file size s = need (is_link file s) WrongKind (link_read s (min size (file s.0 FILE_LENGTH)))

unfoldable pub decide_read_link : List ℕ → Tree → Subject → (size : ℕ) → List ℕ → Decision
decide_read_link Q t who size path = after (walk_path t Q who path) (λ at. read_link_at t.file size at.slot)

-- ---- 20. Rename (paper 02, R-10): "walk the old; then walk the new one's parent; new name there: 11, even if both paths are equal (POSIX differs); write on
-- the old parent, then the new (each 9, 10); a directory may move only within its own parent, else 8; a free place (13) only where the parents differ"

-- "Within one parent the place is kept"
abbrev pub renamed : Table → Location → Decision
renamed file old = granted 0 (effect.Renamed (renames file old.dir old.dirent) old.slot)

abbrev pub transferred : Table → Location → (d : Slot) → Dirent → Decision
transferred file old d i = granted 0 (effect.Transferred (loses file old.dir old.dirent) (gains file d i) old.slot)

unfoldable pub transfer_to : Table → Location → (d : Slot) → Dirent → Decision
transfer_to file old d i =
    need (not (is_directory file old.slot)) WrongKind
    (need (is_dirent i) TableFull
    (transferred file old d i))

-- the same parent is the same slot
unfoldable pub rename_to : Table → (shown : ℕ → List ℕ) → Location → (d : Slot) → Decision
rename_to file shown old d = cond (eqb old.dir.0 d.0) (renamed file old) (transfer_to file old d (free_dirent (shown d.0)))

-- at the new name's entry in its parent
unfoldable pub rename_at : List ℕ → Table → (shown : ℕ → List ℕ) → Subject → (old at : Location) → Decision
rename_at Q file shown who old at =
    need (is_absent at) NameThere
    (naming file Q who old.dir old.slot
    (allowed file Q who at.dir WRITE
    (rename_to file shown old at.dir)))

unfoldable pub rename_new : List ℕ → Tree → Subject → List ℕ → Location → Decision
rename_new Q t who new old = after (walk_new t Q who new) (rename_at Q t.file t.shown who old)

unfoldable pub decide_rename : List ℕ → Tree → Subject → (old new : List ℕ) → Decision
decide_rename Q t who old new = after (walk_path t Q who old) (rename_new Q t who new)
