-- What a granted call does: a list of changes, made from the call and the decision alone. Exit and fork go through the eight descriptors first,
-- each on the tables as they then are.
use Rattle.std.specs.Prelude.{ℕ, ◌*◌, Some, None, List, [], ◌∷◌, ◌++◌}
use Rattle.rules.specs.Scan.{repeat}
use Rattle.rules.specs.Decisions.{Share}
use Rattle.rules.specs.Layout.{DIRENT_WIDTH, DESCRIPTORS, FILE_BITS, FILE_LENGTH, FILE_LINKS, FILE_VERSION, OPEN_OFFSET, OPEN_REFERENCES, PROCESS_LABEL}
use Rattle.rules.specs.Store.{Store, view, words, fd_of, up, zeros, Change, file_word, file_to, clear_to, bytes_to, open_word, open_to, open_zero, desc_to, proc_word, proc_to, proc_zero, apply_all}
use Rattle.rules.specs.Paths.{Name, names, last_name}
use Rattle.rules.specs.Directories.{dirent}
use Rattle.rules.specs.Calls.{Call}
use Rattle.rules.specs.Checks.{releasing, share_of}
use Rattle.rules.specs.declared.ids.Slot.{Slot}
use Rattle.rules.specs.declared.ids.Pid.{Pid}
use Rattle.rules.specs.declared.ids.Fd.{Fd}
use Rattle.rules.specs.declared.ids.Ofd.{Ofd}
use Rattle.rules.specs.declared.request.Subject.{Subject}
use Rattle.rules.specs.declared.decision.Record.{Record}
use Rattle.rules.specs.declared.decision.DirChange.{DirChange}
use Rattle.rules.specs.declared.decision.NewOpen.{NewOpen}
use Rattle.rules.specs.declared.decision.Placement.{Placement}
use Rattle.rules.specs.declared.decision.Unnamed.{Unnamed}
use Rattle.rules.specs.declared.decision.Unnamed.TheVariants as unnamed
use Rattle.rules.specs.declared.decision.Release.{Release}
use Rattle.rules.specs.declared.decision.Release.TheVariants as release
use Rattle.rules.specs.declared.decision.Effect.{Effect}
use Rattle.rules.specs.declared.decision.Effect.TheVariants as effect

-- ---- names

-- the directory's new length and version
abbrev pub dir_words : DirChange → List Change
dir_words d = file_word d.dir.0 FILE_LENGTH d.length ∷ file_word d.dir.0 FILE_VERSION d.version ∷ []

unfoldable pub name_changes : Name → Slot → DirChange → List Change
name_changes name s d = bytes_to d.dir.0 (DIRENT_WIDTH * d.dirent.0) (dirent name s) ∷ dir_words d

unfoldable pub unname_changes : DirChange → List Change
unname_changes d = bytes_to d.dir.0 (DIRENT_WIDTH * d.dirent.0) (zeros DIRENT_WIDTH) ∷ dir_words d

unfoldable pub create_changes : Name → DirChange → Slot → Record → List Change
create_changes name d s r = file_to s.0 (words r) ∷ name_changes name s d

-- a link's text from its first byte on: a free slot's bytes are 0, so those past it are
unfoldable pub symlink_changes : Name → (text : List ℕ) → DirChange → Slot → Record → List Change
symlink_changes name text d s r = file_to s.0 (words r) ∷ bytes_to s.0 0 text ∷ name_changes name s d

unfoldable pub link_changes : Name → DirChange → Slot → ℕ → List Change
link_changes name d s links = file_word s.0 FILE_LINKS links ∷ name_changes name s d

unfoldable pub unnamed_changes : Unnamed → List Change
unnamed_changes (unnamed.Kept s links) = file_word s.0 FILE_LINKS links ∷ []
unnamed_changes (unnamed.Freed s r) = clear_to s.0 (words r) ∷ []

unfoldable pub unlink_changes : DirChange → Unnamed → List Change
unlink_changes d u = unname_changes d ++ unnamed_changes u

unfoldable pub remove_changes : DirChange → Slot → Record → List Change
remove_changes d s r = unname_changes d ++ (clear_to s.0 (words r) ∷ [])

unfoldable pub transfer_changes : Name → (from to : DirChange) → Slot → List Change
transfer_changes name from to s = unname_changes from ++ name_changes name s to

-- ---- open files

-- the word of a descriptor that holds open file e
abbrev pub desc_word : Ofd → ℕ
desc_word e = up e.0

unfoldable pub open_changes : Pid → NewOpen → List Change
open_changes p n = open_to n.ofd.0 (n.slot.0 ∷ n.mode.0 ∷ 0 ∷ 1 ∷ []) ∷ desc_to p.0 n.fd.0 (desc_word n.ofd) ∷ []

-- "Cutting comes last"
unfoldable pub truncate_changes : Pid → NewOpen → Record → List Change
truncate_changes p n r = open_changes p n ++ (clear_to n.slot.0 (words r) ∷ [])

unfoldable pub release_changes : Release → List Change
release_changes release.Nothing = []
release_changes (release.Kept e refs) = open_word e.0 OPEN_REFERENCES refs ∷ []
release_changes (release.Gone e) = open_zero e.0 ∷ []
release_changes (release.Freed e s r) = open_zero e.0 ∷ clear_to s.0 (words r) ∷ []

unfoldable pub close_changes : Pid → Fd → Release → List Change
close_changes p i r = desc_to p.0 i.0 0 ∷ release_changes r

unfoldable pub store_changes : List ℕ → Placement → List Change
store_changes «data» w =
    bytes_to w.slot.0 w.end (zeros w.gap)
    ∷ bytes_to w.slot.0 w.at «data»
    ∷ file_word w.slot.0 FILE_LENGTH w.length
    ∷ file_word w.slot.0 FILE_VERSION w.version
    ∷ open_word w.ofd.0 OPEN_OFFSET w.offset
    ∷ []

unfoldable pub duplicate_changes : Pid → Fd → Ofd → (refs : ℕ) → List Change
duplicate_changes p i e refs = desc_to p.0 i.0 (desc_word e) ∷ open_word e.0 OPEN_REFERENCES refs ∷ []

-- ---- fork and exit, one descriptor at a time

-- the child's descriptor i is what its parent's is
unfoldable pub share_changes : (child : Pid) → Fd → Share → List Change
share_changes q i None = desc_to q.0 i.0 0 ∷ []
share_changes q i (Some s) = desc_to q.0 i.0 (desc_word s.ofd) ∷ open_word s.ofd.0 OPEN_REFERENCES s.references ∷ []

unfoldable pub shared : (parent child : Pid) → ℕ → Store → Store
shared p q i t = apply_all (share_changes q (fd_of i) (share_of (view t).open_files (view t).desc p (fd_of i))) t

unfoldable pub shared_all : (parent child : Pid) → Store → Store
shared_all p q t = repeat (shared p q) 0 DESCRIPTORS t

unfoldable pub released : Pid → ℕ → Store → Store
released p i t = apply_all (close_changes p (fd_of i) (releasing (view t).tree.file (view t).open_files (view t).desc p (fd_of i))) t

unfoldable pub released_all : Pid → Store → Store
released_all p t = repeat (released p) 0 DESCRIPTORS t

-- a child's own words: in use, and its parent's user, group and label
unfoldable pub fork_changes : (child : Pid) → Subject → List Change
fork_changes q who = proc_to q.0 (1 ∷ who.user ∷ who.group ∷ who.label ∷ []) ∷ []

-- ---- what each effect does

unfoldable pub carry_out : Call → Effect → Store → Store
carry_out c effect.Nothing t = t
carry_out c (effect.Opened n) t = apply_all (open_changes c.process n) t
carry_out c (effect.Truncated n r) t = apply_all (truncate_changes c.process n r) t
carry_out c (effect.Created d s r) t = apply_all (create_changes (last_name (names c.path)) d s r) t
carry_out c (effect.Unlinked d u) t = apply_all (unlink_changes d u) t
carry_out c (effect.Removed d s r) t = apply_all (remove_changes d s r) t
carry_out c (effect.Linked d s links) t = apply_all (link_changes (last_name (names c.«data»)) d s links) t
carry_out c (effect.BitsChanged s bits) t = apply_all (file_word s.0 FILE_BITS bits.0 ∷ []) t
carry_out c (effect.Closed i r) t = apply_all (close_changes c.process i r) t
carry_out c (effect.Stored w) t = apply_all (store_changes c.«data» w) t
carry_out c (effect.Moved e offset) t = apply_all (open_word e.0 OPEN_OFFSET offset ∷ []) t
carry_out c (effect.Duplicated i e refs) t = apply_all (duplicate_changes c.process i e refs) t
carry_out c (effect.Forked q who) t = apply_all (fork_changes q who) (shared_all c.process q t)
carry_out c effect.Exited t = apply_all (proc_zero c.process.0 ∷ []) (released_all c.process t)
carry_out c (effect.Relabelled label) t = apply_all (proc_word c.process.0 PROCESS_LABEL label ∷ []) t
carry_out c (effect.Symlinked d s r) t = apply_all (symlink_changes (last_name (names c.path)) c.«data» d s r) t
carry_out c (effect.Renamed d s) t = apply_all (name_changes (last_name (names c.«data»)) s d) t
carry_out c (effect.Transferred from to s) t = apply_all (transfer_changes (last_name (names c.«data»)) from to s) t
