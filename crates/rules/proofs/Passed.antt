-- What a granted decision has passed: one case a call, each check that it has passed an equation. Theorems about all calls case on it.
use Prim.Native.Nat.{ℕ, ◌+◌, min}
use mathlib.Core.Path.{◌≡◌, refl, subst}
use mathlib.Core.Bool.{Bool, true, false, cond, not}
use mathlib.Core.List.{List, [], ◌∷◌}
use lib.Dec.{eqb, ltb, leb}
use lib.ListN.{length}
use Rattle.std.specs.Prelude.{Some, None, Ok, Err, Option}
use Rattle.rules.specs.Choice.{every, some}
use Rattle.rules.specs.Layout.{BLOCK, FILE_OWNER, FILE_LABEL, FILE_LENGTH, FILE_LINKS, PLAIN, DIRECTORY, OPEN_SLOT, OPEN_MODE, OPEN_OFFSET, OPEN_REFERENCES}
use Rattle.rules.specs.Store.{Fixed, Table, View, slot, is_slot, is_pid, is_fd, is_ofd, is_dirent, is_entry, mode_at, subject_of, up, plus}
use Rattle.rules.specs.Rights.{READ, WRITE, EXECUTE, bits_of, mode_of, mode_rights, reads, writes, owns, moved}
use Rattle.rules.specs.Directories.{free_dirent, dirent_ranked}
use Rattle.rules.specs.Rom.{record_of}
use Rattle.rules.specs.Walk.{is_directory, is_plain, is_link, bits_allow, label_allows, walk_path, follow_path, walk_new}
use Rattle.rules.specs.Calls.{Call, operation_of, operation, form_ok, well_formed}
use Rattle.rules.specs.Checks.{need, after, in_use, held, ofd_held, is_absent, free_slot, free_ofd, free_fd, free_pid, gains, loses, renames, freed, unnaming, releasing}
use Rattle.rules.specs.DecidePaths.{allowed, may_name, naming, new_open, truncated, opening, open_room, open_file, open_mode, decide_open, new_file, new_record, making, create_room, depth_ok, create_at, decide_create, new_link, decide_symlink, unlink_at, decide_unlink, remove_at, decide_remove}
use Rattle.rules.specs.DecidePaths.{link_room, link_at, link_to, decide_link, list_entry, list_at, decide_list, may_change, change_bits_at, decide_change_bits, decide_stat, bits_allow_execute, execute_at, decide_execute, read_link_at, decide_read_link, transfer_to, rename_to, rename_at, rename_new, decide_rename}
use Rattle.rules.specs.Decide.{decide_close, label_allows_open, remaining, read_open, decide_read, write_at, placement, write_file, write_some, write_open, decide_write, decide_seek, duplicate_to, decide_duplicate, fork_to, decide_own, decide, decide_borrow}
use Rattle.rules.specs.Step.{read_of}
use Rattle.rules.specs.declared.ids.Slot.{Slot}
use Rattle.rules.specs.declared.ids.Pid.{Pid}
use Rattle.rules.specs.declared.ids.Fd.{Fd}
use Rattle.rules.specs.declared.ids.Ofd.{Ofd}
use Rattle.rules.specs.declared.ids.Dirent.{Dirent}
use Rattle.rules.specs.declared.rights.Rights.{Rights}
use Rattle.rules.specs.declared.rights.Bits.{Bits}
use Rattle.rules.specs.declared.rights.OpenMode.{OpenMode}
use Rattle.rules.specs.declared.rights.OpenFlags.{OpenFlags}
use Rattle.rules.specs.Decisions.{open_flags, Walk, Reached, Decision, Refused, Granted}
use Rattle.rules.specs.declared.request.Subject.{Subject}
use Rattle.rules.specs.declared.request.Operation.{Operation}
use Rattle.rules.specs.declared.request.Operation.TheVariants as op
use Rattle.rules.specs.declared.refusal.Refusal.{Refusal}
use Rattle.rules.specs.declared.decision.Location.{Location}
use Rattle.rules.specs.declared.decision.Record.{Record}
use Rattle.rules.specs.declared.decision.DirChange.{DirChange}
use Rattle.rules.specs.declared.decision.NewOpen.{NewOpen}
use Rattle.rules.specs.declared.decision.Output.{Output}
use Rattle.rules.specs.declared.decision.Output.TheVariants as output
use Rattle.rules.specs.declared.decision.Effect.{Effect}
use Rattle.rules.specs.declared.decision.Effect.TheVariants as effect
use Rattle.rules.proofs.Lists.{length-zeros}
use Rattle.rules.proofs.Tests.{test}

-- ---- G holds of the value, the output and the effect of a granted decision

pub data Fit (G : ℕ → Output → Effect → Type 0) : Decision → Type 0 where
  granting : (n : ℕ) (o : Output) (e : Effect) → G n o e → Fit G (Granted n o e)
  refusing : (r : Refusal) (k : ℕ) → Fit G (Refused r k)

pub fit-map : {G H : ℕ → Output → Effect → Type 0} {d : Decision} → ((n : ℕ) (o : Output) (e : Effect) → G n o e → H n o e) → Fit G d → Fit H d
fit-map f (granting n o e g) = granting n o e (f n o e g)
fit-map f (refusing r k) = refusing r k

-- the same as a function of the decision
unfoldable pub Of : (ℕ → Output → Effect → Type 0) → Decision → Type 0
Of G (Err stop) = Unit {0}
Of G (Ok grant) = G grant.value grant.output grant.effect

pub fit_of : {G : ℕ → Output → Effect → Type 0} {d : Decision} → Fit G d → Of G d
unfolding Of
fit_of (granting n o e g) = g
fit_of (refusing r k) = tt

module _ {G : ℕ → Output → Effect → Type 0} where
  pub need-fit : (b : Bool) (r : Refusal) (d : Decision) → (b ≡ true → Fit G d) → Fit G (need b r d)
  unfolding need
  need-fit true r d f = f refl
  need-fit false r d f = refusing r 0

  pub after-fit : (w : Walk) (f : Location → Decision) → ((at : Location) → w ≡ Reached at → Fit G (f at)) → Fit G (after w f)
  unfolding after
  after-fit (Ok at) f g = g at refl
  after-fit (Err stop) f g = refusing stop.refusal stop.name

  cond-fit : (b : Bool) (x y : Decision) → (b ≡ true → Fit G x) → (b ≡ false → Fit G y) → Fit G (cond b x y)
  cond-fit true x y f g = f refl
  cond-fit false x y f g = g refl

-- ---- the checks, by what they are asked for

module _ (K : Fixed) (v : View) (c : Call) where
  abbrev Q : List ℕ
  Q = K.policy

  abbrev pub who : Subject
  who = subject_of v.proc c.process

  abbrev file : Table
  file = v.tree.file

  -- the open file that the call's descriptor holds
  abbrev pub ofd : Ofd
  ofd = ofd_held v.desc c.process c.fd

  -- the rights over slot s, by its bits and by its label
  pub record Allowed (s : Slot) (want : Rights) : Type 0 where
    pub bits : bits_allow file who s want ≡ true
    pub label : label_allows file Q who s want ≡ true

  -- the path leads to `at`, a link by its last name not followed
  abbrev pub Walked : Location → Type 0
  Walked at = walk_path v.tree Q who c.path ≡ Reached at

  -- and followed
  abbrev pub Followed : Location → Type 0
  Followed at = follow_path v.tree Q who c.path ≡ Reached at

  -- a plain file is opened in mode m
  pub record Opening (at : Location) (m : OpenMode) : Type 0 where
    pub walked : Followed at
    pub plain : is_plain file at.slot ≡ true
    pub allows : Allowed at.slot (mode_rights m)
    pub fd-free : is_fd (free_fd v.desc c.process) ≡ true
    pub ofd-free : is_ofd (free_ofd v.open_files) ≡ true

  abbrev pub newest : Location → OpenMode → NewOpen
  newest at m = new_open at.slot m (free_fd v.desc c.process) (free_ofd v.open_files)

  -- a path's last name is new, and its parent has room for it
  pub record Naming (path : List ℕ) (at : Location) : Type 0 where
    pub walked : walk_new v.tree Q who path ≡ Reached at
    pub absent : is_absent at ≡ true
    pub allows : Allowed at.dir WRITE
    pub dirent-free : is_dirent (free_dirent (v.tree.shown at.dir.0)) ≡ true

  abbrev pub entry_in : Location → Dirent
  entry_in at = free_dirent (v.tree.shown at.dir.0)

  -- a file of the store gets a new name, in a directory that has no such name
  pub record Renaming (old at : Location) : Type 0 where
    pub found : Walked old
    pub walked : walk_new v.tree Q who c.«data» ≡ Reached at
    pub absent : is_absent at ≡ true
    pub leaves : Allowed old.dir WRITE
    pub stored : is_slot old.slot ≡ true
    pub enters : Allowed at.dir WRITE

  abbrev pub Holding : Type 0
  Holding = held v.desc c.process c.fd ≡ true

  abbrev pub mode : OpenMode
  mode = mode_at (v.open_files ofd.0 OPEN_MODE)

  -- the caller's label still has the rights over the file that it holds open
  abbrev pub StillAllowed : Rights → Type 0
  StillAllowed want = label_allows_open file v.open_files Q who ofd want ≡ true

  -- how many bytes are read
  abbrev pub count : ℕ
  count = min (length c.buffer) (remaining K.rom file v.open_files ofd)

  -- and of a link
  abbrev pub link_count : Location → ℕ
  link_count at = min (length c.buffer) (file at.slot.0 FILE_LENGTH)

  -- ---- every call

  -- what the number of an open says, and whether it truncates
  abbrev pub Mode : OpenMode → Option OpenFlags → (truncates : Bool) → Type 0
  Mode m n truncates = n ≡ Some (open_flags m truncates)

  -- what kind of file a call makes
  pub data Makes : Operation → ℕ → Type 0 where
    plain : Makes op.Create PLAIN
    directory : Makes op.MakeDirectory DIRECTORY

  pub data Passed : Operation → ℕ → Output → Effect → Type 0 where
    opens : (at : Location) (m : OpenMode) (truncating : Bool) → Mode m (mode_of c.number) truncating → Opening at m → every (truncating ∷ ltb 0 (file at.slot.0 FILE_LENGTH) ∷ []) ≡ false →
        Passed op.Open (newest at m).fd.0 output.Nothing (effect.Opened (newest at m))
    opens_truncating : (at : Location) (m : OpenMode) (truncating : Bool) → Mode m (mode_of c.number) truncating → Opening at m → every (truncating ∷ ltb 0 (file at.slot.0 FILE_LENGTH) ∷ []) ≡ true →
        Passed op.Open (newest at m).fd.0 output.Nothing (effect.Truncated (newest at m) (truncated file at.slot))
    creates : (o : Operation) (kind : ℕ) (at : Location) (b : Bits) → Makes o kind → bits_of c.number ≡ Some b → Naming c.path at → depth_ok kind at ≡ true → is_slot (free_slot file) ≡ true →
        Passed o (free_slot file).0 output.Nothing (effect.Created (gains file at.dir (entry_in at)) (free_slot file) (new_record file who (new_file kind b) at.dir (free_slot file)))
    unlinks : (at : Location) → Walked at → some (is_plain file at.slot ∷ is_link file at.slot ∷ []) ≡ true → Allowed at.dir WRITE → is_slot at.slot ≡ true →
        Passed op.Unlink 0 output.Nothing (effect.Unlinked (loses file at.dir at.dirent) (unnaming file v.open_files at.slot))
    removes : (at : Location) → Walked at → is_directory file at.slot ≡ true → Allowed at.dir WRITE → is_slot at.slot ≡ true → eqb (file at.slot.0 FILE_LENGTH) 0 ≡ true →
        Passed op.RemoveDirectory 0 output.Nothing (effect.Removed (loses file at.dir at.dirent) at.slot (freed file at.slot))
    links : (old at : Location) → Walked old → is_plain file old.slot ≡ true → is_slot old.slot ≡ true → Naming c.«data» at →
        Passed op.Link 0 output.Nothing (effect.Linked (gains file at.dir (entry_in at)) old.slot (up (file old.slot.0 FILE_LINKS)))
    lists : (at : Location) → Followed at → is_directory file at.slot ≡ true → Allowed at.slot READ → is_entry (dirent_ranked (v.tree.dirents at.slot.0) c.number) ≡ true →
        Passed op.List 1 (output.Name at.slot (dirent_ranked (v.tree.dirents at.slot.0) c.number)) effect.Nothing
    lists_past : (at : Location) → Followed at → is_directory file at.slot ≡ true → Allowed at.slot READ → is_entry (dirent_ranked (v.tree.dirents at.slot.0) c.number) ≡ false →
        Passed op.List 0 output.Nothing effect.Nothing
    changes_bits : (at : Location) (b : Bits) → bits_of c.number ≡ Some b → Followed at → owns who (file at.slot.0 FILE_OWNER) ≡ true → is_slot at.slot ≡ true → label_allows file Q who at.slot WRITE ≡ true →
        Passed op.ChangeBits 0 output.Nothing (effect.BitsChanged at.slot b)
    describes : (at : Location) → Walked at → Passed op.Stat 0 (output.Fields (record_of K.rom file at.slot)) effect.Nothing
    closes : Holding → Passed op.Close 0 output.Nothing (effect.Closed c.fd (releasing file v.open_files v.desc c.process c.fd))
    fetches : Holding → reads mode ≡ true → StillAllowed READ →
        Passed op.Read count (output.Bytes (slot (v.open_files ofd.0 OPEN_SLOT)) (v.open_files ofd.0 OPEN_OFFSET) count) (effect.Moved ofd (plus (v.open_files ofd.0 OPEN_OFFSET) count))
    stores_nothing : Holding → writes mode ≡ true → StillAllowed WRITE → eqb (length c.«data») 0 ≡ true → Passed op.Write 0 output.Nothing effect.Nothing
    stores : Holding → writes mode ≡ true → StillAllowed WRITE → eqb (length c.«data») 0 ≡ false → leb (write_at file v.open_files ofd + length c.«data») BLOCK ≡ true →
        Passed op.Write (length c.«data») output.Nothing (effect.Stored (placement file ofd (slot (v.open_files ofd.0 OPEN_SLOT)) (write_at file v.open_files ofd) (length c.«data»)))
    seeks : Holding → Passed op.Seek c.number output.Nothing (effect.Moved ofd c.number)
    duplicates : Holding → is_fd (free_fd v.desc c.process) ≡ true →
        Passed op.Duplicate (free_fd v.desc c.process).0 output.Nothing (effect.Duplicated (free_fd v.desc c.process) ofd (up (v.open_files ofd.0 OPEN_REFERENCES)))
    forks : is_pid (free_pid v.proc) ≡ true → Passed op.Fork (free_pid v.proc).0 output.Nothing (effect.Forked (free_pid v.proc) who)
    exits : Passed op.Exit 0 output.Nothing effect.Exited
    executes : (at : Location) → Followed at → is_plain file at.slot ≡ true → bits_allow_execute file who at.slot ≡ true → label_allows file Q who at.slot EXECUTE ≡ true →
        Passed op.Execute 0 output.Nothing (effect.Relabelled (moved Q who.label (file at.slot.0 FILE_LABEL)))
    symlinks : (at : Location) → Naming c.path at → is_slot (free_slot file) ≡ true →
        Passed op.Symlink (free_slot file).0 output.Nothing (effect.Symlinked (gains file at.dir (entry_in at)) (free_slot file) (new_record file who (new_link (length c.«data»)) at.dir (free_slot file)))
    reads_link : (at : Location) → Walked at → is_link file at.slot ≡ true →
        Passed op.ReadLink (link_count at) (output.Bytes at.slot 0 (link_count at)) effect.Nothing
    renames_in : (old at : Location) → Renaming old at → eqb old.dir.0 at.dir.0 ≡ true →
        Passed op.Rename 0 output.Nothing (effect.Renamed (renames file old.dir old.dirent) old.slot)
    transfers : (old at : Location) → Renaming old at → eqb old.dir.0 at.dir.0 ≡ false → not (is_directory file old.slot) ≡ true → is_dirent (entry_in at) ≡ true →
        Passed op.Rename 0 output.Nothing (effect.Transferred (loses file old.dir old.dirent) (gains file at.dir (entry_in at)) old.slot)

  -- process (2), form (3), then the call's own checks
  pub record Permit (n : ℕ) (o : Output) (e : Effect) : Type 0 where
    pub used : in_use v.proc c.process ≡ true
    pub formed : well_formed c ≡ true
    pub passed : Passed (operation c) n o e

  -- ---- and every granted decision has

  made : {o : Operation} {kind : ℕ} → Makes o kind → (d : DirChange) (s : Slot) (r : Record) → making kind d s r ≡ effect.Created d s r
  unfolding making
  made plain d s r = refl
  made directory d s r = refl

  allowed-fit : {G : ℕ → Output → Effect → Type 0} (s : Slot) (want : Rights) (d : Decision) → (Allowed s want → Fit G d) → Fit G (allowed file Q who s want d)
  allowed-fit s want d f = need-fit (bits_allow file who s want) _ _ (λ b. need-fit (label_allows file Q who s want) _ _ (λ l. f (record { bits = b; label = l })))

  naming-fit : {G : ℕ → Output → Effect → Type 0} (d s : Slot) (rest : Decision) → (Allowed d WRITE → is_slot s ≡ true → Fit G rest) → Fit G (naming file Q who d s rest)
  unfolding may_name
  naming-fit d s rest f = need-fit (may_name file who d s) _ _ (λ b. need-fit (label_allows file Q who d WRITE) _ _ (λ l. f (record { bits = test 0 _ b; label = l }) (test 1 _ b)))

  open-fit : (at : Location) (m : OpenMode) (truncating : Bool) → Mode m (mode_of c.number) truncating → Followed at → Fit (Passed op.Open) (open_file Q file v.open_files v.desc c.process who m truncating at.slot)
  unfolding open_file open_room opening
  open-fit at m truncating k w = need-fit _ _ _ (λ p. allowed-fit at.slot (mode_rights m) _ (λ a. need-fit _ _ _ (λ i. need-fit _ _ _ (λ e.
      by (record { walked = w; plain = p; allows = a; fd-free = i; ofd-free = e }) (every (truncating ∷ ltb 0 (file at.slot.0 FILE_LENGTH) ∷ [])) refl))))
    where
      by : Opening at m → (b : Bool) → every (truncating ∷ ltb 0 (file at.slot.0 FILE_LENGTH) ∷ []) ≡ b → Fit (Passed op.Open) (Granted (newest at m).fd.0 output.Nothing (cond b (effect.Truncated (newest at m) (truncated file at.slot)) (effect.Opened (newest at m))))
      by h true q = granting _ _ _ (opens_truncating at m truncating k h q)
      by h false q = granting _ _ _ (opens at m truncating k h q)

  mode-fit : (at : Location) → Followed at → (n : Option OpenFlags) → mode_of c.number ≡ n → Fit (Passed op.Open) (open_mode Q file v.open_files v.desc c.process who n at.slot)
  unfolding open_mode
  mode-fit at w (Some flags) e = open-fit at flags.mode flags.truncates e w
  mode-fit at w None e = refusing _ _

  create-fit : {o : Operation} {kind : ℕ} → Makes o kind → (n : Option Bits) → bits_of c.number ≡ n → Fit (Passed o) (decide_create Q v.tree who kind n c.path)
  unfolding decide_create create_at create_room
  create-fit k None e = refusing _ _
  create-fit {kind = kind} k (Some b) e = after-fit _ _ (λ at w. need-fit _ _ _ (λ a. allowed-fit at.dir WRITE _ (λ r. need-fit _ _ _ (λ d. need-fit _ _ _ (λ s. need-fit _ _ _ (λ i.
      rw (made k _ _ _) (granting _ _ _ (creates _ _ at b k e (record { walked = w; absent = a; allows = r; dirent-free = i }) d s))))))))

  symlink-fit : Fit (Passed op.Symlink) (decide_symlink Q v.tree who (length c.«data») c.path)
  unfolding decide_symlink create_at create_room making
  symlink-fit = after-fit _ _ (λ at w. need-fit _ _ _ (λ a. allowed-fit at.dir WRITE _ (λ r. need-fit _ _ _ (λ d. need-fit _ _ _ (λ s. need-fit _ _ _ (λ i.
      granting _ _ _ (symlinks at (record { walked = w; absent = a; allows = r; dirent-free = i }) s)))))))

  link-fit : Fit (Passed op.Link) (decide_link Q v.tree who c.path c.«data»)
  unfolding decide_link link_to link_at link_room
  link-fit = after-fit _ _ (λ old u. need-fit _ _ _ (λ p. after-fit _ _ (λ at w. need-fit _ _ _ (λ a. naming-fit at.dir old.slot _ (λ r y. need-fit _ _ _ (λ i.
      granting _ _ _ (links old at u p y (record { walked = w; absent = a; allows = r; dirent-free = i }))))))))

  list-fit : Fit (Passed op.List) (decide_list Q v.tree who c.number c.path)
  unfolding decide_list list_at list_entry
  list-fit = after-fit _ _ (λ at w. need-fit _ _ _ (λ d. allowed-fit at.slot READ _ (λ a. cond-fit _ _ _
      (λ i. granting _ _ _ (lists at w d a i)) (λ i. granting _ _ _ (lists_past at w d a i)))))

  bits_fit : (n : Option Bits) → bits_of c.number ≡ n → Fit (Passed op.ChangeBits) (decide_change_bits Q v.tree who n c.path)
  unfolding decide_change_bits change_bits_at may_change
  bits_fit None e = refusing _ _
  bits_fit (Some b) e = after-fit _ _ (λ at w. need-fit _ _ _ (λ o. need-fit _ _ _ (λ l. granting _ _ _ (changes_bits at b e w (test 0 _ o) (test 1 _ o) l))))

  write-fit : Fit (Passed op.Write) (decide_write Q file v.open_files v.desc c.process who c.fd (length c.«data»))
  unfolding decide_write write_open write_some write_file
  write-fit = need-fit _ _ _ (λ h. need-fit _ _ _ (λ w. need-fit _ _ _ (λ a. cond-fit _ _ _ (λ z. granting _ _ _ (stores_nothing h w a z)) (λ z. need-fit _ _ _ (λ l. granting _ _ _ (stores h w a z l))))))

  rename-fit : Fit (Passed op.Rename) (decide_rename Q v.tree who c.path c.«data»)
  unfolding decide_rename rename_new rename_at rename_to transfer_to
  rename-fit = after-fit _ _ (λ old u. after-fit _ _ (λ at w. need-fit _ _ _ (λ a. naming-fit old.dir old.slot _ (λ r y. allowed-fit at.dir WRITE _ (λ e.
      by old at (record { found = u; walked = w; absent = a; leaves = r; stored = y; enters = e }))))))
    where
      by : (old at : Location) → Renaming old at → Fit (Passed op.Rename) (rename_to file v.tree.shown old at.dir)
      by old at h = cond-fit _ _ _ (λ q. granting _ _ _ (renames_in old at h q)) (λ q. need-fit _ _ _ (λ d. need-fit _ _ _ (λ i. granting _ _ _ (transfers old at h q d i))))

  own-fit : (o : Operation) → Fit (Passed o) (decide_own K v c o)
  unfolding decide_own decide_open decide_unlink unlink_at decide_remove remove_at decide_stat decide_close decide_read read_open decide_seek decide_duplicate duplicate_to fork_to decide_execute execute_at decide_read_link read_link_at
  own-fit op.Open = after-fit _ _ (λ at w. mode-fit at w (mode_of c.number) refl)
  own-fit op.Create = create-fit plain (bits_of c.number) refl
  own-fit op.MakeDirectory = create-fit directory (bits_of c.number) refl
  own-fit op.Unlink = after-fit _ _ (λ at w. need-fit _ _ _ (λ p. naming-fit at.dir at.slot _ (λ a y. granting _ _ _ (unlinks at w p a y))))
  own-fit op.RemoveDirectory = after-fit _ _ (λ at w. need-fit _ _ _ (λ d. naming-fit at.dir at.slot _ (λ a y. need-fit _ _ _ (λ z. granting _ _ _ (removes at w d a y z)))))
  own-fit op.Link = link-fit
  own-fit op.List = list-fit
  own-fit op.ChangeBits = bits_fit (bits_of c.number) refl
  own-fit op.Stat = after-fit _ _ (λ at w. granting _ _ _ (describes at w))
  own-fit op.Close = need-fit _ _ _ (λ h. granting _ _ _ (closes h))
  own-fit op.Read = need-fit _ _ _ (λ h. need-fit _ _ _ (λ r. need-fit _ _ _ (λ a. granting _ _ _ (fetches h r a))))
  own-fit op.Write = write-fit
  own-fit op.Seek = need-fit _ _ _ (λ h. granting _ _ _ (seeks h))
  own-fit op.Duplicate = need-fit _ _ _ (λ h. need-fit _ _ _ (λ i. granting _ _ _ (duplicates h i)))
  own-fit op.Fork = need-fit _ _ _ (λ q. granting _ _ _ (forks q))
  own-fit op.Exit = granting _ _ _ exits
  own-fit op.Execute = after-fit _ _ (λ at w. need-fit _ _ _ (λ p. need-fit _ _ _ (λ b. need-fit _ _ _ (λ l. granting _ _ _ (executes at w p b l)))))
  own-fit op.Symlink = symlink-fit
  own-fit op.ReadLink = after-fit _ _ (λ at w. need-fit _ _ _ (λ l. granting _ _ _ (reads_link at w l)))
  own-fit op.Rename = rename-fit
  own-fit op.Unknown = refusing _ _

  pub permitted : Fit Permit (decide K v c)
  unfolding decide
  permitted = need-fit _ _ _ (λ u. need-fit _ _ _ (λ f. fit-map (λ n o e p. record { used = u; formed = f; passed = p }) (own-fit (operation c))))

-- ---- a borrowing read that is granted is a read that is, of at most 512 bytes

module _ (K : Fixed) (v : View) (p : Pid) (i : Fd) (n : ℕ) where
  pub record Borrowed (value : ℕ) (o : Output) (e : Effect) : Type 0 where
    pub small : leb n BLOCK ≡ true
    pub permit : Permit K v (read_of p i n) value o e

  pub borrow-permitted : Fit Borrowed (decide_borrow K v p i n)
  unfolding decide_borrow decide_own operation_of form_ok
  borrow-permitted = need-fit _ _ _ (λ u. need-fit _ _ _ (λ s.
      fit-map (λ value o e h. record { small = s; permit = record { used = u; formed = refl; passed = h } })
      (subst (λ m. Fit (Passed K v (read_of p i n) op.Read) (decide_read K.policy K.rom v.tree.file v.open_files v.desc p (subject_of v.proc p) i m)) (length-zeros n) (own-fit K v (read_of p i n) op.Read))))
