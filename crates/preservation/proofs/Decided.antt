-- What every granted call has passed gives, on a sound store, the facts that its effect needs.
use mathlib.Core.Path.{◌≡◌, refl, sym, subst, ap}
use mathlib.Core.Bool.{Bool, true, false≢true}
use mathlib.Core.List.{List, [], ◌∷◌}
use Prim.Native.Nat.{ℕ, ◌+◌, ◌≤◌, ◌<◌}
use native.Mathlib.Omega.{arith}
use native.Mathlib.Decide.{dec_lt}
use lib.Dec.{eqb}
use lib.ListN.{length}
use borrow.Author.Tests.{eqb-true, eqb-false, eq-eqb, ltb-true, leb-true}
use Rattle.std.specs.Prelude.{Option}
use Rattle.rules.specs.Layout.{SLOTS, BLOCK, DIRENTS, OPEN_FILES, PROCESSES, DESCRIPTORS, KIND_MAX, USER_MAX, BITS_MAX, LABEL_MAX, PROCESS_GROUP, GROUP_MAX}
use Rattle.rules.specs.Layout.{FILE_KIND, FILE_LABEL, FILE_LENGTH, FILE_LINKS, FILE_VERSION, OPEN_SLOT, OPEN_MODE, OPEN_OFFSET, PROCESS_USER, PROCESS_LABEL, FREE, PLAIN, DIRECTORY, LINK, NAMES}
use Rattle.rules.specs.Choice.{some}
use Rattle.rules.specs.Store.{Store, Fixed, View, view, slot, is_slot, is_dirent, up}
use Rattle.rules.specs.Paths.{names, last_name, path_ok}
use Rattle.rules.specs.Rights.{MODE_READ, moved, writes}
use Rattle.rules.specs.Rom.{seen, length_in}
use Rattle.rules.specs.Walk.{is_plain, is_link}
use Rattle.rules.specs.Calls.{Call, operation, form_ok, path_below_root, new_file_ok}
use Rattle.rules.specs.Checks.{free_slot, free_ofd, free_fd, free_pid, unnaming}
use Rattle.rules.specs.DecidePaths.{new_file, new_link, depth_ok}
use Rattle.rules.specs.Decide.{asker, write_at, decide, decide_borrow}
use Rattle.rules.specs.Step.{read_of}
use Rattle.rules.specs.declared.ids.Slot.{Slot}
use Rattle.rules.specs.declared.ids.Pid.{Pid}
use Rattle.rules.specs.declared.ids.Fd.{Fd}
use Rattle.rules.specs.declared.rights.Bits.{Bits}
use Rattle.rules.specs.declared.rights.OpenMode.{OpenMode}
use Rattle.rules.specs.declared.rights.OpenFlags.{OpenFlags}
use Rattle.rules.specs.declared.request.Subject.{Subject}
use Rattle.rules.specs.declared.request.Operation.{Operation}
use Rattle.rules.specs.declared.decision.Location.{Location}
use Rattle.rules.specs.declared.decision.NewFile.{NewFile}
use Rattle.rules.specs.declared.decision.Output.{Output}
use Rattle.rules.specs.declared.decision.Effect.{Effect}
use Rattle.rules.proofs.Passed.{Fit, fit-map, Passed, Permit, permitted, Walked, Followed, Opening, Naming, Renaming, Holding, Mode, Makes, newest, entry_in, ofd, mode, count, borrow-permitted}
use Rattle.rules.proofs.Passed as passed
use Rattle.rules.proofs.Seen.{is-slot, seen_stored, row-stored, factory-label, releasing-seen}
use Rattle.rules.proofs.Tests.{test}
use Rattle.preservation.specs.Claims.{EndsAt}
use Rattle.preservation.proofs.Tests.{upd, means-imp, means-or, means-not, means-eq, means-le}
use Rattle.preservation.proofs.OneWord.{Held}
use Rattle.preservation.proofs.Tables.{over_row}
use Rattle.preservation.proofs.Words.{up-most, offsets-most, length_most}
use Rattle.preservation.proofs.StoreChanges.{tables_of}
use Rattle.preservation.proofs.SoundStore.{SoundStore, AllSound, past}
use Rattle.preservation.proofs.OpenEffects.{Caller, Opens, held-open}
use Rattle.preservation.proofs.Sound.{All, File}
use Rattle.preservation.proofs.Rows.{file-used}
use Rattle.preservation.proofs.Dirents.{Fits}
use Rattle.preservation.proofs.Remake.{Fresh}
use Rattle.preservation.proofs.Create.{free-zeros, fresh-empty, fresh-link}
use Rattle.preservation.proofs.NameEffects as effects
use Rattle.preservation.proofs.NameEffects.{new_row, Creates}
use Rattle.preservation.proofs.PathNames.{path-good, below_root, last-good}
use Rattle.preservation.proofs.NewName.{new-name, other_name}
use Rattle.preservation.proofs.Numbers.{NumberOf, number_of, GoodMode, ModeSays, mode-says, bits_most}
use Rattle.preservation.proofs.Prompts.{plain-below, length-in}
use Rattle.preservation.proofs.Reach.{reach-used}
use Rattle.preservation.proofs.Walked.{Stands, NewEntry, kind-is, path-followed, path-found, new-found}
use Rattle.preservation.proofs.Granted.{Granting, nothing, opens, truncates, creates, symlinks, unlinks, removes, links, renames, transfers, changes_bits, closes, stores, reads, seeks, duplicates, forks, exits, executes}
use Rattle.preservation.proofs.Granted.{in_use_lem, holds, slot-free, ofd-free, fd-free, pid-free, dirent-free, may_write, opens-reading, moved-small}

-- ---- on a sound store

module _ (K : Fixed) (s : Store) (a : AllSound K s) (c : Call) (u : Caller (tables_of s) c.process) where
  abbrev h : SoundStore s
  h = a.store

  -- what the rules see, and who asks
  abbrev v : View
  v = seen K.rom (view s)

  abbrev who : Subject
  who = asker v c

  abbrev R : List ℕ
  R = K.rom

  abbrev Q : List ℕ
  Q = K.policy

  -- a stored record is seen as it is
  row_is : (y : Slot) → y.0 < SLOTS → v.tree.file y.0 ≡ (view s).tree.file y.0
  row_is y l = row-stored (view s).tree.file y.0 l

  is-kind : (k : ℕ) (y : Slot) → y.0 < SLOTS → eqb (v.tree.file y.0 FILE_KIND) k ≡ true → (tables_of s).file y.0 FILE_KIND ≡ k
  is-kind k y l t = kind-is R s h Q who y l k (eqb-true (v.tree.file y.0 FILE_KIND) k t)

  no-directory : (y : Slot) → y.0 < SLOTS → some (is_plain v.tree.file y ∷ is_link v.tree.file y ∷ []) ≡ true → (tables_of s).file y.0 FILE_KIND ≡ DIRECTORY → ⊥
  unfolding tables_of
  no-directory y l t z =
      let e = seen_stored (view s).tree.file y.0 FILE_KIND l in
      omega (arith, z, e, (means-or (means-eq (v.tree.file y.0 FILE_KIND) PLAIN) (means-eq (v.tree.file y.0 FILE_KIND) LINK)).holds t (λ q. omega (arith, z, e, q)))

  followed : path_ok c.path ≡ true → (at : Location) → Followed K v c at → Stands R s h Q who at
  followed g at w = path-followed R s h Q who c.path (path-good c.path g) at w

  -- an entry, not the root
  named : path_below_root c.path ≡ true → (at : Location) → Walked K v c at → at.slot.0 < SLOTS → effects.Names s h at.dir at.dirent.0 at.slot
  named g at w = let p = below_root c.path g in (path-found R s h Q who c.path p.0 p.1 at w).named

  -- what becomes of a stored file that loses a name
  unnaming-is : (y : Slot) → y.0 < SLOTS → unnaming v.tree.file (view s).open_files y ≡ unnaming (view s).tree.file (view s).open_files y
  unfolding unnaming
  unnaming-is y l = rw (row_is y l)

  -- ---- open

  mode-good : {m : OpenMode} {n : Option OpenFlags} {t : Bool} → ModeSays c.number n → Mode K v c m n t → GoodMode c.number m t
  unfolding ModeSays
  mode-good g e = subst (ModeSays c.number) e g

  reading : (at : Location) (m : OpenMode) → Opening K v c at m → (at.slot.0 < SLOTS → ⊥) → m.0 ≡ MODE_READ.0
  reading at m o = opens-reading v.tree.file who at.slot m o.allows.bits

  opened : (at : Location) (m : OpenMode) {t : Bool} → GoodMode c.number m t → Opening K v c at m → Opens (tables_of s) c.process (newest K v c at m)
  opened at m g o = record {
    caller = u;
    fd-small = ltb-true (free_fd (view s).desc c.process).0 DESCRIPTORS o.fd-free;
    fd-free = fd-free s h c.process o.fd-free;
    ofd-small = ltb-true (free_ofd (view s).open_files).0 OPEN_FILES o.ofd-free;
    ofd-free = ofd-free s h o.ofd-free;
    plain = λ l. is-kind PLAIN at.slot l o.plain;
    reading = reading at m o;
    mode-least = g.least;
    mode-most = g.most;
  }

  -- what is opened is of the store or a prompt
  opened-within : path_ok c.path ≡ true → (at : Location) (m : OpenMode) → Opening K v c at m → at.slot.0 < past R
  opened-within g at m o = (followed g at o.walked).within (plain-below (view s).tree.file at.slot.0 (eqb-true (v.tree.file at.slot.0 FILE_KIND) PLAIN o.plain))

  -- and what is truncated is of the store
  truncated-stored : (at : Location) (m : OpenMode) {t : Bool} → GoodMode c.number m t → t ≡ true → Opening K v c at m → at.slot.0 < SLOTS
  truncated-stored at m g e o = by (dec_lt at.slot.0 SLOTS)
    where
      by : Dec (at.slot.0 < SLOTS) → at.slot.0 < SLOTS
      by (yes l) = l
      by (no n) = absurd (omega (arith, g.writing e, reading at m o n))

  -- ---- a new name

  named_in : (p : List ℕ) (at : Location) → Naming K v c p at → at.dir.0 < SLOTS
  named_in p at m = may_write v.tree.file who at.dir m.allows.bits

  -- a name that a directory has not, in place of one that it has
  another-name : path_below_root c.«data» ≡ true → (old at : Location) → Renaming K v c old at → effects.Names s h at.dir old.dirent.0 old.slot →
      Fits (tables_of s) at.dir.0 old.dirent.0 (effects.row_of (last_name (names c.«data»)) old.slot) (up ((tables_of s).file at.dir.0 FILE_VERSION)) old.slot.0
  another-name g old at m n =
      let w = below_root c.«data» g in
      let hd = may_write v.tree.file who at.dir m.enters.bits in
      let f = new-found R s h Q who c.«data» w.0 w.1 at m.walked hd in
      other_name R s h at.dir hd f.kind (last_name (names c.«data»)) old.dirent.0 old.slot (last-good c.«data» w.0 w.1) n (rw f.is-entry at m.absent)
      (up ((tables_of s).file at.dir.0 FILE_VERSION)) (up-most ((tables_of s).file at.dir.0 FILE_VERSION))

  -- a name that goes to another directory, into a free entry
  entering : (old at : Location) → Renaming K v c old at → is_dirent (entry_in K v c at) ≡ true → Naming K v c c.«data» at
  entering old at m i = record { walked = m.walked; absent = m.absent; allows = m.enters; dirent-free = i }

  new-entry : (p : List ℕ) → path_below_root p ≡ true → (at : Location) → Naming K v c p at → NewEntry R s h Q who (last_name (names p)) at
  new-entry p g at m = let w = below_root p g in new-found R s h Q who p w.0 w.1 at m.walked (named_in p at m)

  naming : (p : List ℕ) → path_below_root p ≡ true → (at : Location) → Naming K v c p at → (y : Slot) → y.0 < SLOTS → effects.Naming (tables_of s) (last_name (names p)) at.dir (entry_in K v c at).0 y
  naming p g at m y hy =
      let w = below_root p g in
      let f = new-entry p g at m in
      new-name R s h at.dir (named_in p at m) f.kind (last_name (names p)) (entry_in K v c at).0 y (last-good p w.0 w.1)
      (ltb-true (entry_in K v c at).0 DIRENTS m.dirent-free) (dirent-free s h at.dir.0 m.dirent-free) (rw f.is-entry at m.absent) hy

  abbrev new : Slot
  new = free_slot v.tree.file

  -- the record of a file that is new in the lowest free slot, before it has its name
  abbrev row : Location → NewFile → ℕ → ℕ
  row at n = upd (new_row s h who n at.dir new) FILE_LINKS 0

  -- made in that slot, whose bytes were 0, with the bytes g
  created : path_below_root c.path ≡ true → (at : Location) → Naming K v c c.path at → is_slot new ≡ true → (n : NewFile) → (n.kind ≡ FREE → ⊥) → n.kind ≤ KIND_MAX → n.bits.0 ≤ BITS_MAX → (n.kind ≡ DIRECTORY → at.depth ≤ NAMES) →
      (g : ℕ → ℕ) → (File (row at n) → All BLOCK (λ b. (tables_of s).byte new.0 b ≡ 0) → Fresh (row at n) g) → Creates s h (last_name (names c.path)) who at.dir (entry_in K v c at).0 new n g
  created k at m t n used known bits deep g fresh = record {
    naming = naming c.path k at m new hy;
    small = hy;
    free = slot-free s h t;
    fresh = fresh (unfold tables_of in file-used used known user-most group-most bits (h.tables.slots.files at.dir.0 (named_in c.path at m)).label-most (h.tables.slots.files new.0 hy).version-most) (free-zeros (tables_of s) h.tables new.0 hy (slot-free s h t));
    used = used;
    not-deep = λ z. omega (arith, deep z, f.depth);
  }
    where
      f : NewEntry R s h Q who (last_name (names c.path)) at
      f = new-entry c.path k at m

      hy : new.0 < SLOTS
      hy = is-slot new t

      user-most : (tables_of s).proc c.process.0 PROCESS_USER ≤ USER_MAX
      user-most = (h.tables.procs c.process.0 u.small).user-most

      group-most : (tables_of s).proc c.process.0 PROCESS_GROUP ≤ GROUP_MAX
      group-most = (h.tables.procs c.process.0 u.small).group-most

  -- what a call makes, but for a link, is a plain file or a directory, at a path that is not the root
  record Making (kind : ℕ) : Type 0 where
    path : path_below_root c.path ≡ true
    some : 0 < kind
    known : kind < LINK

  making : {o : Operation} {kind : ℕ} → form_ok o c.number c.path c.«data» ≡ true → Makes K v c o kind → Making kind
  unfolding form_ok new_file_ok
  making f passed.plain = record { path = test 1 _ f; some = omega arith; known = omega arith }
  making f passed.directory = record { path = test 1 _ f; some = omega arith; known = omega arith }

  made : (kind : ℕ) → Making kind → (at : Location) (b : Bits) → b.0 ≤ BITS_MAX → Naming K v c c.path at → depth_ok kind at ≡ true → is_slot new ≡ true →
      Creates s h (last_name (names c.path)) who at.dir (entry_in K v c at).0 new (new_file kind b) ((tables_of s).byte new.0)
  made kind k at b hb m d t = created k.path at m t (new_file kind b) (λ z. omega (arith, k.some, z)) (omega (arith, k.known)) hb
      ((means-imp (means-eq kind DIRECTORY) (means-le at.depth NAMES)).holds d) ((tables_of s).byte new.0) (λ f z. fresh-empty f (λ q. omega (arith, k.known, q)) refl refl z)

  text-made : path_below_root c.path ≡ true → path_ok c.«data» ≡ true → (at : Location) → Naming K v c c.path at → is_slot new ≡ true →
      Creates s h (last_name (names c.path)) who at.dir (entry_in K v c at).0 new (new_link (length c.«data»)) (over_row ((tables_of s).byte new.0) 0 c.«data»)
  text-made k ok at m t = created k at m t (new_link (length c.«data»)) (λ z. omega arith) (omega arith) (omega arith) (λ z. absurd (omega arith)) (over_row ((tables_of s).byte new.0) 0 c.«data»)
      (λ f z. fresh-link c.«data» f refl refl refl refl ok z)

  -- ---- descriptors

  abbrev mine : ℕ
  mine = (ofd K v c).0

  open_at : Holding K v c → Held (tables_of s) mine
  open_at t = held-open s h c.process c.fd mine (holds s h c.process c.fd u t)

  within : Held (tables_of s) mine → (tables_of s).open_files mine OPEN_OFFSET + count K v c ≤ BLOCK
  within o =
      let y = slot ((view s).open_files mine OPEN_SLOT) in
      let l : (tables_of s).open_files mine OPEN_OFFSET ≤ BLOCK = offsets-most SLOTS (tables_of s) h.tables mine o.small in
      let b : length_in R v.tree.file y ≤ BLOCK = length-in R (view s).tree.file y a.part (λ q. unfold tables_of in length_most SLOTS (tables_of s) h.tables y.0 q) in
      unfold tables_of in (omega (arith, l, b))

  -- what is open for writing is of the store
  write-stored : Held (tables_of s) mine → writes (mode K v c) ≡ true → (view s).open_files mine OPEN_SLOT < SLOTS
  unfolding writes tables_of
  write-stored o t = by (dec_lt ((view s).open_files mine OPEN_SLOT) SLOTS)
    where
      by : Dec ((view s).open_files mine OPEN_SLOT < SLOTS) → (view s).open_files mine OPEN_SLOT < SLOTS
      by (yes l) = l
      by (no n) = absurd (false≢true (rw (eq-eqb ((view s).open_files mine OPEN_MODE) MODE_READ.0 ((h.tables.opens.open-files mine o.small).reading o.open-refs n)) at t))

  -- ---- execute

  label-most : (y : ℕ) → Dec (y < SLOTS) → v.tree.file y FILE_LABEL ≤ LABEL_MAX
  unfolding tables_of
  label-most y (yes l) = rw (seen_stored (view s).tree.file y FILE_LABEL l) (h.tables.slots.files y l).label-most
  label-most y (no n) = omega (arith, factory-label (view s).tree.file y (omega arith))

  relabelled : (y : ℕ) → moved Q who.label (v.tree.file y FILE_LABEL) ≤ LABEL_MAX
  unfolding tables_of
  relabelled y = moved-small Q ((view s).proc c.process.0 PROCESS_LABEL) (v.tree.file y FILE_LABEL) a.policy (h.tables.procs c.process.0 u.small).label-most (label-most y (dec_lt y SLOTS))

  -- ---- every call

  -- Each case takes the facts of what is looked at from the checks passed, from the form of the paths, and from the tables' soundness. What is changed is of the
  -- store, so that its record as seen is the stored one.
  facts : (o : Operation) (n : ℕ) (out : Output) (e : Effect) → NumberOf c.call o → form_ok o c.number c.path c.«data» ≡ true → Passed K v c o n out e → Granting K s h c n out e
  unfolding form_ok NumberOf
  facts o n out e k f (passed.opens at m t i p q) = opens (newest K v c at m) (opened at m (mode-good (mode-says c.number) i) p) (opened-within (test 1 _ f) at m p)
  facts o n out e k f (passed.opens_truncating at m t i p q) =
      let g = mode-good (mode-says c.number) i in
      let hs = truncated-stored at m g (test 0 _ q) p in
      rw (row_is at.slot hs) (truncates (newest K v c at m) (opened at m g p) hs (k, (g.over (test 0 _ q), rw p.walked (unfold EndsAt in refl))))
  facts o n out e k f (passed.creates _ kind at b i q m d t) =
      rw (row_is at.dir (named_in c.path at m), row_is new (is-slot new t)) (creates at.dir _ _ (new_file kind b) (made kind (making f i) at b (bits_most c.number b q) m d t))
  facts o n out e k f (passed.unlinks at w p r y) =
      let hy = is-slot at.slot y in
      rw (row_is at.dir (named f at w hy).dir-small, unnaming-is at.slot hy) (unlinks at.dir at.dirent.0 at.slot (named f at w hy) (no-directory at.slot hy p))
  facts o n out e k f (passed.removes at w p r y z) =
      let hy = is-slot at.slot y in
      rw (row_is at.dir (named f at w hy).dir-small, row_is at.slot hy)
      (removes at.dir at.dirent.0 at.slot (named f at w hy) (is-kind DIRECTORY at.slot hy p) (unfold tables_of in rw (row_is at.slot hy) at (eqb-true (v.tree.file at.slot.0 FILE_LENGTH) 0 z)))
  facts o n out e k f (passed.links old at w p y m) =
      let hy = is-slot old.slot y in
      rw (row_is at.dir (named_in c.«data» at m), row_is old.slot hy) (links at.dir _ old.slot (naming c.«data» (test 1 _ f) at m old.slot hy) hy (is-kind PLAIN old.slot hy p))
  facts o n out e k f (passed.renames_in old at m q) =
      let hy = is-slot old.slot m.stored in
      let w = named (test 0 _ f) old m.found hy in
      let d : at.dir ≡ old.dir = ap slot (sym (eqb-true old.dir.0 at.dir.0 q)) in
      rw (row_is old.dir w.dir-small) (renames old.dir old.dirent.0 old.slot w (rw d at (another-name (test 1 _ f) old at m (rw d w))))
  facts o n out e k f (passed.transfers old at m q p i) =
      let hy = is-slot old.slot m.stored in
      let w = named (test 0 _ f) old m.found hy in
      let g = entering old at m i in
      rw (row_is old.dir w.dir-small, row_is at.dir (named_in c.«data» at g))
      (transfers old.dir old.dirent.0 at.dir _ old.slot w (λ z. (means-not (means-eq (v.tree.file old.slot.0 FILE_KIND) DIRECTORY)).holds p (rw (row_is old.slot hy) (unfold tables_of in z)))
      (naming c.«data» (test 1 _ f) at g old.slot hy) (λ z. eqb-false old.dir.0 at.dir.0 q (sym z)))
  facts o n out e k f (passed.lists at w p r i) = nothing 1 _
  facts o n out e k f (passed.lists_past at w p r i) = nothing 0 _
  facts o n out e k f (passed.changes_bits at b q w p y l) =
      let hy = is-slot at.slot y in
      let g = followed (test 1 _ f) at w in
      changes_bits at.slot b hy (reach-used (tables_of s) h.tables (g.reach hy)) (λ z. g.not-link (rw (row_is at.slot hy) (unfold tables_of in z))) (bits_most c.number b q) (rw (row_is at.slot hy) at p) k
  facts o n out e k f (passed.describes at w) = nothing 0 _
  facts o n out e k f (passed.closes t) =
      rw (releasing-seen (view s).tree.file (view s).open_files (view s).desc c.process c.fd) (closes c.fd u (holds s h c.process c.fd u t).fd-small)
  facts o n out e k f (passed.fetches t r y) = reads mine (count K v c) (open_at t) (within (open_at t))
  facts o n out e k f (passed.stores_nothing t r y z) = nothing 0 _
  facts o n out e k f (passed.stores t r y z l) =
      let hs = write-stored (open_at t) r in
      rw (row_is (slot ((view s).open_files mine OPEN_SLOT)) hs)
      (stores mine _ (open_at t) hs (leb-true (write_at v.tree.file (view s).open_files (ofd K v c) + length c.«data») BLOCK l) (k, (omega (arith, eqb-false (length c.«data») 0 z), refl)))
  facts o n out e k f (passed.seeks t) = seeks mine c.number (open_at t) (leb-true c.number BLOCK f)
  facts o n out e k f (passed.duplicates t i) =
      duplicates c.fd (free_fd (view s).desc c.process) mine (holds s h c.process c.fd u t) (ltb-true (free_fd (view s).desc c.process).0 DESCRIPTORS i) (fd-free s h c.process i)
  facts o n out e k f (passed.forks q) = forks (free_pid (view s).proc) u (ltb-true (free_pid (view s).proc).0 PROCESSES q) (pid-free s h q)
  facts o n out e k f passed.exits = exits u
  facts o n out e k f (passed.executes at w p b l) = executes _ u (relabelled at.slot.0)
  facts o n out e k f (passed.symlinks at m t) =
      rw (row_is at.dir (named_in c.path at m), row_is new (is-slot new t)) (symlinks at.dir _ _ (text-made (test 0 _ f) (test 1 _ f) at m t))
  facts o n out e k f (passed.reads_link at w p) = nothing _ _

module _ (K : Fixed) (s : Store) (a : AllSound K s) where
  pub grants : (c : Call) (n : ℕ) (o : Output) (e : Effect) → Permit K (seen K.rom (view s)) c n o e → Granting K s a.store c n o e
  grants c n o e p = facts K s a c (in_use_lem s a.store c.process p.used) (operation c) n o e (number_of c.call) p.formed p.passed

  -- on a sound store, every granted decision has its facts
  pub decide-fit : (c : Call) → Fit (Granting K s a.store c) (decide K (seen K.rom (view s)) c)
  decide-fit c = fit-map (grants c) (permitted K (seen K.rom (view s)) c)

  -- and every granted borrowing read those of the read that it is
  pub borrow-fit : (p : Pid) (i : Fd) (n : ℕ) → Fit (Granting K s a.store (read_of p i n)) (decide_borrow K (seen K.rom (view s)) p i n)
  borrow-fit p i n = fit-map (λ m o e b. grants (read_of p i n) m o e b.permit) (borrow-permitted K (seen K.rom (view s)) p i n)
