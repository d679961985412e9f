-- What a granted decision gives on a sound store: for each effect, the facts that its checks and the store's soundness give.
use mathlib.Core.Path.{◌≡◌, refl, sym, ◌∙◌}
use mathlib.Core.Bool.{Bool, true, false, cond, not, false≢true}
use mathlib.Core.List.{List}
use Prim.Native.Nat.{ℕ, ◌+◌, ◌*◌, ◌≤◌, ◌<◌}
use native.Mathlib.Omega.{arith}
use native.Mathlib.Decide.{dec_lt}
use lib.Dec.{eqb}
use lib.ListN.{length, get_or, get_or-eq_default}
use borrow.Author.Tests.{eqb-true, eqb-false, ltb-true}
use Rattle.rules.specs.Layout.{SLOTS, BLOCK, DIRENTS, OPEN_FILES, PROCESSES, DESCRIPTORS, RIGHTS_SIZE, LABELS, NO_TRANSITION, BITS_MAX, LABEL_MAX}
use Rattle.rules.specs.Layout.{FILE_KIND, FILE_OWNER, FILE_LENGTH, FILE_LINKS, FILE_VERSION, OPEN_SLOT, OPEN_OFFSET, OPEN_REFERENCES, PROCESS_USED, FREE, PLAIN, DIRECTORY, LINK}
use Rattle.rules.specs.Scan.{all}
use Rattle.rules.specs.Store.{Store, Fixed, Table, view, slot, is_slot, is_pid, is_fd, ofd_of, is_ofd, entry, is_dirent, subject_of, up, plus}
use Rattle.rules.specs.Paths.{names, last_name}
use Rattle.rules.specs.Rights.{WRITE, READ_WRITE, MODE_READ, MODE_BOTH, TRUNCATE, mode_rights, asks_write, owns, transition, moved}
use Rattle.rules.specs.Directories.{is_empty, free_dirent}
use Rattle.rules.specs.Rom.{seen, seen_file}
use Rattle.rules.specs.Walk.{bits_allow, follow_path}
use Rattle.rules.specs.Sound.{policy_sound, right_sound, transition_sound}
use Rattle.rules.specs.Calls.{Call}
use Rattle.rules.specs.Checks.{in_use, held, ofd_held, free_slot, free_ofd, free_fd, free_pid, slot_free, ofd_free, fd_free, pid_free, gains, loses, unnaming, releasing}
use Rattle.rules.specs.Checks as checks
use Rattle.rules.specs.DecidePaths.{truncated, new_record, new_link}
use Rattle.rules.specs.Decide.{placement, asker}
use Rattle.rules.specs.declared.ids.Slot.{Slot}
use Rattle.rules.specs.declared.ids.Pid.{Pid}
use Rattle.rules.specs.declared.ids.Fd.{Fd}
use Rattle.rules.specs.declared.rights.Bits.{Bits}
use Rattle.rules.specs.declared.rights.OpenMode.{OpenMode}
use Rattle.rules.specs.declared.request.Subject.{Subject}
use Rattle.rules.specs.declared.decision.NewOpen.{NewOpen}
use Rattle.rules.specs.declared.decision.NewFile.{NewFile}
use Rattle.rules.specs.declared.decision.Output.{Output}
use Rattle.rules.specs.declared.decision.Output.TheVariants as output
use Rattle.rules.specs.declared.decision.Effect.{Effect}
use Rattle.rules.specs.declared.decision.Effect.TheVariants as effect
use Rattle.rules.proofs.Scans.{all-at, first_passes}
use Rattle.rules.proofs.Seen.{seen_stored, write-stored}
use Rattle.preservation.specs.Claims.{EndsAt}
use Rattle.preservation.proofs.Tests.{split, means-every, means-and, means-last, means-or, means-eq, means-le, means-lt, means-test}
use Rattle.preservation.proofs.OneWord.{Held}
use Rattle.preservation.proofs.Tables.{over_row}
use Rattle.preservation.proofs.Dirents.{Fits}
use Rattle.preservation.proofs.StoreChanges.{tables_of, desc-past}
use Rattle.preservation.proofs.SoundStore.{SoundStore, past}
use Rattle.preservation.proofs.OpenEffects.{Caller, Opens, Holds}
use Rattle.preservation.proofs.NameEffects.{row_of, Naming, Creates, Names}

-- ---- the facts

-- call c writes to slot f, or truncates it: what `WritesTo` and `Truncates` claim of a granted call
abbrev pub AsksWrite : Store → Call → ℕ → Type 0
AsksWrite s c f = (c.call ≡ 12) × ((0 < length c.«data») × ((view s).open_files (ofd_held (view s).desc c.process c.fd).0 OPEN_SLOT ≡ f))

abbrev pub AsksTruncation : Fixed → Store → Call → ℕ → Type 0
AsksTruncation K s c f = let v = seen K.rom (view s) in (c.call ≡ 1) × ((TRUNCATE < c.number) × EndsAt (follow_path v.tree K.policy (asker v c) c.path) f)

module _ (K : Fixed) (s : Store) (h : SoundStore s) (c : Call) where
  pub data Granting : ℕ → Output → Effect → Type 0 where
    nothing : (n : ℕ) (o : Output) → Granting n o effect.Nothing
    opens : (n : NewOpen) → Opens (tables_of s) c.process n → n.slot.0 < past K.rom → Granting n.fd.0 output.Nothing (effect.Opened n)
    truncates : (n : NewOpen) → Opens (tables_of s) c.process n → n.slot.0 < SLOTS → AsksTruncation K s c n.slot.0 → Granting n.fd.0 output.Nothing (effect.Truncated n (truncated (view s).tree.file n.slot))
    creates : (d : Slot) (i y : ℕ) (new : NewFile) → Creates s h (last_name (names c.path)) (subject_of (view s).proc c.process) d i (slot y) new ((tables_of s).byte y) →
        Granting y output.Nothing (effect.Created (gains (view s).tree.file d (entry i)) (slot y) (new_record (view s).tree.file (subject_of (view s).proc c.process) new d (slot y)))
    symlinks : (d : Slot) (i y : ℕ) → Creates s h (last_name (names c.path)) (subject_of (view s).proc c.process) d i (slot y) (new_link (length c.«data»)) (over_row ((tables_of s).byte y) 0 c.«data») →
        Granting y output.Nothing (effect.Symlinked (gains (view s).tree.file d (entry i)) (slot y) (new_record (view s).tree.file (subject_of (view s).proc c.process) (new_link (length c.«data»)) d (slot y)))
    unlinks : (d : Slot) (i : ℕ) (y : Slot) → Names s h d i y → ((tables_of s).file y.0 FILE_KIND ≡ DIRECTORY → ⊥) →
        Granting 0 output.Nothing (effect.Unlinked (loses (view s).tree.file d (entry i)) (unnaming (view s).tree.file (view s).open_files y))
    removes : (d : Slot) (i : ℕ) (y : Slot) → Names s h d i y → (tables_of s).file y.0 FILE_KIND ≡ DIRECTORY → (tables_of s).file y.0 FILE_LENGTH ≡ 0 →
        Granting 0 output.Nothing (effect.Removed (loses (view s).tree.file d (entry i)) y (checks.freed (view s).tree.file y))
    links : (d : Slot) (i : ℕ) (y : Slot) → Naming (tables_of s) (last_name (names c.«data»)) d i y → y.0 < SLOTS → (tables_of s).file y.0 FILE_KIND ≡ PLAIN →
        Granting 0 output.Nothing (effect.Linked (gains (view s).tree.file d (entry i)) y (up ((view s).tree.file y.0 FILE_LINKS)))
    changes_bits : (y : Slot) (b : Bits) → y.0 < SLOTS → ((tables_of s).file y.0 FILE_KIND ≡ FREE → ⊥) → ((tables_of s).file y.0 FILE_KIND ≡ LINK → ⊥) → b.0 ≤ BITS_MAX → owns (subject_of (view s).proc c.process) ((view s).tree.file y.0 FILE_OWNER) ≡ true → c.call ≡ 8 →
        Granting 0 output.Nothing (effect.BitsChanged y b)
    closes : (i : Fd) → Caller (tables_of s) c.process → i.0 < DESCRIPTORS → Granting 0 output.Nothing (effect.Closed i (releasing (view s).tree.file (view s).open_files (view s).desc c.process i))
    stores : (e at : ℕ) → Held (tables_of s) e → (view s).open_files e OPEN_SLOT < SLOTS → at + length c.«data» ≤ BLOCK → AsksWrite s c ((view s).open_files e OPEN_SLOT) →
        Granting (length c.«data») output.Nothing (effect.Stored (placement (view s).tree.file (ofd_of e) (slot ((view s).open_files e OPEN_SLOT)) at (length c.«data»)))
    reads : (e n : ℕ) → Held (tables_of s) e → (tables_of s).open_files e OPEN_OFFSET + n ≤ BLOCK → Granting n (output.Bytes (slot ((view s).open_files e OPEN_SLOT)) ((view s).open_files e OPEN_OFFSET) n) (effect.Moved (ofd_of e) (plus ((view s).open_files e OPEN_OFFSET) n))
    seeks : (e n : ℕ) → Held (tables_of s) e → n ≤ BLOCK → Granting n output.Nothing (effect.Moved (ofd_of e) n)
    duplicates : (i j : Fd) (e : ℕ) → Holds (tables_of s) c.process i e → j.0 < DESCRIPTORS → (tables_of s).desc c.process.0 j.0 ≡ 0 →
        Granting j.0 output.Nothing (effect.Duplicated j (ofd_of e) (up ((view s).open_files e OPEN_REFERENCES)))
    forks : (q : Pid) → Caller (tables_of s) c.process → q.0 < PROCESSES → (tables_of s).proc q.0 PROCESS_USED ≡ 0 →
        Granting q.0 output.Nothing (effect.Forked q (subject_of (view s).proc c.process))
    exits : Caller (tables_of s) c.process → Granting 0 output.Nothing effect.Exited
    renames : (d : Slot) (i : ℕ) (y : Slot) → Names s h d i y → Fits (tables_of s) d.0 i (row_of (last_name (names c.«data»)) y) (up ((tables_of s).file d.0 FILE_VERSION)) y.0 →
        Granting 0 output.Nothing (effect.Renamed (checks.renames (view s).tree.file d (entry i)) y)
    transfers : (d : Slot) (i : ℕ) (d' : Slot) (j : ℕ) (y : Slot) → Names s h d i y → ((tables_of s).file y.0 FILE_KIND ≡ DIRECTORY → ⊥) → Naming (tables_of s) (last_name (names c.«data»)) d' j y → (d'.0 ≡ d.0 → ⊥) →
        Granting 0 output.Nothing (effect.Transferred (loses (view s).tree.file d (entry i)) (gains (view s).tree.file d' (entry j)) y)
    executes : (l : ℕ) → Caller (tables_of s) c.process → l ≤ LABEL_MAX → Granting 0 output.Nothing (effect.Relabelled l)

-- ---- tests and what they say of the tables

module _ (s : Store) (h : SoundStore s) where
  -- a record past the last slot is 0
  pub used-small : (i : ℕ) → ((tables_of s).file i FILE_KIND ≡ FREE → ⊥) → i < SLOTS
  unfolding tables_of
  used-small i n = by (dec_lt i SLOTS)
    where
      by : Dec (i < SLOTS) → i < SLOTS
      by (yes l) = l
      by (no l) = absurd (n (get_or-eq_default s.files 0 (omega (arith, h.sized.files-size))))

  pub in_use_lem : (p : Pid) → in_use (view s).proc p ≡ true → Caller (tables_of s) p
  unfolding in_use tables_of
  in_use_lem p e = let w = (means-every (means-and (means-lt p.0 PROCESSES) (means-last (means-eq ((view s).proc p.0 PROCESS_USED) 1)))).holds e in record { small = w.0; used = w.1 }

  pub holds : (p : Pid) (i : Fd) → Caller (tables_of s) p → held (view s).desc p i ≡ true → Holds (tables_of s) p i (ofd_held (view s).desc p i).0
  unfolding held tables_of
  holds p i u e = record { caller = u; fd-small = small (dec_lt i.0 DESCRIPTORS); there = omega (arith, some-file) }
    where
      not-not : (b : Bool) → not b ≡ true → b ≡ false
      not-not true q = absurd (false≢true q)
      not-not false q = refl

      some-file : (view s).desc p.0 i.0 ≡ 0 → ⊥
      some-file = eqb-false ((view s).desc p.0 i.0) 0 (not-not (eqb ((view s).desc p.0 i.0) 0) e)

      small : Dec (i.0 < DESCRIPTORS) → i.0 < DESCRIPTORS
      small (yes l) = l
      small (no l) = absurd (some-file (desc-past s.processes p.0 i.0 (omega arith)))

  -- ---- the lowest free ones

  pub slot-free : is_slot (free_slot (seen_file (view s).tree.file)) ≡ true → (tables_of s).file (free_slot (seen_file (view s).tree.file)).0 FILE_KIND ≡ FREE
  unfolding tables_of
  slot-free t =
      let y = (free_slot (seen_file (view s).tree.file)).0 in
      let l : y < SLOTS = ltb-true y SLOTS t in
      sym (seen_stored (view s).tree.file y FILE_KIND l) ∙ eqb-true (seen_file (view s).tree.file y FILE_KIND) FREE (unfold slot_free in first_passes (slot_free (seen_file (view s).tree.file)) SLOTS l)

  pub ofd-free : is_ofd (free_ofd (view s).open_files) ≡ true → (tables_of s).open_files (free_ofd (view s).open_files).0 OPEN_REFERENCES ≡ 0
  unfolding tables_of
  ofd-free t = eqb-true ((view s).open_files (free_ofd (view s).open_files).0 OPEN_REFERENCES) 0 (unfold ofd_free in first_passes (ofd_free (view s).open_files) OPEN_FILES (ltb-true (free_ofd (view s).open_files).0 OPEN_FILES t))

  pub fd-free : (p : Pid) → is_fd (free_fd (view s).desc p) ≡ true → (tables_of s).desc p.0 (free_fd (view s).desc p).0 ≡ 0
  unfolding tables_of
  fd-free p t = eqb-true ((view s).desc p.0 (free_fd (view s).desc p).0) 0 (unfold fd_free in first_passes (fd_free (view s).desc p) DESCRIPTORS (ltb-true (free_fd (view s).desc p).0 DESCRIPTORS t))

  pub pid-free : is_pid (free_pid (view s).proc) ≡ true → (tables_of s).proc (free_pid (view s).proc).0 PROCESS_USED ≡ 0
  unfolding tables_of
  pid-free t = eqb-true ((view s).proc (free_pid (view s).proc).0 PROCESS_USED) 0 (unfold pid_free in first_passes (pid_free (view s).proc) PROCESSES (ltb-true (free_pid (view s).proc).0 PROCESSES t))

  pub dirent-free : (d : ℕ) → is_dirent (free_dirent ((view s).tree.shown d)) ≡ true → is_empty ((view s).tree.shown d) (free_dirent ((view s).tree.shown d)).0 ≡ true
  dirent-free d t = first_passes (is_empty ((view s).tree.shown d)) DIRENTS (ltb-true (free_dirent ((view s).tree.shown d)).0 DIRENTS t)

-- ---- what may be written is of the store

pub may_write : (file : Table) (who : Subject) (y : Slot) → bits_allow file who y WRITE ≡ true → y.0 < SLOTS
may_write file who y e = write-stored file who y WRITE (unfold asks_write in refl) e

either-asks : (b : Bool) → asks_write (cond b READ_WRITE WRITE) ≡ true
unfolding asks_write
either-asks true = refl
either-asks false = refl

mode-asks : (m : OpenMode) → eqb m.0 MODE_READ.0 ≡ false → asks_write (mode_rights m) ≡ true
unfolding mode_rights
mode-asks m t = rw t (either-asks (eqb m.0 MODE_BOTH.0))

-- so a prompt is opened in mode 1 only
pub opens-reading : (file : Table) (who : Subject) (y : Slot) (m : OpenMode) → bits_allow file who y (mode_rights m) ≡ true → (y.0 < SLOTS → ⊥) → m.0 ≡ MODE_READ.0
opens-reading file who y m e n = split m.0 MODE_READ.0 (λ q _. q) (λ q t. absurd (n (write-stored file who y (mode_rights m) (mode-asks m t) e)))

-- ---- a label moves to a label

pub moved-small : (Q : List ℕ) (l m : ℕ) → policy_sound Q ≡ true → l ≤ LABEL_MAX → m ≤ LABEL_MAX → moved Q l m ≤ LABEL_MAX
unfolding moved policy_sound transition transition_sound
moved-small Q l m e hl hm = by (eqb (transition Q l m) NO_TRANSITION) refl
  where
    t : ℕ
    t = get_or Q (RIGHTS_SIZE + (LABELS * l + m)) 0

    parts : all (transition_sound Q) RIGHTS_SIZE (RIGHTS_SIZE + RIGHTS_SIZE) ≡ true
    parts = ((means-every (means-and (means-test (eqb (length Q) (RIGHTS_SIZE + RIGHTS_SIZE))) (means-and (means-test (all (right_sound Q) 0 RIGHTS_SIZE)) (means-last (means-test (all (transition_sound Q) RIGHTS_SIZE (RIGHTS_SIZE + RIGHTS_SIZE))))))).holds e).1.1

    either : (t ≤ LABEL_MAX → ⊥) → t ≡ NO_TRANSITION
    either = unfold transition_sound in ((means-or (means-le (get_or Q (RIGHTS_SIZE + (LABELS * l + m)) 0) LABEL_MAX) (means-eq (get_or Q (RIGHTS_SIZE + (LABELS * l + m)) 0) NO_TRANSITION)
        ).holds (all-at (transition_sound Q) RIGHTS_SIZE (RIGHTS_SIZE + RIGHTS_SIZE) parts (RIGHTS_SIZE + (LABELS * l + m)) (omega arith) (omega arith)))

    by : (b : Bool) → eqb (get_or Q (RIGHTS_SIZE + (LABELS * l + m)) 0) NO_TRANSITION ≡ b → cond b l (get_or Q (RIGHTS_SIZE + (LABELS * l + m)) 0) ≤ LABEL_MAX
    by true q = hl
    by false q = label (dec_lt LABEL_MAX (get_or Q (RIGHTS_SIZE + (LABELS * l + m)) 0))
      where
        label : Dec (LABEL_MAX < get_or Q (RIGHTS_SIZE + (LABELS * l + m)) 0) → get_or Q (RIGHTS_SIZE + (LABELS * l + m)) 0 ≤ LABEL_MAX
        label (yes g) = absurd (eqb-false (get_or Q (RIGHTS_SIZE + (LABELS * l + m)) 0) NO_TRANSITION q (either (λ y. omega arith)))
        label (no g) = omega arith
