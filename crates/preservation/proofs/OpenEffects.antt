-- Effects on open files: open, truncate, duplicate, seek and read, write; change bits; execute. Each leaves sound tables.
use mathlib.Core.Path.{◌≡◌, refl, ap, ◌∙◌}
use mathlib.Core.Bool.{cond}
use mathlib.Core.List.{List, [], ◌∷◌}
use Prim.Native.Nat.{ℕ, ◌+◌, ◌-◌, ◌≤◌, ◌<◌, max}
use native.Mathlib.Omega.{arith}
use native.Mathlib.Decide.{dec_lt}
use lib.Dec.{ltb}
use lib.ListN.{length, get_or}
use borrow.Author.Tests.{eq-eqb, lt-ltb, le-ltb}
use Rattle.rules.specs.Layout.{SLOTS, BLOCK, OPEN_FILES, PROCESSES, DESCRIPTORS, BITS_MAX, LABEL_MAX, MODE_MAX}
use Rattle.rules.specs.Layout.{FILE_KIND, FILE_BITS, FILE_LENGTH, FILE_VERSION, OPEN_SLOT, OPEN_OFFSET, OPEN_REFERENCES, PROCESS_USED, PROCESS_LABEL, FREE, PLAIN, LINK}
use Rattle.rules.specs.Store as rules
use Rattle.rules.specs.Store.{words, Store, change, view, ofd_of, up, zeros, apply_all, file_word, open_word, proc_word}
use Rattle.rules.specs.Rights.{MODE_READ}
use Rattle.rules.specs.DecidePaths.{truncated}
use Rattle.rules.specs.Effects.{open_changes, truncate_changes, duplicate_changes, store_changes}
use Rattle.rules.specs.declared.ids.Slot.{Slot}
use Rattle.rules.specs.declared.ids.Pid.{Pid}
use Rattle.rules.specs.declared.ids.Fd.{Fd}
use Rattle.rules.specs.declared.decision.NewOpen.{NewOpen}
use Rattle.rules.specs.declared.decision.Placement.{Placement}
use Rattle.rules.proofs.Lists.{length-zeros}
use Rattle.preservation.proofs.Tests.{upd}
use Rattle.preservation.proofs.Tables.{Tables, over_row, file_to, bytes_to, open_to, proc_to}
use Rattle.preservation.proofs.Sound.{Sound}
use Rattle.preservation.proofs.Words.{up_is, up-most, references-most}
use Rattle.preservation.proofs.OneWord.{held, Held, seek-sound, bits-sound}
use Rattle.preservation.proofs.Remake.{remade}
use Rattle.preservation.proofs.Plain.{wrote, wrote-sound, cut_row, truncated-sound}
use Rattle.preservation.proofs.Open.{open_row, handed, open-sound}
use Rattle.preservation.proofs.Processes.{shared, shared-sound, execute-sound}
use Rattle.preservation.proofs.FlatList.{upd-twice, get_or-zeros}
use Rattle.preservation.proofs.StoreChanges.{tables_of, Has, has-file_word, has-clear_to, has-bytes_to, has-open_word, has-open_row, has-open_to, has-desc_to, has-proc_word}
use Rattle.preservation.proofs.SoundStore.{SoundStore, kept}

-- store t has the tables m, and they are sound
pub record Leaves (t : Store) (m : Tables) : Type 0 where
  pub has : Has t m
  pub sound : Sound m

pub leaves-sound : {t : Store} {m : Tables} → Leaves t m → SoundStore t
leaves-sound {t} {m} l = kept t m l.has l.sound

pub its-tables : (s : Store) → SoundStore s → Has s (tables_of s)
its-tables s h = record { sized = h.sized; is = refl }

-- the caller is a process in use
pub record Caller (m : Tables) (p : Pid) : Type 0 where
  pub small : p.0 < PROCESSES
  pub used : m.proc p.0 PROCESS_USED ≡ 1

-- ---- open

pub record Opens (m : Tables) (p : Pid) (n : NewOpen) : Type 0 where
  pub caller : Caller m p
  pub fd-small : n.fd.0 < DESCRIPTORS
  pub fd-free : m.desc p.0 n.fd.0 ≡ 0
  pub ofd-small : n.ofd.0 < OPEN_FILES
  pub ofd-free : m.open_files n.ofd.0 OPEN_REFERENCES ≡ 0
  pub plain : n.slot.0 < SLOTS → m.file n.slot.0 FILE_KIND ≡ PLAIN
  pub reading : (n.slot.0 < SLOTS → ⊥) → n.mode.0 ≡ MODE_READ.0
  pub mode-least : 0 < n.mode.0
  pub mode-most : n.mode.0 ≤ MODE_MAX

abbrev pub with_open : Pid → NewOpen → Tables → Tables
with_open p n m = handed p.0 n.fd.0 (n.ofd.0 + 1) n.ofd.0 (open_row n.slot.0 n.mode.0 0 1) m

pub open-leaves : (s : Store) → SoundStore s → (p : Pid) (n : NewOpen) → Opens (tables_of s) p n → Leaves (apply_all (open_changes p n) s) (with_open p n (tables_of s))
unfolding open_changes apply_all handed
open-leaves s h p n o = record {
  has = rw (up_is n.ofd.0 (omega (arith, o.ofd-small)))
      (has-desc_to (has-open_to (its-tables s h) n.ofd.0 (n.slot.0 ∷ n.mode.0 ∷ 0 ∷ 1 ∷ []) o.ofd-small refl) p.0 n.fd.0 (n.ofd.0 + 1) o.caller.small o.fd-small);
  sound = open-sound SLOTS (tables_of s) h.tables p.0 n.fd.0 n.ofd.0 n.slot.0 n.mode.0 o.caller.small o.fd-small o.ofd-small
      (λ z. omega (arith, o.caller.used, z)) o.fd-free o.ofd-free o.plain o.reading o.mode-least o.mode-most;
}

-- ---- an open that truncates

abbrev pub cut_to : Slot → Tables → Tables → Tables
cut_to s m n = remade s.0 (cut_row (m.file s.0) (up (m.file s.0 FILE_VERSION))) (λ _. 0) n

pub truncate-leaves : (s : Store) → SoundStore s → (p : Pid) (n : NewOpen) → Opens (tables_of s) p n → n.slot.0 < SLOTS →
    Leaves (apply_all (truncate_changes p n (truncated (view s).tree.file n.slot)) s) (cut_to n.slot (tables_of s) (with_open p n (tables_of s)))
unfolding truncate_changes open_changes apply_all handed tables_of
truncate-leaves s h p n o hs = record {
  has = has-clear_to w.has n.slot.0 (words (truncated (view s).tree.file n.slot)) hs refl;
  sound = truncated-sound SLOTS (with_open p n (tables_of s)) w.sound n.slot.0 (up ((tables_of s).file n.slot.0 FILE_VERSION)) (o.plain hs) (up-most ((tables_of s).file n.slot.0 FILE_VERSION));
}
  where
    w : Leaves (apply_all (open_changes p n) s) (with_open p n (tables_of s))
    w = open-leaves s h p n o

-- ---- an open file that is held

pub record Holds (m : Tables) (p : Pid) (i : Fd) (e : ℕ) : Type 0 where
  pub caller : Caller m p
  pub fd-small : i.0 < DESCRIPTORS
  pub there : m.desc p.0 i.0 ≡ e + 1

pub held-open : (s : Store) → SoundStore s → (p : Pid) (i : Fd) (e : ℕ) → Holds (tables_of s) p i e → Held (tables_of s) e
held-open s h p i e o = held SLOTS (tables_of s) h.tables p.0 i.0 e o.caller.small o.fd-small o.there

-- ---- seek; read moves the offset too

pub move-leaves : (s : Store) → SoundStore s → (e v : ℕ) → Held (tables_of s) e → v ≤ BLOCK → Leaves (apply_all (open_word e OPEN_OFFSET v ∷ []) s) (open_to e OPEN_OFFSET v (tables_of s))
unfolding apply_all
move-leaves s h e v o l = record {
  has = has-open_word (its-tables s h) e OPEN_OFFSET v o.small (omega arith);
  sound = seek-sound SLOTS (tables_of s) h.tables e v o.open-refs l;
}

-- ---- duplicate

pub duplicate-leaves : (s : Store) → SoundStore s → (p : Pid) (i j : Fd) (e : ℕ) → Holds (tables_of s) p i e → j.0 < DESCRIPTORS → (tables_of s).desc p.0 j.0 ≡ 0 →
    Leaves (apply_all (duplicate_changes p j (ofd_of e) (up ((tables_of s).open_files e OPEN_REFERENCES))) s) (shared p.0 j.0 e (tables_of s))
unfolding duplicate_changes apply_all shared handed
duplicate-leaves s h p i j e o hj f = record {
  has = rw (up_is e (omega (arith, u.small)), up_is ((tables_of s).open_files e OPEN_REFERENCES) (omega (arith, references-most SLOTS (tables_of s) h.tables e u.small)))
      (has-open_row (has-desc_to (its-tables s h) p.0 j.0 (e + 1) o.caller.small hj) e OPEN_REFERENCES ((tables_of s).open_files e OPEN_REFERENCES + 1) u.small (omega arith));
  sound = shared-sound SLOTS (tables_of s) h.tables p.0 i.0 p.0 j.0 e o.caller.small o.fd-small o.caller.small hj (λ z. omega (arith, o.caller.used, z)) o.there f;
}
  where
    u : Held (tables_of s) e
    u = held-open s h p i e o

-- ---- change bits

pub bits-leaves : (s : Store) → SoundStore s → (i v : ℕ) → i < SLOTS → ((tables_of s).file i FILE_KIND ≡ FREE → ⊥) → ((tables_of s).file i FILE_KIND ≡ LINK → ⊥) → v ≤ BITS_MAX → Leaves (apply_all (file_word i FILE_BITS v ∷ []) s) (file_to i FILE_BITS v (tables_of s))
unfolding apply_all
bits-leaves s h i v hi u n l = record {
  has = has-file_word (its-tables s h) i FILE_BITS v hi (omega arith);
  sound = bits-sound SLOTS (tables_of s) h.tables i v u n l;
}

-- ---- execute

pub execute-leaves : (s : Store) → SoundStore s → (p : Pid) (l : ℕ) → Caller (tables_of s) p → l ≤ LABEL_MAX → Leaves (apply_all (proc_word p.0 PROCESS_LABEL l ∷ []) s) (proc_to p.0 PROCESS_LABEL l (tables_of s))
unfolding apply_all
execute-leaves s h p l o hl = record {
  has = has-proc_word (its-tables s h) p.0 PROCESS_LABEL l o.small (omega arith);
  sound = execute-sound SLOTS (tables_of s) h.tables p.0 l o.small o.used hl;
}

-- ---- write: the gap filled with 0, then the bytes

pub record Writes (m : Tables) (bytes : List ℕ) (w : Placement) : Type 0 where
  pub ofd : Held m w.ofd.0
  pub on : m.open_files w.ofd.0 OPEN_SLOT ≡ w.slot.0
  pub small : w.slot.0 < SLOTS
  pub end_is : w.end ≡ m.file w.slot.0 FILE_LENGTH
  pub gap_is : w.gap ≡ w.at - w.end
  pub fits : w.at + length bytes ≤ BLOCK
  pub length-is : w.length ≡ max w.end (w.at + length bytes)
  pub version-is : w.version ≡ up (m.file w.slot.0 FILE_VERSION)
  pub offset-is : w.offset ≡ w.at + length bytes

abbrev pub written : Tables → List ℕ → Placement → ℕ → ℕ
written m bytes w = over_row (over_row (m.byte w.slot.0) w.end (zeros w.gap)) w.at bytes

-- Two stores into one block are one, whose row is `written`: past the new length neither has put a byte, and the old block was 0 there.
pub write-leaves : (s : Store) → SoundStore s → (bytes : List ℕ) (w : Placement) → Writes (tables_of s) bytes w →
    Leaves (apply_all (store_changes bytes w) s) (open_to w.ofd.0 OPEN_OFFSET w.offset (wrote w.slot.0 (written (tables_of s) bytes w) w.length w.version (tables_of s)))
unfolding store_changes apply_all wrote
write-leaves s h bytes w o = record {
  has = has-open_word (has-file_word (has-file_word (record { sized = b.sized; is = b.is ∙ once }) w.slot.0 FILE_LENGTH w.length small (omega arith)) w.slot.0 FILE_VERSION w.version small (omega arith)) w.ofd.0 OPEN_OFFSET w.offset o.ofd.small (omega arith);
  sound = seek-sound SLOTS (wrote w.slot.0 g w.length w.version m)
      (wrote-sound SLOTS m h.tables w.slot.0 g w.length w.version plain (omega (arith, o.length-is, o.fits, end-most)) past (rw o.version-is (up-most (m.file w.slot.0 FILE_VERSION))))
      w.ofd.0 w.offset o.ofd.open-refs (omega (arith, o.offset-is, o.fits));
}
  where
    m : Tables
    m = tables_of s

    g : ℕ → ℕ
    g = written (tables_of s) bytes w

    small : w.slot.0 < SLOTS
    small = o.small

    plain : (tables_of s).file w.slot.0 FILE_KIND ≡ PLAIN
    plain = rw o.on at ((h.tables.opens.open-files w.ofd.0 o.ofd.small).plain o.ofd.open-refs (rw o.on small))

    end-most : w.end ≤ BLOCK
    end-most = rw o.end_is ((h.tables.slots.blocks w.slot.0 small).length_most (λ z. omega (arith, plain, z)))

    gap : Has (change (rules.bytes_to w.slot.0 w.end (zeros w.gap)) s) (bytes_to w.slot.0 (over_row ((tables_of s).byte w.slot.0) w.end (zeros w.gap)) (tables_of s))
    gap = has-bytes_to (its-tables s h) w.slot.0 w.end (zeros w.gap) small (omega (arith, length-zeros w.gap, o.gap_is, o.fits, end-most))

    b : Has (change (rules.bytes_to w.slot.0 w.at bytes) (change (rules.bytes_to w.slot.0 w.end (zeros w.gap)) s))
        (bytes_to w.slot.0 (over_row (upd (tables_of s).byte w.slot.0 (over_row ((tables_of s).byte w.slot.0) w.end (zeros w.gap)) w.slot.0) w.at bytes)
        (bytes_to w.slot.0 (over_row ((tables_of s).byte w.slot.0) w.end (zeros w.gap)) (tables_of s)))
    b = has-bytes_to gap w.slot.0 w.at bytes small o.fits

    once : bytes_to w.slot.0 (over_row (upd (tables_of s).byte w.slot.0 (over_row ((tables_of s).byte w.slot.0) w.end (zeros w.gap)) w.slot.0) w.at bytes)
        (bytes_to w.slot.0 (over_row ((tables_of s).byte w.slot.0) w.end (zeros w.gap)) (tables_of s)) ≡ bytes_to w.slot.0 (written (tables_of s) bytes w) (tables_of s)
    once = rw (eq-eqb w.slot.0 w.slot.0 refl) (ap (λ (f : ℕ → ℕ → ℕ). record { file = (tables_of s).file; byte = f; open_files = (tables_of s).open_files; proc = (tables_of s).proc; desc = (tables_of s).desc })
        (upd-twice (tables_of s).byte w.slot.0 (over_row ((tables_of s).byte w.slot.0) w.end (zeros w.gap)) (written (tables_of s) bytes w)))

    past : (k : ℕ) → k < BLOCK → w.length ≤ k → written (tables_of s) bytes w k ≡ 0
    past k hk l =
        rw (le-ltb k w.at (omega (arith, o.length-is, l)), le-ltb k (w.at + length bytes) (omega (arith, o.length-is, l)), le-ltb k w.end (omega (arith, o.length-is, l)))
        (behind (dec_lt k (w.end + length (zeros w.gap))))
      where
        behind : Dec (k < w.end + length (zeros w.gap)) → cond (ltb k (w.end + length (zeros w.gap))) (get_or (zeros w.gap) (k - w.end) 0) ((tables_of s).byte w.slot.0 k) ≡ 0
        behind (yes q) = rw (lt-ltb k (w.end + length (zeros w.gap)) q) (get_or-zeros w.gap (k - w.end))
        behind (no q) = rw (le-ltb k (w.end + length (zeros w.gap)) (omega arith))
            ((h.tables.slots.blocks w.slot.0 small).past-zero (λ z. omega (arith, plain, z)) k hk (omega (arith, o.length-is, l, o.end_is)))
