-- The soundness test means the record `Sound` of the store's tables.
use mathlib.Core.Path.{◌≡◌}
use mathlib.Core.Bool.{true}
use mathlib.Core.List.{List}
use Prim.Native.Nat.{ℕ, ◌*◌, ◌≤◌, ◌<◌}
use native.Mathlib.Omega.{arith}
use native.Mathlib.Decide.{dec_lt, ℕ_discrete}
use lib.ListN.{length, get_or}
use Rattle.rules.specs.Layout.{SLOTS, BLOCK, DIRENT_WIDTH, DIRENTS, NAME, OPEN_FILES, PROCESSES, DESCRIPTORS, FILE_WIDTH, OPEN_FILE_WIDTH, PROCESS_WIDTH, FILE_GROUP, PROCESS_GROUP, GROUP_MAX}
use Rattle.rules.specs.Layout.{FILE_KIND, FILE_OWNER, FILE_BITS, FILE_LABEL, FILE_LENGTH, FILE_LINKS, FILE_VERSION, OPEN_SLOT, OPEN_MODE, OPEN_OFFSET, OPEN_REFERENCES, PROCESS_USED, PROCESS_USER, PROCESS_LABEL, FREE, PLAIN}
use Rattle.rules.specs.Layout.{KIND_MAX, USER_MAX, BITS_MAX, LABEL_MAX, MODE_MAX, WORD_MAX}
use Rattle.rules.specs.Store.{Store, Table}
use Rattle.rules.specs.Rights.{MODE_READ, bits_known, mode_of, mode_kept}
use Rattle.rules.specs.Directories.{dirent_at}
use Rattle.rules.specs.Sound.{slots_sized, sizes_sound, record_free, record_sound, dirent_sound, differs, is_new, entries_sound, dirents_sound, owners_free, owners_sound, access_free, access_sound, fields_sound, subject_free, subject_sound}
use Rattle.rules.specs.Sound.{open_free, on_plain_file, open_used, open_sound, desc_sound, desc_free, proc_free, proc_used, proc_sound}
use Rattle.rules.proofs.Ranges.{bits-known, mode-kept}
use Rattle.preservation.proofs.Tests.{Means, means-every, means-and, means-last, means-imp, means-cond, means-or3, means-eq, means-lt, means-le, means-not, means-test, means-all, means-same}
use Rattle.preservation.proofs.Tables.{col}
use Rattle.preservation.proofs.Sound.{All, File, Dirent, Directory, OpenFile, Process, same_row, name_count, holder_count}
use Rattle.preservation.proofs.Dirents.{same_row-sym}
use Rattle.preservation.proofs.StoreChanges.{Sized}
use Rattle.preservation.proofs.Shown.{means-zeros, means-dirent, means-empty, same_row_lem}
use Rattle.preservation.proofs.Counted.{names-counted, holders-counted}

-- ---- sizes

means-slots-sized : (s : Store) → Means (slots_sized s) ((length s.files ≡ SLOTS * FILE_WIDTH) × (length s.contents ≡ SLOTS * BLOCK))
unfolding slots_sized
means-slots-sized s = means-every (means-and (means-eq (length s.files) (SLOTS * FILE_WIDTH)) (means-last (means-eq (length s.contents) (SLOTS * BLOCK))))

pub means-sized : (s : Store) → Means (sizes_sound s) (Sized s)
unfolding sizes_sound
means-sized s = means-same
    (means-every (means-and (means-slots-sized s)
    (means-and (means-eq (length s.open_files) (OPEN_FILES * OPEN_FILE_WIDTH)) (means-last (means-eq (length s.processes) (PROCESSES * PROCESS_WIDTH))))))
    (λ w. record { files-size = w.0.0; contents-size = w.0.1; open-files-size = w.1.0; processes-size = w.1.1 })
    (λ w. ((w.files-size, w.contents-size), (w.open-files-size, w.processes-size)))

-- ---- bits and modes

means-bits : (n : ℕ) → Means (bits_known n) (n ≤ BITS_MAX)
means-bits n = rw bits-known (means-le n BITS_MAX)

means-mode : (n : ℕ) → Means (mode_kept (mode_of n)) ((1 ≤ n) × (n ≤ MODE_MAX))
means-mode n = rw mode-kept (means-every (means-and (means-le 1 n) (means-last (means-le n MODE_MAX))))

-- ---- a file's record

means-owners-free : (file : Table) (s : ℕ) → Means (owners_free file s) ((file s FILE_OWNER ≡ 0) × (file s FILE_GROUP ≡ 0))
unfolding owners_free
means-owners-free file s = means-every (means-and (means-eq (file s FILE_OWNER) 0) (means-last (means-eq (file s FILE_GROUP) 0)))

means-access-free : (file : Table) (s : ℕ) → Means (access_free file s) (((file s FILE_OWNER ≡ 0) × (file s FILE_GROUP ≡ 0)) × ((file s FILE_BITS ≡ 0) × (file s FILE_LABEL ≡ 0)))
unfolding access_free
means-access-free file s = means-every (means-and (means-owners-free file s) (means-and (means-eq (file s FILE_BITS) 0) (means-last (means-eq (file s FILE_LABEL) 0))))

means-owners : (file : Table) (s : ℕ) → Means (owners_sound file s) ((file s FILE_OWNER ≤ USER_MAX) × (file s FILE_GROUP ≤ GROUP_MAX))
unfolding owners_sound
means-owners file s = means-every (means-and (means-le (file s FILE_OWNER) USER_MAX) (means-last (means-le (file s FILE_GROUP) GROUP_MAX)))

means-access : (file : Table) (s : ℕ) → Means (access_sound file s) (((file s FILE_OWNER ≤ USER_MAX) × (file s FILE_GROUP ≤ GROUP_MAX)) × ((file s FILE_BITS ≤ BITS_MAX) × (file s FILE_LABEL ≤ LABEL_MAX)))
unfolding access_sound
means-access file s = means-every (means-and (means-owners file s) (means-and (means-bits (file s FILE_BITS)) (means-last (means-le (file s FILE_LABEL) LABEL_MAX))))

pub means-record : (file : Table) (s : ℕ) → Means (record_sound file s) (File (file s))
unfolding record_sound fields_sound record_free
means-record file s = means-same
    (means-every (means-and (means-every (means-and (means-le (file s FILE_KIND) KIND_MAX) (means-and (means-access file s) (means-last (means-le (file s FILE_VERSION) WORD_MAX)))))
    (means-last (means-imp (means-eq (file s FILE_KIND) FREE)
    (means-every (means-and (means-access-free file s) (means-and (means-eq (file s FILE_LENGTH) 0) (means-last (means-eq (file s FILE_LINKS) 0)))))))))
    (λ w. let access = w.0.1.0 in record {
      kind-most = w.0.0;
      owner-most = access.0.0;
      group-most = access.0.1;
      bits_most = access.1.0;
      label-most = access.1.1;
      version-most = w.0.1.1;
      owner-zero = λ z. (w.1 z).0.0.0;
      group-zero = λ z. (w.1 z).0.0.1;
      bits-zero = λ z. (w.1 z).0.1.0;
      label-zero = λ z. (w.1 z).0.1.1;
      length-zero = λ z. (w.1 z).1.0;
      links-zero = λ z. (w.1 z).1.1;
    })
    (λ w. ((w.kind-most, (((w.owner-most, w.group-most), (w.bits_most, w.label-most)), w.version-most)), λ z. (((w.owner-zero z, w.group-zero z), (w.bits-zero z, w.label-zero z)), (w.length-zero z, w.links-zero z))))

-- ---- a directory's entries: D its bytes, rows its entries

module _ (file : Table) (D : List ℕ) (rows : ℕ → ℕ → ℕ) (agree : (i k : ℕ) → k < DIRENT_WIDTH → get_or (dirent_at D i) k 0 ≡ rows i k) where
  means-differs : (i j : ℕ) → Means (differs D i j) ((rows i NAME ≡ 0 → ⊥) → (rows j NAME ≡ 0 → ⊥) → same_row (rows i) (rows j) ≡ true → ⊥)
  unfolding differs
  means-differs i j = means-or3 (means-empty D rows agree i) (means-empty D rows agree j) (rw (same_row_lem D rows agree i j) (means-not (means-test (same_row (rows i) (rows j)))))

  means-new : (i : ℕ) → Means (is_new D i) (All i (λ j. (rows i NAME ≡ 0 → ⊥) → (rows j NAME ≡ 0 → ⊥) → same_row (rows i) (rows j) ≡ true → ⊥))
  unfolding is_new
  means-new i = means-all i (differs D i) (λ j. (rows i NAME ≡ 0 → ⊥) → (rows j NAME ≡ 0 → ⊥) → same_row (rows i) (rows j) ≡ true → ⊥) (means-differs i)

  means-entries : Means (entries_sound file D) (Directory (col file FILE_KIND) rows)
  unfolding entries_sound
  means-entries = means-same w
      (λ u. record { dirents = u.0; different = λ p hp q hq ne. apart u.1 p hp q hq ne (dec_lt p q) })
      (λ u. (u.dirents, λ i hi j hj. u.different i hi j (omega arith) (λ e. omega arith)))
    where
      w : Means (entries_sound file D) (All DIRENTS (λ i. Dirent (col file FILE_KIND) (rows i)) × All DIRENTS (λ i. All i (λ j. (rows i NAME ≡ 0 → ⊥) → (rows j NAME ≡ 0 → ⊥) → same_row (rows i) (rows j) ≡ true → ⊥)))
      w = means-every (means-and (means-all DIRENTS (dirent_sound file D) _ (means-dirent D rows agree file)) (means-last (means-all DIRENTS (is_new D) _ means-new)))

      apart : All DIRENTS (λ i. All i (λ j. (rows i NAME ≡ 0 → ⊥) → (rows j NAME ≡ 0 → ⊥) → same_row (rows i) (rows j) ≡ true → ⊥)) →
          (p : ℕ) → p < DIRENTS → (q : ℕ) → q < DIRENTS → (p ≡ q → ⊥) → Dec (p < q) → (rows p NAME ≡ 0 → ⊥) → (rows q NAME ≡ 0 → ⊥) → same_row (rows p) (rows q) ≡ true → ⊥
      apart u p hp q hq ne (yes l) a b e = u q hq p l b a (same_row-sym (rows p) (rows q) e)
      apart u p hp q hq ne (no l) a b e = u p hp q (omega arith) a b e

  pub means-dirents : (n : ℕ) → Means (dirents_sound file D n) (Directory (col file FILE_KIND) rows × ((n ≡ name_count rows) × ((b : ℕ) → b < length D → DIRENTS * DIRENT_WIDTH ≤ b → get_or D b 0 ≡ 0)))
  unfolding dirents_sound
  means-dirents n = rw (names-counted D rows agree) (means-every (means-and means-entries (means-and (means-eq n (name_count rows)) (means-last (means-zeros D (DIRENTS * DIRENT_WIDTH))))))

-- ---- open files and processes

pub means-open-file : (file open_files desc : Table) (e : ℕ) → Means (open_sound file open_files desc e)
    ((open_files e OPEN_REFERENCES ≡ holder_count desc e) × OpenFile (col file FILE_KIND) (open_files e))
unfolding open_sound open_free open_used on_plain_file
means-open-file file open_files desc e = means-same w
    (λ u. (
      u.0,
      record {
        slot-zero = λ z. (u.1.0 z).0;
        mode-zero = λ z. (u.1.0 z).1.0;
        offset-zero = λ z. (u.1.0 z).1.1;
        plain = λ n. (u.1.1 n).0.0;
        reading = λ n. (u.1.1 n).0.1;
        mode-least = λ n. (u.1.1 n).1.0.0;
        mode-most = λ n. (u.1.1 n).1.0.1;
        offset-most = λ n. (u.1.1 n).1.1;
      },
    ))
    (λ u. let o = u.1 in (u.0, ((λ z. (o.slot-zero z, (o.mode-zero z, o.offset-zero z))), λ n. ((o.plain n, o.reading n), ((o.mode-least n, o.mode-most n), o.offset-most n)))))
  where
    w : Means (open_sound file open_files desc e) ((open_files e OPEN_REFERENCES ≡ holder_count desc e)
        × ((open_files e OPEN_REFERENCES ≡ 0 → (open_files e OPEN_SLOT ≡ 0) × ((open_files e OPEN_MODE ≡ 0) × (open_files e OPEN_OFFSET ≡ 0)))
        × ((open_files e OPEN_REFERENCES ≡ 0 → ⊥) → ((open_files e OPEN_SLOT < SLOTS → file (open_files e OPEN_SLOT) FILE_KIND ≡ PLAIN) × ((open_files e OPEN_SLOT < SLOTS → ⊥) → open_files e OPEN_MODE ≡ MODE_READ.0)) × (((1 ≤ open_files e OPEN_MODE) × (open_files e OPEN_MODE ≤ MODE_MAX)) × (open_files e OPEN_OFFSET ≤ BLOCK)))))
    w = rw (holders-counted desc e) (means-every (means-and (means-eq (open_files e OPEN_REFERENCES) (holder_count desc e)) (means-last (means-cond (means-eq (open_files e OPEN_REFERENCES) 0)
        (means-every (means-and (means-eq (open_files e OPEN_SLOT) 0) (means-and (means-eq (open_files e OPEN_MODE) 0) (means-last (means-eq (open_files e OPEN_OFFSET) 0)))))
        (means-every (means-and (means-cond (means-lt (open_files e OPEN_SLOT) SLOTS) (means-eq (file (open_files e OPEN_SLOT) FILE_KIND) PLAIN) (means-eq (open_files e OPEN_MODE) MODE_READ.0)) (means-and (means-mode (open_files e OPEN_MODE)) (means-last (means-le (open_files e OPEN_OFFSET) BLOCK)))))))))

-- The test goes by whether the process is in use: of a free one the limits are left out, since its words are 0, and of a used one the zeros.
pub means-process : (proc desc : Table) (p : ℕ) → Means (proc_sound proc desc p) (Process (proc p) (desc p))
unfolding proc_sound proc_free subject_free proc_used subject_sound desc_free desc_sound
means-process proc desc p = means-same w (λ u. from u (ℕ_discrete (proc p PROCESS_USED) 0))
    (λ u. ((λ z. ((u.user-zero z, (u.group-zero z, u.label-zero z)), u.desc-zero z)), λ n. ((omega (arith, u.active-most, n)), ((u.user-most, (u.group-most, u.label-most)), u.desc-most))))
  where
    Parts : Type 0
    Parts = (proc p PROCESS_USED ≡ 0 → ((proc p PROCESS_USER ≡ 0) × ((proc p PROCESS_GROUP ≡ 0) × (proc p PROCESS_LABEL ≡ 0))) × All DESCRIPTORS (λ k. desc p k ≡ 0))
        × ((proc p PROCESS_USED ≡ 0 → ⊥) → (proc p PROCESS_USED ≡ 1) × (((proc p PROCESS_USER ≤ USER_MAX) × ((proc p PROCESS_GROUP ≤ GROUP_MAX) × (proc p PROCESS_LABEL ≤ LABEL_MAX))) × All DESCRIPTORS (λ k. desc p k ≤ OPEN_FILES)))

    w : Means (proc_sound proc desc p) Parts
    w = means-cond (means-eq (proc p PROCESS_USED) 0)
        (means-every (means-and (means-every (means-and (means-eq (proc p PROCESS_USER) 0) (means-and (means-eq (proc p PROCESS_GROUP) 0) (means-last (means-eq (proc p PROCESS_LABEL) 0)))))
        (means-last (means-all DESCRIPTORS (desc_free desc p) (λ k. desc p k ≡ 0) (λ k. means-eq (desc p k) 0)))))
        (means-every (means-and (means-eq (proc p PROCESS_USED) 1) (means-and (means-every (means-and (means-le (proc p PROCESS_USER) USER_MAX) (means-and (means-le (proc p PROCESS_GROUP) GROUP_MAX) (means-last (means-le (proc p PROCESS_LABEL) LABEL_MAX)))))
        (means-last (means-all DESCRIPTORS (desc_sound desc p) (λ k. desc p k ≤ OPEN_FILES) (λ k. means-le (desc p k) OPEN_FILES))))))

    from : Parts → Dec (proc p PROCESS_USED ≡ 0) → Process (proc p) (desc p)
    from u (yes z) = let a = u.0 z in record {
      active-most = omega arith;
      user-most = omega (arith, a.0.0);
      group-most = omega (arith, a.0.1.0);
      label-most = omega (arith, a.0.1.1);
      desc-most = λ k hk. omega (arith, a.1 k hk);
      user-zero = λ _. a.0.0;
      group-zero = λ _. a.0.1.0;
      label-zero = λ _. a.0.1.1;
      desc-zero = λ _. a.1;
    }
    from u (no n) = let a = u.1 n in record {
      active-most = omega (arith, a.0);
      user-most = a.1.0.0;
      group-most = a.1.0.1.0;
      label-most = a.1.0.1.1;
      desc-most = a.1.1;
      user-zero = λ z. absurd (n z);
      group-zero = λ z. absurd (n z);
      label-zero = λ z. absurd (n z);
      desc-zero = λ z. absurd (n z);
    }
