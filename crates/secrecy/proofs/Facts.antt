-- What the soundness test says of a store, as facts.
use mathlib.Core.Path.{◌≡◌, refl}
use mathlib.Core.Bool.{Bool, true, false, cond}
use mathlib.Core.List.{List}
use mathlib.Core.Logic.{◌≢◌}
use Prim.Native.Nat.{ℕ, ◌+◌, ◌*◌, ◌≤◌, ◌<◌}
use native.Mathlib.Omega.{arith}
use native.Mathlib.Decide.{dec_lt}
use borrow.Author.Tests.{eqb-true, leb-true, ltb-true}
use lib.Dec.{ltb}
use lib.ListN.{length, get_or, get_or-eq_default}
use Rattle.rules.specs.Layout.{SLOTS, BLOCK, FILE_WIDTH, PROCESSES, PROCESS_WIDTH, PROCESS_DESCRIPTOR, LABELS, LABEL_MAX, FILE_KIND, FILE_LABEL, FILE_LENGTH, PLAIN, DESCRIPTORS}
use Rattle.rules.specs.Store.{Store, Fixed, view, tab, desc_of}
use Rattle.rules.specs.Rom.{seen, seen_file}
use Rattle.rules.specs.Sound.{sound, store_sound, slots_sized, sizes_sound, tree_sound, tables_sound, slot_sound, access_sound, fields_sound, record_sound, kind_sound, plain_sound}
use Rattle.rules.proofs.Scans.{all-at}
use Rattle.rules.proofs.Seen.{seen_stored, factory-label}
use Rattle.rules.proofs.Tests.{test, both}
use Rattle.secrecy.proofs.Fit.{Based}

-- no descriptor over 7 holds anything
desc-eight : (P : List ℕ) (p i : ℕ) → desc_of P p i ≢ 0 → i < DESCRIPTORS
unfolding desc_of
desc-eight P p i ne = go (ltb i DESCRIPTORS) refl ne
  where
    go : (t : Bool) → ltb i DESCRIPTORS ≡ t → cond t (get_or P (PROCESS_WIDTH * p + (PROCESS_DESCRIPTOR + i)) 0) 0 ≢ 0 → i < DESCRIPTORS
    go true e h = ltb-true i DESCRIPTORS e
    go false e h = absurd (h refl)

module _ (K : Fixed) (s : Store) (h : sound K s ≡ true) where
  parts : (sizes_sound s ≡ true) × (tables_sound (view s) ≡ true)
  unfolding sound store_sound
  parts = let w = both _ _ (test 2 _ h) in (w.0, test 0 _ w.1)

  pub files-size : length s.files ≡ SLOTS * FILE_WIDTH
  unfolding sizes_sound slots_sized
  files-size = eqb-true _ _ (test 0 _ (test 0 _ parts.0))

  pub processes-size : length s.processes ≡ PROCESSES * PROCESS_WIDTH
  unfolding sizes_sound
  processes-size = eqb-true _ _ (test 2 _ parts.0)

  tree-sound : tree_sound (view s).tree (view s).open_files ≡ true
  unfolding tables_sound
  tree-sound = test 0 _ parts.1

  pub based : Based (seen K.rom (view s))
  unfolding tree_sound seen_file
  based = record { root = test 0 _ tree-sound; eight = desc-eight s.processes }

  slot-sound : (t : ℕ) → t < SLOTS → slot_sound (view s).tree (view s).open_files t ≡ true
  unfolding tree_sound
  slot-sound t lt = all-at (slot_sound (view s).tree (view s).open_files) 0 SLOTS (test 2 _ tree-sound) t (omega arith) lt

  record-sound : (t : ℕ) → t < SLOTS → record_sound (view s).tree.file t ≡ true
  unfolding slot_sound
  record-sound t lt = test 0 _ (slot-sound t lt)

  -- every program label is one of the sixteen
  pub small-label : (t : ℕ) → seen_file (tab FILE_WIDTH s.files) t FILE_LABEL < LABELS
  unfolding record_sound fields_sound access_sound
  small-label t = go (dec_lt t SLOTS)
    where
      go : Dec (t < SLOTS) → seen_file (tab FILE_WIDTH s.files) t FILE_LABEL < LABELS
      go (yes lt) =
          let l : tab FILE_WIDTH s.files t FILE_LABEL ≤ LABEL_MAX = leb-true _ _ (test 2 _ (test 1 _ (test 0 _ (record-sound t lt)))) in
          rw (seen_stored (tab FILE_WIDTH s.files) t FILE_LABEL lt) (omega arith)
      go (no ge) = let z : seen_file (tab FILE_WIDTH s.files) t FILE_LABEL ≡ 0 = factory-label (tab FILE_WIDTH s.files) t (omega arith) in omega arith

  module _ (f : ℕ) (plain : tab FILE_WIDTH s.files f FILE_KIND ≡ PLAIN) where
    -- a plain file is in one of the slots
    pub plain-slot : f < SLOTS
    plain-slot = go (dec_lt f SLOTS)
      where
        go : Dec (f < SLOTS) → f < SLOTS
        go (yes lt) = lt
        go (no ge) =
            let z : tab FILE_WIDTH s.files f FILE_KIND ≡ 0 = get_or-eq_default s.files 0 (omega (arith, files-size)) in
            absurd (omega arith)

    plain-sound : plain_sound (view s).tree (view s).open_files f ≡ true
    unfolding slot_sound kind_sound
    plain-sound = rw plain at (test 2 _ (slot-sound f plain-slot))

    -- and has at most 512 bytes
    pub plain-length : tab FILE_WIDTH s.files f FILE_LENGTH ≤ BLOCK
    unfolding plain_sound
    plain-length = leb-true _ _ (test 0 _ plain-sound)
