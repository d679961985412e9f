-- A plain file's bytes, length and version change: write, and truncation.
use mathlib.Core.Path.{◌≡◌, refl}
use Prim.Native.Nat.{ℕ, ◌≤◌, ◌<◌}
use native.Mathlib.Omega.{arith}
use borrow.Author.Tests.{ne_eqb}
use Rattle.preservation.proofs.Tests.{split, upd, upd2}
use Rattle.preservation.proofs.Tables.{Tables, col, dirent_row, file_row, file_to, bytes_to}
use Rattle.preservation.proofs.Sound.{All, SoundBut, naming}
use Rattle.preservation.proofs.Rows.{length_to, version-to}
use Rattle.preservation.proofs.Remake.{naming-same, remade}
use Rattle.preservation.proofs.Columns.{same-columns}
use Rattle.rules.specs.Layout.{SLOTS, BLOCK, DIRENTS, FILE_KIND, FILE_LENGTH, FILE_VERSION, FREE, PLAIN, DIRECTORY, WORD_MAX}

unfoldable pub wrote : (s : ℕ) → (ℕ → ℕ) → (z t : ℕ) → Tables → Tables
wrote s g z t m = file_to s FILE_VERSION t (file_to s FILE_LENGTH z (bytes_to s g m))

-- Slot s is no directory: the groups that read kinds, link counts or open files stand, and no entry is among the bytes that change.
pub wrote-sound : (x : ℕ) (m : Tables) → SoundBut x m → (s : ℕ) (g : ℕ → ℕ) (z t : ℕ) → m.file s FILE_KIND ≡ PLAIN → z ≤ BLOCK → All BLOCK (λ b. z ≤ b → g b ≡ 0) → t ≤ WORD_MAX → SoundBut x (wrote s g z t m)
unfolding wrote
wrote-sound x m h s g z t k hz g0 ht = record {
  slots = record {
    files = version-to (upd2 m.file s FILE_LENGTH z) (length_to m.file h.slots.files s z used) s t used ht;
    root-kind = h.slots.root-kind;
    root-links = h.slots.root-links;
    blocks = λ i hi. split i s
        (λ q e. rw e (record { length_most = λ _. hz; past-zero = λ _. g0; tail-zero = λ a. absurd (plain i q a) }))
        (λ q e. rw e (h.slots.blocks i hi));
    texts = λ i hi a. split i s (λ q e. absurd (omega (arith, rw q at a))) (λ q e. rw e (h.slots.texts i hi a));
  };
  tree = record {
    dirs = λ i hi a. rw (ne_eqb i s (λ q. plain i q a)) (h.tree.dirs i hi a);
    lengths = λ i hi a. rw (ne_eqb i s (λ q. plain i q a)) (h.tree.lengths i hi a);
    links = λ i hi n. rw (naming-same (col m.file FILE_KIND) (col m.file FILE_KIND) (dirent_row m.byte) (dirent_row (upd m.byte s g)) i (same i)) (h.tree.links i hi n);
    depths = record {
      depth = h.tree.depths.depth;
      depth-root = h.tree.depths.depth-root;
      depth-most = h.tree.depths.depth-most;
      depth-step = λ u hu a. rw (ne_eqb u s (λ q. plain u q a)) (h.tree.depths.depth-step u hu a);
    };
    no-rom = rw (ne_eqb 0 s (λ q. plain 0 q h.slots.root-kind)) h.tree.no-rom;
  };
  live = h.live;
  opens = h.opens;
  procs = h.procs;
}
  where
    used : m.file s FILE_KIND ≡ FREE → ⊥
    used a = omega arith

    plain : (i : ℕ) → i ≡ s → m.file i FILE_KIND ≡ DIRECTORY → ⊥
    plain i q a = omega (arith, rw q at a)

    same : (n i j : ℕ) → i < SLOTS → j < DIRENTS → naming (col m.file FILE_KIND) (dirent_row (upd m.byte s g)) n i j ≡ naming (col m.file FILE_KIND) (dirent_row m.byte) n i j
    same n i j _ _ = split i s (λ q e. rw (ne_eqb (m.file i FILE_KIND) DIRECTORY (plain i q))) (λ q e. rw e)

-- ---- truncated: a record with length 0 and no bytes

abbrev pub cut_row : (ℕ → ℕ) → (t : ℕ) → ℕ → ℕ
cut_row row t = file_row (upd (upd (upd row FILE_KIND PLAIN) FILE_LENGTH 0) FILE_VERSION t)

pub truncated-sound : (x : ℕ) (m : Tables) → SoundBut x m → (s t : ℕ) → m.file s FILE_KIND ≡ PLAIN → t ≤ WORD_MAX → SoundBut x (remade s (cut_row (m.file s) t) (λ _. 0) m)
unfolding remade
truncated-sound x m h s t k ht = unfold wrote in same-columns x (wrote s (λ _. 0) 0 t m) (upd m.file s (cut_row (m.file s) t))
    (λ i. split i s (λ q e. rw (e, q, k)) (λ q e. rw e)) (wrote-sound x m h s (λ _. 0) 0 t k (omega arith) (λ b _ _. refl) ht)
