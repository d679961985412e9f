-- Changes of one word: seek, change bits.
use mathlib.Core.Path.{◌≡◌}
use Prim.Native.Nat.{ℕ, ◌+◌, ◌≤◌, ◌<◌}
use native.Mathlib.Omega.{arith}
use Rattle.preservation.proofs.Tests.{split, upd2-elim}
use Rattle.preservation.proofs.Tables.{Tables, col, file_to, open_to}
use Rattle.preservation.proofs.Sound.{SoundBut, OpenFile}
use Rattle.preservation.proofs.Rows.{bits-to, offset-to}
use Rattle.preservation.proofs.Counts.{holders-at}
use Rattle.rules.specs.Layout.{BLOCK, OPEN_FILES, PROCESSES, DESCRIPTORS, FILE_KIND, FILE_BITS, FREE, LINK, OPEN_OFFSET, OPEN_REFERENCES, BITS_MAX}

-- the open file that a descriptor holds is in use
pub record Held (m : Tables) (e : ℕ) : Type 0 where
  pub small : e < OPEN_FILES
  pub open-refs : m.open_files e OPEN_REFERENCES ≡ 0 → ⊥

pub held : (x : ℕ) (m : Tables) (h : SoundBut x m) (p k e : ℕ) → p < PROCESSES → k < DESCRIPTORS → m.desc p k ≡ e + 1 → Held m e
held x m h p k e hp hk q =
    let l : e < OPEN_FILES = omega (arith, (h.procs p hp).desc-most k hk) in
    record { small = l; open-refs = λ z. omega (arith, holders-at m.desc p k e hp hk q, h.opens.refs e l) }

-- ---- seek

pub seek-sound : (x : ℕ) (m : Tables) → SoundBut x m → (e v : ℕ) → (m.open_files e OPEN_REFERENCES ≡ 0 → ⊥) → v ≤ BLOCK → SoundBut x (open_to e OPEN_OFFSET v m)
seek-sound x m h e v o l = record {
  slots = h.slots;
  tree = h.tree;
  live = h.live;
  opens = record {
    open-files = λ i hi. upd2-elim (λ row. OpenFile (col m.file FILE_KIND) row) m.open_files e OPEN_OFFSET v i (λ q. offset-to (col m.file FILE_KIND) (m.open_files i) (h.opens.open-files i hi) v (rw q o) l) (λ _. h.opens.open-files i hi);
    refs = h.opens.refs;
  };
  procs = h.procs;
}

-- ---- change bits

pub bits-sound : (x : ℕ) (m : Tables) → SoundBut x m → (s v : ℕ) → (m.file s FILE_KIND ≡ FREE → ⊥) → (m.file s FILE_KIND ≡ LINK → ⊥) → v ≤ BITS_MAX → SoundBut x (file_to s FILE_BITS v m)
bits-sound x m h s v u n l = record {
  slots = record {
    files = bits-to m.file h.slots.files s v u l;
    root-kind = h.slots.root-kind;
    root-links = h.slots.root-links;
    blocks = h.slots.blocks;
    texts = λ i hi k. split i s (λ q _. absurd (n (rw q at k))) (λ _ e. rw e (h.slots.texts i hi k));
  };
  tree = h.tree;
  live = h.live;
  opens = h.opens;
  procs = h.procs;
}
