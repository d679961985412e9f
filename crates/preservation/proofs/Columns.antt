-- Tables whose files' records agree in every column are sound together: nothing else of a record is read.
use mathlib.Core.Path.{◌≡◌, ap, fun_ext}
use mathlib.Core.List.{List}
use Prim.Native.Nat.{ℕ}
use lib.ListN.{get_or}
use Rattle.rules.specs.Layout.{FILE_KIND, FILE_BITS, FILE_LENGTH, FILE_LINKS}
use Rattle.preservation.proofs.Tables.{Tables, file_words, file_row}
use Rattle.preservation.proofs.Rows.{file-same}
use Rattle.preservation.proofs.Sound.{SoundBut}

abbrev pub files_to : (ℕ → ℕ → ℕ) → Tables → Tables
files_to f m = record { file = f; byte = m.byte; open_files = m.open_files; proc = m.proc; desc = m.desc }

abbrev pub Columns : (f g : ℕ → ℕ → ℕ) → Type 0
Columns f g = (i : ℕ) → file_words (f i) ≡ file_words (g i)

pub same-columns : (x : ℕ) (m : Tables) (f : ℕ → ℕ → ℕ) → Columns m.file f → SoundBut x m → SoundBut x (files_to f m)
same-columns x m f c h = record {
  slots = record {
    files = λ i hi. file-same (m.file i) (f i) (c i) (h.slots.files i hi);
    root-kind = rw (word FILE_KIND 0) at h.slots.root-kind;
    root-links = rw (word FILE_LINKS 0) at h.slots.root-links;
    blocks = λ i hi. rw (word FILE_KIND i, word FILE_LENGTH i) at (h.slots.blocks i hi);
    texts = λ i hi. rw (word FILE_KIND i, word FILE_BITS i, word FILE_LENGTH i) at (h.slots.texts i hi);
  };
  tree = rw (column FILE_KIND, column FILE_LENGTH, column FILE_LINKS) at h.tree;
  live = rw (column FILE_KIND, column FILE_LINKS) at h.live;
  opens = rw (column FILE_KIND) at h.opens;
  procs = h.procs;
}
  where
    word : (k i : ℕ) → file_row (m.file i) k ≡ file_row (f i) k
    word k i = ap (λ (ws : List ℕ). get_or ws k 0) (c i)

    column : (k : ℕ) → ◌≡◌ {A = ℕ → ℕ} (λ i. file_row (m.file i) k) (λ i. file_row (f i) k)
    column k = fun_ext (word k)
