-- A row of a table: one that is in use, of which nothing is owed that a free one owes; and one word of it changed.
use mathlib.Core.Path.{◌≡◌, refl, ap}
use mathlib.Core.List.{List}
use Prim.Native.Nat.{ℕ, ◌≤◌, ◌<◌}
use native.Mathlib.Omega.{arith}
use lib.ListN.{get_or}
use Rattle.preservation.proofs.Tests.{upd, upd2, upd2-elim}
use Rattle.preservation.proofs.Tables.{file_words, file_row}
use Rattle.preservation.proofs.Sound.{All, File, OpenFile, Process}
use Rattle.rules.specs.Layout.{SLOTS, BLOCK, OPEN_FILES, DESCRIPTORS, FILE_KIND, FILE_OWNER, FILE_BITS, FILE_LABEL, FILE_LENGTH, FILE_LINKS, FILE_VERSION, OPEN_SLOT, OPEN_MODE, OPEN_OFFSET, OPEN_REFERENCES, PROCESS_USED, PROCESS_USER, PROCESS_LABEL, FREE, PLAIN, FILE_GROUP, PROCESS_GROUP, GROUP_MAX}
use Rattle.rules.specs.Layout.{KIND_MAX, USER_MAX, BITS_MAX, LABEL_MAX, MODE_MAX, WORD_MAX}
use Rattle.rules.specs.Rights.{MODE_READ}

-- ---- files

pub file-used : {row : ℕ → ℕ} → (row FILE_KIND ≡ FREE → ⊥) → row FILE_KIND ≤ KIND_MAX → row FILE_OWNER ≤ USER_MAX → row FILE_GROUP ≤ GROUP_MAX → row FILE_BITS ≤ BITS_MAX → row FILE_LABEL ≤ LABEL_MAX → row FILE_VERSION ≤ WORD_MAX → File row
file-used u k o g b l t = record {
  kind-most = k;
  owner-most = o;
  group-most = g;
  bits_most = b;
  label-most = l;
  version-most = t;
  owner-zero = λ z. absurd (u z);
  group-zero = λ z. absurd (u z);
  bits-zero = λ z. absurd (u z);
  label-zero = λ z. absurd (u z);
  length-zero = λ z. absurd (u z);
  links-zero = λ z. absurd (u z);
}

-- a free slot's record
abbrev pub free_row : (version : ℕ) → ℕ → ℕ
free_row version = file_row (upd (λ _. 0) FILE_VERSION version)

pub file-free : (v : ℕ) → v ≤ WORD_MAX → File (free_row v)
file-free v l = record {
  kind-most = omega arith;
  owner-most = omega arith;
  group-most = omega arith;
  bits_most = omega arith;
  label-most = omega arith;
  version-most = l;
  owner-zero = λ _. refl;
  group-zero = λ _. refl;
  bits-zero = λ _. refl;
  label-zero = λ _. refl;
  length-zero = λ _. refl;
  links-zero = λ _. refl;
}

-- nothing is said of a row beyond its columns
pub file-same : (r t : ℕ → ℕ) → file_words r ≡ file_words t → File r → File t
file-same r t e w = record {
  kind-most = rw (at FILE_KIND) at w.kind-most;
  owner-most = rw (at FILE_OWNER) at w.owner-most;
  group-most = rw (at FILE_GROUP) at w.group-most;
  bits_most = rw (at FILE_BITS) at w.bits_most;
  label-most = rw (at FILE_LABEL) at w.label-most;
  version-most = rw (at FILE_VERSION) at w.version-most;
  owner-zero = rw (at FILE_KIND, at FILE_OWNER) at w.owner-zero;
  group-zero = rw (at FILE_KIND, at FILE_GROUP) at w.group-zero;
  bits-zero = rw (at FILE_KIND, at FILE_BITS) at w.bits-zero;
  label-zero = rw (at FILE_KIND, at FILE_LABEL) at w.label-zero;
  length-zero = rw (at FILE_KIND, at FILE_LENGTH) at w.length-zero;
  links-zero = rw (at FILE_KIND, at FILE_LINKS) at w.links-zero;
}
  where
    at : (c : ℕ) → file_row r c ≡ file_row t c
    at c = ap (λ (ws : List ℕ). get_or ws c 0) e

-- a word of the record of slot s, which is in use, becomes v
module _ (f : ℕ → ℕ → ℕ) (h : All SLOTS (λ i. File (f i))) (s v : ℕ) (u : f s FILE_KIND ≡ FREE → ⊥) where
  word-to : (c : ℕ) → ((i : ℕ) → (f i FILE_KIND ≡ FREE → ⊥) → File (f i) → File (upd (f i) c v)) → All SLOTS (λ i. File (upd2 f s c v i))
  word-to c to i hi = upd2-elim (λ row. File row) f s c v i (λ q. to i (rw q u) (h i hi)) (λ _. h i hi)

  pub bits-to : v ≤ BITS_MAX → All SLOTS (λ i. File (upd2 f s FILE_BITS v i))
  bits-to l = word-to FILE_BITS (λ i n w. file-used n w.kind-most w.owner-most w.group-most l w.label-most w.version-most)

  pub length_to : All SLOTS (λ i. File (upd2 f s FILE_LENGTH v i))
  length_to = word-to FILE_LENGTH (λ i n w. file-used n w.kind-most w.owner-most w.group-most w.bits_most w.label-most w.version-most)

  pub links-to : All SLOTS (λ i. File (upd2 f s FILE_LINKS v i))
  links-to = word-to FILE_LINKS (λ i n w. file-used n w.kind-most w.owner-most w.group-most w.bits_most w.label-most w.version-most)

  pub version-to : v ≤ WORD_MAX → All SLOTS (λ i. File (upd2 f s FILE_VERSION v i))
  version-to l = word-to FILE_VERSION (λ i n w. file-used n w.kind-most w.owner-most w.group-most w.bits_most w.label-most l)

-- ---- open files

pub open-used : {kind row : ℕ → ℕ} → (row OPEN_REFERENCES ≡ 0 → ⊥) → (row OPEN_SLOT < SLOTS → kind (row OPEN_SLOT) ≡ PLAIN) → ((row OPEN_SLOT < SLOTS → ⊥) → row OPEN_MODE ≡ MODE_READ.0) → 0 < row OPEN_MODE → row OPEN_MODE ≤ MODE_MAX → row OPEN_OFFSET ≤ BLOCK → OpenFile kind row
open-used u k r ml mm p = record {
  slot-zero = λ z. absurd (u z);
  mode-zero = λ z. absurd (u z);
  offset-zero = λ z. absurd (u z);
  plain = λ _. k;
  reading = λ _. r;
  mode-least = λ _. ml;
  mode-most = λ _. mm;
  offset-most = λ _. p;
}

pub open_free : {kind : ℕ → ℕ} → OpenFile kind (λ _. 0)
open_free = record {
  slot-zero = λ _. refl;
  mode-zero = λ _. refl;
  offset-zero = λ _. refl;
  plain = λ n. absurd (n refl);
  reading = λ n. absurd (n refl);
  mode-least = λ n. absurd (n refl);
  mode-most = λ n. absurd (n refl);
  offset-most = λ n. absurd (n refl);
}

-- a word of an open file that is in use becomes v
module _ (kind row : ℕ → ℕ) (w : OpenFile kind row) (v : ℕ) (u : row OPEN_REFERENCES ≡ 0 → ⊥) where
  pub offset-to : v ≤ BLOCK → OpenFile kind (upd row OPEN_OFFSET v)
  offset-to l = open-used u (w.plain u) (w.reading u) (w.mode-least u) (w.mode-most u) l

  pub references-to : (v ≡ 0 → ⊥) → OpenFile kind (upd row OPEN_REFERENCES v)
  references-to n = open-used n (w.plain u) (w.reading u) (w.mode-least u) (w.mode-most u) (w.offset-most u)

-- ---- processes

pub process-used : {row desc : ℕ → ℕ} → row PROCESS_USED ≡ 1 → row PROCESS_USER ≤ USER_MAX → row PROCESS_GROUP ≤ GROUP_MAX → row PROCESS_LABEL ≤ LABEL_MAX → All DESCRIPTORS (λ k. desc k ≤ OPEN_FILES) → Process row desc
process-used a u g l d = record {
  active-most = omega arith;
  user-most = u;
  group-most = g;
  label-most = l;
  desc-most = d;
  user-zero = λ z. absurd (omega arith);
  group-zero = λ z. absurd (omega arith);
  label-zero = λ z. absurd (omega arith);
  desc-zero = λ z. absurd (omega arith);
}

pub process-free : {desc : ℕ → ℕ} → All DESCRIPTORS (λ k. desc k ≡ 0) → Process (λ _. 0) desc
process-free z = record {
  active-most = omega arith;
  user-most = omega arith;
  group-most = omega arith;
  label-most = omega arith;
  desc-most = λ k hk. omega (arith, z k hk);
  user-zero = λ _. refl;
  group-zero = λ _. refl;
  label-zero = λ _. refl;
  desc-zero = λ _. z;
}

-- other descriptors of a process in use
pub process-desc : {row desc desc' : ℕ → ℕ} → Process row desc → (row PROCESS_USED ≡ 0 → ⊥) → All DESCRIPTORS (λ k. desc' k ≤ OPEN_FILES) → Process row desc'
process-desc w u d = record {
  active-most = w.active-most;
  user-most = w.user-most;
  group-most = w.group-most;
  label-most = w.label-most;
  desc-most = d;
  user-zero = w.user-zero;
  group-zero = w.group-zero;
  label-zero = w.label-zero;
  desc-zero = λ z. absurd (u z);
}
