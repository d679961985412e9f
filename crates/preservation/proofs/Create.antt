-- Create, make directory and make link; free a slot; unlink and remove directory.
use mathlib.Core.Path.{◌≡◌, refl, sym, ◌∙◌}
use mathlib.Core.Bool.{true, false}
use mathlib.Core.List.{List}
use Prim.Native.Nat.{ℕ, ◌+◌, ◌-◌, ◌*◌, ◌≤◌, ◌<◌}
use native.Mathlib.Omega.{arith}
use native.Mathlib.Decide.{ℕ_discrete}
use lib.Dec.{eqb}
use lib.ListN.{length}
use borrow.Author.Tests.{eq-eqb, ne_eqb, lt-ltb, le-ltb}
use Rattle.rules.specs.Paths.{path_ok}
use Rattle.preservation.proofs.Tables.{Tables, col, dirent_row, over_row}
use Rattle.preservation.proofs.Sound.{All, Sound, SoundBut, File, valid_row, same_row, rom_row, open_count}
use Rattle.preservation.proofs.Rows.{free_row, file-free}
use Rattle.preservation.proofs.Dirents.{placed, Fits, dirent-used, used-at}
use Rattle.preservation.proofs.Link.{loosen, tighten, linked, linked-sound}
use Rattle.preservation.proofs.Unlink.{unlinked, unlinked-sound}
use Rattle.preservation.proofs.Remake.{remade, remade-sound, remade-depths, Bare, Fresh, open_count-none}
use Rattle.preservation.proofs.PathNames.{path-size}
use Rattle.rules.specs.Layout.{SLOTS, BLOCK, DIRENTS, DIRENT_WIDTH, OPEN_FILES, NAME, NAMES, FILE_KIND, FILE_BITS, FILE_LENGTH, FILE_LINKS, FREE, PLAIN, DIRECTORY, LINK, OPEN_SLOT, OPEN_REFERENCES, WORD_MAX}

-- ---- a name as a granted call has it

pub record Name (m : Tables) (d p : ℕ) (r : ℕ → ℕ) (y : ℕ) : Type 0 where
  pub dir-small : d < SLOTS
  pub dir-kind : m.file d FILE_KIND ≡ DIRECTORY
  pub dirent-small : p < DIRENTS
  pub dirent-empty : dirent_row m.byte d p NAME ≡ 0
  pub row-slot : r NAME ≡ y
  pub row_last : r (NAME + 1) ≡ 0
  pub row-end : (k : ℕ) → DIRENT_WIDTH ≤ k → r k ≡ 0
  pub row-valid : valid_row r ≡ true
  pub row_new : (q : ℕ) → q < DIRENTS → (dirent_row m.byte d q NAME ≡ 0 → ⊥) → same_row (dirent_row m.byte d q) r ≡ true → ⊥
  pub row-rom : d ≡ 0 → same_row r rom_row ≡ true → ⊥

pub name-fits : (m : Tables) (d p : ℕ) (r : ℕ → ℕ) (t y : ℕ) → Name m d p r y → t ≤ WORD_MAX → y < SLOTS → (y ≡ 0 → ⊥) → (m.file y FILE_KIND ≡ FREE → ⊥) → Fits m d p r t y
name-fits m d p r t y n ht hy n0 u = record {
  dir-small = n.dir-small;
  dir-kind = n.dir-kind;
  dirent-small = n.dirent-small;
  row-end = n.row-end;
  row_new = λ _. n.row_new;
  row-dirent = dirent-used (col m.file FILE_KIND) r y n.row-slot n.row_last n.row-valid hy n0 u;
  version-small = ht;
  file-used = u;
  file-root = n0;
  row-rom = n.row-rom;
}

-- ---- link

pub link-sound : (m : Tables) → Sound m → (d p : ℕ) (r : ℕ → ℕ) (t y : ℕ) → Name m d p r y → t ≤ WORD_MAX → y < SLOTS → m.file y FILE_KIND ≡ PLAIN → Sound (linked d p r t y m)
link-sound m h d p r t y n ht hy k =
    linked-sound m d p r t y (loosen y m h) (name-fits m d p r t y n ht hy (λ z. omega (arith, h.slots.root-kind, rw z at k)) (λ z. omega arith)) n.row-slot n.dirent-empty
    (λ z. omega (arith, n.dir-kind, rw (← z) at k)) (λ o. absurd (o k)) h.tree.depths (λ z. absurd (omega arith))

-- ---- create: what a new file has before its name, in a slot whose bytes are 0

pub free-zeros : (m : Tables) → Sound m → (y : ℕ) → y < SLOTS → m.file y FILE_KIND ≡ FREE → All BLOCK (λ b. m.byte y b ≡ 0)
free-zeros m h y hy free b l = (h.slots.blocks y hy).past-zero (λ z. omega arith) b l (omega (arith, (h.slots.files y hy).length-zero free))

pub fresh-empty : {row g : ℕ → ℕ} → File row → (row FILE_KIND ≡ LINK → ⊥) → row FILE_LENGTH ≡ 0 → row FILE_LINKS ≡ 0 → All BLOCK (λ b. g b ≡ 0) → Fresh row g
fresh-empty f k e n z = record {
  file-row = f;
  links-row = n;
  empty-length = λ _. e;
  empty-bytes = λ _ b l. z b (omega arith);
  block_row = record { length_most = λ _. omega arith; past-zero = λ _ b l _. z b l; tail-zero = λ _ b l _. z b l };
  link_row = λ q. absurd (k q);
}

-- a link, whose text is written from byte 0 on
pub fresh-link : {row g : ℕ → ℕ} (text : List ℕ) → File row → row FILE_KIND ≡ LINK → row FILE_BITS ≡ 0 → row FILE_LENGTH ≡ length text → row FILE_LINKS ≡ 0 → path_ok text ≡ true → All BLOCK (λ b. g b ≡ 0) → Fresh row (over_row g 0 text)
fresh-link text f k b e n ok z = record {
  file-row = f;
  links-row = n;
  empty-length = λ q. absurd (omega (arith, k, q));
  empty-bytes = λ q. absurd (omega (arith, k, q));
  block_row = record {
    length_most = λ _. omega (arith, path-size text ok);
    past-zero = λ _ i l q. rw (le-ltb i 0 (omega arith), le-ltb i (0 + length text) (omega arith)) (z i l);
    tail-zero = λ q. absurd (omega (arith, k, q));
  };
  link_row = λ _. record {
    no_bits = b;
    text = text;
    text-size = sym e;
    text-bytes = λ i l. let q : i - 0 ≡ i = omega arith in rw (le-ltb i 0 (omega arith), lt-ltb i (0 + length text) (omega arith), q);
    text-ok = ok;
  };
}

unfoldable pub created : (d p : ℕ) → (ℕ → ℕ) → (t y : ℕ) → (row g : ℕ → ℕ) → Tables → Tables
created d p r t y row g m = linked d p r t y (remade y row g m)

module _ (m : Tables) (h : Sound m) (d p : ℕ) (r : ℕ → ℕ) (t y : ℕ) (row g : ℕ → ℕ) (n : Name m d p r y) (ht : t ≤ WORD_MAX) (hy : y < SLOTS) (free : m.file y FILE_KIND ≡ FREE)
    (new : Fresh row g) (used : row FILE_KIND ≡ FREE → ⊥) (deep : row FILE_KIND ≡ DIRECTORY → h.tree.depths.depth d < NAMES) where
  not_root : y ≡ 0 → ⊥
  not_root z = omega (arith, h.slots.root-kind, rw z at free)

  not-dir : d ≡ y → ⊥
  not-dir z = omega (arith, n.dir-kind, rw (← z) at free)

  bare : Bare m y
  bare = record {
    small = hy;
    not_root = not_root;
    no-links = (h.slots.files y hy).links-zero free;
    no-dirents = λ z. absurd (omega arith);
    not-open = λ e he o z. omega (arith, rw z at ((h.opens.open-files e he).plain o (rw z hy)));
  }

  pub create-sound : Sound (created d p r t y row g m)
  unfolding created remade remade-depths
  create-sound = linked-sound (remade y row g m) d p r t y (remade-sound m y row g (loosen y m h) bare new)
      (name-fits (remade y row g m) d p r t y name ht hy not_root (rw (eq-eqb y y refl) used))
      n.row-slot name.dirent-empty not-dir (rw (eq-eqb y y refl) (λ _. new.links-row)) (remade-depths m y row g (loosen y m h) bare new h.tree.depths)
      (rw (eq-eqb y y refl) (λ z. record {
        no-dirents = λ q hq. rw (eq-eqb y y refl) (new.empty-bytes z (DIRENT_WIDTH * q + NAME) (omega arith));
        not-deep = rw (ne_eqb d y not-dir) (deep z);
      }))
    where
      other : eqb d y ≡ false
      other = ne_eqb d y not-dir

      name : Name (remade y row g m) d p r y
      name = record {
        dir-small = n.dir-small;
        dir-kind = rw other n.dir-kind;
        dirent-small = n.dirent-small;
        dirent-empty = rw other n.dirent-empty;
        row-slot = n.row-slot;
        row_last = n.row_last;
        row-end = n.row-end;
        row-valid = n.row-valid;
        row_new = rw other n.row_new;
        row-rom = n.row-rom;
      }

-- ---- free a slot: its version goes to t

unfoldable pub freed : (y t : ℕ) → Tables → Tables
freed y t m = remade y (free_row t) (λ _. 0) m

pub freed-sound : (m : Tables) (y t : ℕ) → SoundBut y m → Bare m y → t ≤ WORD_MAX → Sound (freed y t m)
unfolding freed remade
freed-sound m y t h a ht = tighten y (freed y t m)
    (remade-sound m y (free_row t) (λ _. 0) h a (record {
      file-row = file-free t ht;
      block_row = record { length_most = λ _. omega arith; past-zero = λ _ b l _. refl; tail-zero = λ _ b l _. refl };
      links-row = refl;
      empty-length = λ _. refl;
      empty-bytes = λ _ b l. refl;
      link_row = λ z. absurd (omega arith);
    }))
    (rw (eq-eqb y y refl) (λ u. absurd (u refl))) (rw (eq-eqb y y refl) (λ z. absurd (omega arith)))

-- ---- unlink: directory d loses entry p, which names y

module _ (m : Tables) (h : Sound m) (d p t y : ℕ) (hd : d < SLOTS) (kd : m.file d FILE_KIND ≡ DIRECTORY) (hp : p < DIRENTS) (e : dirent_row m.byte d p NAME ≡ y) (n0 : y ≡ 0 → ⊥) (ht : t ≤ WORD_MAX) where
  pub target_small : y < SLOTS
  target_small = rw e at ((h.tree.dirs d hd kd).dirents p hp).slot_small

  -- the file keeps a name, or is open: it is plain, since what is not has one name and is not open
  pub unlink-sound : 0 < m.file y FILE_LINKS - 1 + open_count (col m.open_files OPEN_SLOT) (col m.open_files OPEN_REFERENCES) y → Sound (unlinked d p t y m)
  unlink-sound a = tighten y (unlinked d p t y m) (unlinked-sound m d p t y (loosen y m h) hd kd hp e n0 ht)
      (unfold unlinked placed in (λ u o n. absurd (omega (arith, a, h.live.once y target_small (λ z. omega (arith, target_small, z)) u o n, closed o)))) (unfold unlinked placed in rw (eq-eqb y y refl) (λ _. a))
    where
      closed : (m.file y FILE_KIND ≡ PLAIN → ⊥) → open_count (col m.open_files OPEN_SLOT) (col m.open_files OPEN_REFERENCES) y ≡ 0
      closed o = open_count-none (col m.open_files OPEN_SLOT) (col m.open_files OPEN_REFERENCES) y (λ i hi r q. o (rw q at ((h.opens.open-files i hi).plain r (rw q target_small))))

  -- the file has no other name and is not open
  pub unlink-frees : (m.file y FILE_KIND ≡ DIRECTORY → ⊥) → m.file y FILE_LINKS - 1 ≡ 0 → ((i : ℕ) → i < OPEN_FILES → (m.open_files i OPEN_REFERENCES ≡ 0 → ⊥) → m.open_files i OPEN_SLOT ≡ y → ⊥) → (t' : ℕ) → t' ≤ WORD_MAX → Sound (freed y t' (unlinked d p t y m))
  unfolding unlinked placed
  unlink-frees k l o t' ht' = freed-sound (unlinked d p t y m) y t' (unlinked-sound m d p t y (loosen y m h) hd kd hp e n0 ht) (record {
    small = target_small;
    not_root = n0;
    no-links = rw (eq-eqb y y refl) l;
    not-open = o;
    no-dirents = λ z. absurd (k z);
  }) ht'

-- ---- remove directory

pub remove-sound : (m : Tables) → Sound m → (d p t y t' : ℕ) → d < SLOTS → m.file d FILE_KIND ≡ DIRECTORY → p < DIRENTS → dirent_row m.byte d p NAME ≡ y → (y ≡ 0 → ⊥) → t ≤ WORD_MAX →
    m.file y FILE_KIND ≡ DIRECTORY → m.file y FILE_LENGTH ≡ 0 → t' ≤ WORD_MAX → Sound (freed y t' (unlinked d p t y m))
unfolding unlinked placed
remove-sound m h d p t y t' hd kd hp e n0 ht k z0 ht' =
    freed-sound (unlinked d p t y m) y t' (unlinked-sound m d p t y (loosen y m h) hd kd hp e n0 ht) (record {
      small = hy;
      not_root = n0;
      no-links = rw (eq-eqb y y refl) (omega (arith, h.live.once y hy (λ z. omega (arith, hy)) (λ z. omega (arith, k, z)) (λ z. omega (arith, k, z)) n0));
      not-open = λ i hi o z. omega (arith, rw z at ((h.opens.open-files i hi).plain o (rw z hy)));
      no-dirents = λ _ q hq. rw (ne_eqb y d other) (empty q hq);
    }) ht'
  where
    hy : y < SLOTS
    hy = rw e at ((h.tree.dirs d hd kd).dirents p hp).slot_small

    empty : (q : ℕ) → q < DIRENTS → dirent_row m.byte y q NAME ≡ 0
    empty q hq = elim (ℕ_discrete (dirent_row m.byte y q NAME) 0) [ yes z ↦ z | no z ↦ absurd (omega (arith, used-at (dirent_row m.byte y) q hq z, h.tree.lengths y hy k)) ]

    other : y ≡ d → ⊥
    other z = n0 (sym e ∙ rw z at (empty p hp))
