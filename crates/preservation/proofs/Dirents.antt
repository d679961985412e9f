-- One entry of a directory changed: what link, create, unlink and remove share.
use mathlib.Core.Path.{◌≡◌, refl, sym, ap, ◌∙◌, fun_ext}
use mathlib.Core.Bool.{true, false, not, ◌&&◌}
use Prim.Native.Nat.{ℕ, ◌+◌, ◌*◌, ◌/◌, ◌%◌, ◌≤◌, ◌<◌}
use native.Mathlib.Omega.{arith}
use native.Mathlib.Decide.{dec_lt}
use lib.Dec.{eqb, ltb}
use borrow.Author.Tests.{eq-eqb, ne_eqb, lt-ltb, le-ltb}
use Rattle.preservation.proofs.Tests.{split, upd, upd2, upd-elim, upd_same, upd_other, means-all, means-eq}
use Rattle.preservation.proofs.Sums.{ind, count, sum-change, sum2-change, sum2-at, sum-at, sum-none}
use Rattle.preservation.proofs.Tables.{Tables, col, dirent_row, rows_of, fill, file_to, bytes_to}
use Rattle.preservation.proofs.Sound.{All, Slots, Directories, SoundBut, File, Block, Symlink, Dirent, Directory, Depths, naming, link_count, name_count, same_row, valid_row, NoRom, rom_row}
use Rattle.preservation.proofs.Rows.{length_to, links-to, version-to}
use Rattle.preservation.proofs.Counts.{ind-eq}
use Rattle.rules.specs.Layout.{SLOTS, DIRENTS, DIRENT_WIDTH, NAME, FILE_KIND, FILE_BITS, FILE_LENGTH, FILE_LINKS, FILE_VERSION, FREE, DIRECTORY, LINK, WORD_MAX}

-- ---- a block with one entry changed, as rows

fill-at : (g : ℕ → ℕ) (p : ℕ) (r : ℕ → ℕ) → ((k : ℕ) → DIRENT_WIDTH ≤ k → r k ≡ 0) → (q k : ℕ) → rows_of (fill g p r) q k ≡ upd (rows_of g) p r q k
fill-at g p r w q k = go (dec_lt k DIRENT_WIDTH)
  where
    go : Dec (k < DIRENT_WIDTH) → rows_of (fill g p r) q k ≡ upd (rows_of g) p r q k
    go (yes l) =
        let a : (DIRENT_WIDTH * q + k) / DIRENT_WIDTH ≡ q = omega arith in
        let b : (DIRENT_WIDTH * q + k) % DIRENT_WIDTH ≡ k = omega arith in
        let c : ltb k DIRENT_WIDTH ≡ true = lt-ltb k DIRENT_WIDTH l in
        split q p (λ e t. rw (c, a, b, t)) (λ e t. rw (c, a, t, c))
    go (no n) =
        let c : ltb k DIRENT_WIDTH ≡ false = le-ltb k DIRENT_WIDTH (omega arith) in
        split q p (λ e t. rw (c, t) (sym (w k (omega arith)))) (λ e t. rw (c, t, c))

pub rows_fill : (g : ℕ → ℕ) (p : ℕ) (r : ℕ → ℕ) → ((k : ℕ) → DIRENT_WIDTH ≤ k → r k ≡ 0) → rows_of (fill g p r) ≡ upd (rows_of g) p r
rows_fill g p r w = fun_ext (λ q. fun_ext (λ k. fill-at g p r w q k))

pub tail-fill : (g : ℕ → ℕ) (p : ℕ) (r : ℕ → ℕ) (b : ℕ) → p < DIRENTS → DIRENTS * DIRENT_WIDTH ≤ b → fill g p r b ≡ g b
tail-fill g p r b hp hb = let n : b / DIRENT_WIDTH ≡ p → ⊥ = λ e. omega arith in rw (ne_eqb (b / DIRENT_WIDTH) p n)

-- ---- names

pub same_row-sym : (r t : ℕ → ℕ) → same_row r t ≡ true → same_row t r ≡ true
unfolding same_row
same_row-sym r t e =
    (means-all NAME (λ k. eqb (t k) (r k)) (λ k. t k ≡ r k) (λ k. means-eq (t k) (r k))).tests
    (λ k h. sym ((means-all NAME (λ k. eqb (r k) (t k)) (λ k. r k ≡ t k) (λ k. means-eq (r k) (t k))).holds e k h))

pub dir-fill : (kind : ℕ → ℕ) (rows : ℕ → ℕ → ℕ) (p : ℕ) (r : ℕ → ℕ) → Directory kind rows → Dirent kind r →
    ((r NAME ≡ 0 → ⊥) → (q : ℕ) → q < DIRENTS → (rows q NAME ≡ 0 → ⊥) → same_row (rows q) r ≡ true → ⊥) → Directory kind (upd rows p r)
dir-fill kind rows p r d pl new = record {
  dirents = λ q hq. upd-elim (Dirent kind) rows p r q (λ _. pl) (λ _. d.dirents q hq);
  different = λ a ha b hb n. split a p
      (λ ea ta. split b p (λ eb tb. absurd (n (ea ∙ sym eb))) (λ nb tb. rw (ta, tb) (λ u v e. new u b hb v (same_row-sym r (rows b) e))))
      (λ na ta. split b p (λ eb tb. rw (ta, tb) (λ u v e. new v a ha u e)) (λ nb tb. rw (ta, tb) (d.different a ha b hb n)));
}

-- an entry in use: a valid name, a used slot y, and 0
pub dirent-used : (kind r : ℕ → ℕ) (y : ℕ) → r NAME ≡ y → r (NAME + 1) ≡ 0 → valid_row r ≡ true → y < SLOTS → (y ≡ 0 → ⊥) → (kind y ≡ FREE → ⊥) → Dirent kind r
dirent-used kind r y e l v hy n0 u = record { last-zero = l; slot_small = rw e hy; empty-zero = λ z. absurd (n0 (sym e ∙ z)); slot-used = λ _. rw e u; valid = λ _. v }

-- ---- counts

pub used-to : (rows : ℕ → ℕ → ℕ) (p : ℕ) (r : ℕ → ℕ) → p < DIRENTS → name_count (upd rows p r) + ind (not (eqb (rows p NAME) 0)) ≡ name_count rows + ind (not (eqb (r NAME) 0))
unfolding name_count
used-to rows p r hp =
    let c : count DIRENTS (λ q. not (eqb (upd rows p r q NAME) 0)) + ind (not (eqb (rows p NAME) 0)) ≡ count DIRENTS (λ q. not (eqb (rows q NAME) 0)) + ind (not (eqb (upd rows p r p NAME) 0))
    = sum-change DIRENTS (λ q. ind (not (eqb (rows q NAME) 0))) (λ q. ind (not (eqb (upd rows p r q NAME) 0))) p hp (λ q _ n. ap (λ (t : ℕ → ℕ). ind (not (eqb (t NAME) 0))) (upd_other rows p r q n)) in
    let e : ind (not (eqb (upd rows p r p NAME) 0)) ≡ ind (not (eqb (r NAME) 0)) = ap (λ (t : ℕ → ℕ). ind (not (eqb (t NAME) 0))) (upd_same rows p r) in
    omega arith

pub used-at : (rows : ℕ → ℕ → ℕ) (p : ℕ) → p < DIRENTS → (rows p NAME ≡ 0 → ⊥) → 0 < name_count rows
unfolding name_count
used-at rows p hp n =
    let e : ind (not (eqb (rows p NAME) 0)) ≡ 1 = rw (ne_eqb (rows p NAME) 0 n) in
    omega (arith, sum-at DIRENTS (λ q. ind (not (eqb (rows q NAME) 0))) p hp)

pub used-none : (rows : ℕ → ℕ → ℕ) → All DIRENTS (λ p. rows p NAME ≡ 0) → name_count rows ≡ 0
unfolding name_count
used-none rows n = sum-none DIRENTS (λ q. ind (not (eqb (rows q NAME) 0))) (λ p hp. rw (n p hp))

-- pl and pl' differ at entry p of d only
pub naming-change : (kind : ℕ → ℕ) (pl pl' : ℕ → ℕ → ℕ → ℕ) (d p s : ℕ) → d < SLOTS → p < DIRENTS → kind d ≡ DIRECTORY → ((i j : ℕ) → (i ≡ d → j ≡ p → ⊥) → pl' i j NAME ≡ pl i j NAME) →
    link_count kind pl' s + ind (eqb (pl d p NAME) s) ≡ link_count kind pl s + ind (eqb (pl' d p NAME) s)
unfolding link_count
naming-change kind pl pl' d p s hd hp k o =
    rw (eq-eqb (kind d) DIRECTORY k) at (sum2-change SLOTS DIRENTS (λ i j. ind (naming kind pl s i j)) (λ i j. ind (naming kind pl' s i j)) d p hd hp (λ i j _ _ n. ap (λ (x : ℕ). ind (eqb (kind i) DIRECTORY && eqb x s)) (o i j n)))

pub naming-at : (kind : ℕ → ℕ) (pl : ℕ → ℕ → ℕ → ℕ) (d p s : ℕ) → d < SLOTS → p < DIRENTS → kind d ≡ DIRECTORY → pl d p NAME ≡ s → 0 < link_count kind pl s
unfolding link_count
naming-at kind pl d p s hd hp k e =
    let q : ind (naming kind pl s d p) ≡ 1 = rw (eq-eqb (kind d) DIRECTORY k) (ind-eq (pl d p NAME) s e) in
    omega (arith, sum2-at SLOTS DIRENTS (λ i j. ind (naming kind pl s i j)) d p hd hp)

-- ---- entry p of directory d becomes r; d's length z and version t; slot y has c links

unfoldable pub placed : (d p : ℕ) → (ℕ → ℕ) → (z t y c : ℕ) → Tables → Tables
placed d p r z t y c m = file_to y FILE_LINKS c (file_to d FILE_VERSION t (file_to d FILE_LENGTH z (bytes_to d (fill (m.byte d) p r) m)))

-- what such a change owes, beside its counts
pub record Fits (m : Tables) (d p : ℕ) (r : ℕ → ℕ) (t y : ℕ) : Type 0 where
  pub dir-small : d < SLOTS
  pub dir-kind : m.file d FILE_KIND ≡ DIRECTORY
  pub dirent-small : p < DIRENTS
  pub row-end : (k : ℕ) → DIRENT_WIDTH ≤ k → r k ≡ 0
  pub row-dirent : Dirent (col m.file FILE_KIND) r
  pub row_new : (r NAME ≡ 0 → ⊥) → (q : ℕ) → q < DIRENTS → (dirent_row m.byte d q NAME ≡ 0 → ⊥) → same_row (dirent_row m.byte d q) r ≡ true → ⊥
  pub version-small : t ≤ WORD_MAX
  pub file-used : m.file y FILE_KIND ≡ FREE → ⊥
  pub file-root : y ≡ 0 → ⊥
  pub row-rom : d ≡ 0 → same_row r rom_row ≡ true → ⊥

module _ (x : ℕ) (m : Tables) (h : SoundBut x m) (d p : ℕ) (r : ℕ → ℕ) (z t y c : ℕ) (f : Fits m d p r t y) where
  abbrev pub byte' : ℕ → ℕ → ℕ
  byte' = upd m.byte d (fill (m.byte d) p r)

  placed-files : All SLOTS (λ i. File (upd2 (upd2 (upd2 m.file d FILE_LENGTH z) d FILE_VERSION t) y FILE_LINKS c i))
  placed-files = links-to (upd2 (upd2 m.file d FILE_LENGTH z) d FILE_VERSION t) (version-to (upd2 m.file d FILE_LENGTH z) (length_to m.file h.slots.files d z used) d t used f.version-small) y c f.file-used
    where
      used : m.file d FILE_KIND ≡ FREE → ⊥
      used k = omega (arith, f.dir-kind)

  placed-blocks : All SLOTS (λ i. Block (m.file i FILE_KIND) (upd (col m.file FILE_LENGTH) d z i) (byte' i))
  placed-blocks i hi = split i d
      (λ q e. let k : m.file i FILE_KIND ≡ DIRECTORY = rw q f.dir-kind in rw e (record {
        length_most = λ n. absurd (n k);
        past-zero = λ n. absurd (n k);
        tail-zero = λ _ b hb l. tail-fill (m.byte d) p r b f.dirent-small l ∙ (h.slots.blocks d f.dir-small).tail-zero f.dir-kind b hb l;
      }))
      (λ q e. rw e (h.slots.blocks i hi))

  placed-texts : All SLOTS (λ i. m.file i FILE_KIND ≡ LINK → Symlink (m.file i FILE_BITS) (upd (col m.file FILE_LENGTH) d z i) (byte' i))
  placed-texts i hi k = split i d (λ q e. absurd (omega (arith, f.dir-kind, rw q at k))) (λ q e. rw e (h.slots.texts i hi k))

  placed-dirs : All SLOTS (λ i. m.file i FILE_KIND ≡ DIRECTORY → Directory (col m.file FILE_KIND) (dirent_row byte' i))
  placed-dirs i hi k = split i d
      (λ q e. rw (e, rows_fill (m.byte d) p r f.row-end) (dir-fill (col m.file FILE_KIND) (dirent_row m.byte d) p r (h.tree.dirs d f.dir-small f.dir-kind) f.row-dirent f.row_new))
      (λ q e. rw e (h.tree.dirs i hi k))

  placed-rom : NoRom (dirent_row byte')
  placed-rom j hj = split 0 d
      (λ q e. rw (e, rows_fill (m.byte d) p r f.row-end) (upd-elim (λ v. same_row v rom_row ≡ true → ⊥) (dirent_row m.byte d) p r j (λ _. f.row-rom (sym q)) (λ _. rw (← q) (h.tree.no-rom j hj))))
      (λ q e. rw e (h.tree.no-rom j hj))

  placed-lengths : z + ind (not (eqb (dirent_row m.byte d p NAME) 0)) ≡ m.file d FILE_LENGTH + ind (not (eqb (r NAME) 0)) → All SLOTS (λ i. m.file i FILE_KIND ≡ DIRECTORY → upd (col m.file FILE_LENGTH) d z i ≡ name_count (dirent_row byte' i))
  placed-lengths a i hi k = split i d
      (λ q e. rw (e, rows_fill (m.byte d) p r f.row-end) (omega (arith, used-to (dirent_row m.byte d) p r f.dirent-small, h.tree.lengths d f.dir-small f.dir-kind)))
      (λ q e. rw e (h.tree.lengths i hi k))

  -- the entries of the changed tables
  placed-other : (i j : ℕ) → (i ≡ d → j ≡ p → ⊥) → dirent_row byte' i j ≡ dirent_row m.byte i j
  placed-other i j n = split i d
      (λ q e. rw (e, rows_fill (m.byte d) p r f.row-end, upd_other (dirent_row m.byte d) p r j (n q), q))
      (λ q e. rw e)

  placed-here : dirent_row byte' d p ≡ r
  placed-here = rw (eq-eqb d d refl, rows_fill (m.byte d) p r f.row-end, upd_same (dirent_row m.byte d) p r)

  -- and their slots
  pub placed-other-slot : (i j : ℕ) → (i ≡ d → j ≡ p → ⊥) → dirent_row byte' i j NAME ≡ dirent_row m.byte i j NAME
  placed-other-slot i j n = ap (λ (row : ℕ → ℕ). row NAME) (placed-other i j n)

  pub placed-here-slot : dirent_row byte' d p NAME ≡ r NAME
  placed-here-slot = ap (λ (row : ℕ → ℕ). row NAME) placed-here

  placed-links : All SLOTS (λ s. (s ≡ 0 → ⊥) → upd (col m.file FILE_LINKS) y c s + ind (eqb (dirent_row m.byte d p NAME) s) ≡ m.file s FILE_LINKS + ind (eqb (r NAME) s)) →
      All SLOTS (λ s. (s ≡ 0 → ⊥) → upd (col m.file FILE_LINKS) y c s ≡ link_count (col m.file FILE_KIND) (dirent_row byte') s)
  placed-links a s hs n =
      let b = naming-change (col m.file FILE_KIND) (dirent_row m.byte) (dirent_row byte') d p s f.dir-small f.dirent-small f.dir-kind placed-other-slot in
      let e : ind (eqb (dirent_row byte' d p NAME) s) ≡ ind (eqb (r NAME) s) = ap (λ (v : ℕ). ind (eqb v s)) placed-here-slot in
      omega (arith, a s hs n, h.tree.links s hs n)

  -- the groups

  pub placed-slots : Slots (upd2 (upd2 (upd2 m.file d FILE_LENGTH z) d FILE_VERSION t) y FILE_LINKS c) byte'
  placed-slots = record {
    files = placed-files;
    root-kind = h.slots.root-kind;
    root-links = upd_other (col m.file FILE_LINKS) y c 0 (λ q. f.file-root (sym q)) ∙ h.slots.root-links;
    blocks = placed-blocks;
    texts = placed-texts;
  }

  pub placed-tree : z + ind (not (eqb (dirent_row m.byte d p NAME) 0)) ≡ m.file d FILE_LENGTH + ind (not (eqb (r NAME) 0)) →
      All SLOTS (λ s. (s ≡ 0 → ⊥) → upd (col m.file FILE_LINKS) y c s + ind (eqb (dirent_row m.byte d p NAME) s) ≡ m.file s FILE_LINKS + ind (eqb (r NAME) s)) →
      Depths (col m.file FILE_KIND) (dirent_row byte') → Directories (col m.file FILE_KIND) (upd (col m.file FILE_LENGTH) d z) (upd (col m.file FILE_LINKS) y c) (dirent_row byte')
  placed-tree a b e = record { dirs = placed-dirs; lengths = placed-lengths a; links = placed-links b; depths = e; no-rom = placed-rom }
