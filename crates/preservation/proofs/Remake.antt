-- A slot that no entry names and no open file is on gets another record and other bytes: a new file before it has its name, and a freed slot.
use mathlib.Core.Path.{◌≡◌, refl, sym, ap, ◌∙◌}
use mathlib.Core.Bool.{Bool, true, false, ◌&&◌}
use Prim.Native.Nat.{ℕ, ◌+◌, ◌*◌, ◌≤◌, ◌<◌}
use native.Mathlib.Omega.{arith}
use native.Mathlib.Decide.{ℕ_discrete}
use lib.Dec.{eqb, ltb}
use borrow.Author.Tests.{eqb-true, eq-eqb, ne_eqb, lt-ltb, le-ltb}
use Rattle.preservation.proofs.Tests.{split, upd, upd_other}
use Rattle.preservation.proofs.Sums.{ind, sum2-same, sum-at, sum-none}
use Rattle.preservation.proofs.Tables.{Tables, col, dirent_row, rows_of}
use Rattle.preservation.proofs.Sound.{All, SoundBut, File, Block, Symlink, Directory, Depths, OpenFile, naming, link_count, open_count}
use Rattle.preservation.proofs.Dirents.{naming-at, used-none}
use Rattle.rules.specs.Layout.{SLOTS, DIRENTS, DIRENT_WIDTH, OPEN_FILES, NAME, FILE_KIND, FILE_BITS, FILE_LENGTH, FILE_LINKS, DIRECTORY, LINK, OPEN_SLOT, OPEN_REFERENCES}

-- ---- a group over other columns

pub and-false : (a b : Bool) → (a ≡ true → b ≡ false) → a && b ≡ false
and-false true b f = f refl
and-false false b f = refl

pub naming-same : (kind kind' : ℕ → ℕ) (pl pl' : ℕ → ℕ → ℕ → ℕ) (s : ℕ) → ((i j : ℕ) → i < SLOTS → j < DIRENTS → naming kind' pl' s i j ≡ naming kind pl s i j) → link_count kind' pl' s ≡ link_count kind pl s
unfolding link_count
naming-same kind kind' pl pl' s h = sum2-same SLOTS DIRENTS (λ i j. ind (naming kind pl s i j)) (λ i j. ind (naming kind' pl' s i j)) (λ i j hi hj. ap ind (h i j hi hj))

pub dir-kinds : (kind kind' : ℕ → ℕ) (rows : ℕ → ℕ → ℕ) → Directory kind rows → ((q : ℕ) → q < DIRENTS → (rows q NAME ≡ 0 → ⊥) → kind' (rows q NAME) ≡ kind (rows q NAME)) → Directory kind' rows
dir-kinds kind kind' rows d e = record {
  different = d.different;
  dirents = λ q hq. let w = d.dirents q hq in record {
    last-zero = w.last-zero;
    slot_small = w.slot_small;
    empty-zero = w.empty-zero;
    valid = w.valid;
    slot-used = λ n z. w.slot-used n (sym (e q hq n) ∙ z);
  };
}

pub dir-empty : (kind : ℕ → ℕ) (rows : ℕ → ℕ → ℕ) → ((q k : ℕ) → q < DIRENTS → k < DIRENT_WIDTH → rows q k ≡ 0) → Directory kind rows
dir-empty kind rows z = record {
  different = λ q hq _ _ _ n. absurd (n (z q NAME hq (omega arith)));
  dirents = λ q hq. record {
    last-zero = z q (NAME + 1) hq (omega arith);
    slot_small = omega (arith, z q NAME hq (omega arith));
    empty-zero = λ _ k hk. z q k hq (omega arith);
    slot-used = λ n. absurd (n (z q NAME hq (omega arith)));
    valid = λ n. absurd (n (z q NAME hq (omega arith)));
  };
}

pub open-kinds : {kind kind' row : ℕ → ℕ} → OpenFile kind row → ((row OPEN_REFERENCES ≡ 0 → ⊥) → kind' (row OPEN_SLOT) ≡ kind (row OPEN_SLOT)) → OpenFile kind' row
open-kinds w e = record {
  slot-zero = w.slot-zero;
  mode-zero = w.mode-zero;
  offset-zero = w.offset-zero;
  plain = λ n l. e n ∙ w.plain n l;
  reading = w.reading;
  mode-least = w.mode-least;
  mode-most = w.mode-most;
  offset-most = w.offset-most;
}

-- an open file on s counts
pub open_count-at : (slot refs : ℕ → ℕ) (e s : ℕ) → e < OPEN_FILES → slot e ≡ s → (refs e ≡ 0 → ⊥) → 0 < open_count slot refs s
unfolding open_count
open_count-at slot refs e s he q n =
    let a : ind (eqb (slot e) s && ltb 0 (refs e)) ≡ 1 = rw (eq-eqb (slot e) s q, lt-ltb 0 (refs e) (omega arith)) in
    omega (arith, sum-at OPEN_FILES (λ i. ind (eqb (slot i) s && ltb 0 (refs i))) e he)

pub open_count-none : (slot refs : ℕ → ℕ) (s : ℕ) → All OPEN_FILES (λ e. (refs e ≡ 0 → ⊥) → slot e ≡ s → ⊥) → open_count slot refs s ≡ 0
unfolding open_count
open_count-none slot refs s h = sum-none OPEN_FILES (λ e. ind (eqb (slot e) s && ltb 0 (refs e))) (λ e he. rw (and-false (eqb (slot e) s) (ltb 0 (refs e)) (λ t. le-ltb 0 (refs e) (closed e he (eqb-true (slot e) s t) (ℕ_discrete (refs e) 0)))))
  where
    closed : (e : ℕ) → e < OPEN_FILES → slot e ≡ s → Dec (refs e ≡ 0) → refs e ≤ 0
    closed e he q (yes z) = omega arith
    closed e he q (no n) = absurd (h e he n q)

-- ---- the change

unfoldable pub remade : ℕ → (row g : ℕ → ℕ) → Tables → Tables
remade y row g m = record { file = upd m.file y row; byte = upd m.byte y g; open_files = m.open_files; proc = m.proc; desc = m.desc }

-- nothing is on slot y
pub record Bare (m : Tables) (y : ℕ) : Type 0 where
  pub small : y < SLOTS
  pub not_root : y ≡ 0 → ⊥
  pub no-links : m.file y FILE_LINKS ≡ 0
  pub not-open : (e : ℕ) → e < OPEN_FILES → (m.open_files e OPEN_REFERENCES ≡ 0 → ⊥) → m.open_files e OPEN_SLOT ≡ y → ⊥
  pub no-dirents : m.file y FILE_KIND ≡ DIRECTORY → All DIRENTS (λ q. dirent_row m.byte y q NAME ≡ 0)

-- the record and the bytes that it gets
pub record Fresh (row g : ℕ → ℕ) : Type 0 where
  pub file-row : File row
  pub block_row : Block (row FILE_KIND) (row FILE_LENGTH) g
  pub link_row : row FILE_KIND ≡ LINK → Symlink (row FILE_BITS) (row FILE_LENGTH) g
  pub links-row : row FILE_LINKS ≡ 0
  pub empty-length : row FILE_KIND ≡ DIRECTORY → row FILE_LENGTH ≡ 0
  pub empty-bytes : row FILE_KIND ≡ DIRECTORY → (b : ℕ) → b < DIRENTS * DIRENT_WIDTH → g b ≡ 0

module _ (m : Tables) (y : ℕ) (row g : ℕ → ℕ) (h : SoundBut y m) (a : Bare m y) (n : Fresh row g) where
  abbrev pub file' : ℕ → ℕ → ℕ
  file' = upd m.file y row

  abbrev pub byte' : ℕ → ℕ → ℕ
  byte' = upd m.byte y g

  kind-other : (i : ℕ) → (i ≡ y → ⊥) → col file' FILE_KIND i ≡ m.file i FILE_KIND
  kind-other i q = rw (ne_eqb i y q)

  pub unnamed : (u : ℕ) → u < SLOTS → m.file u FILE_KIND ≡ DIRECTORY → (q : ℕ) → q < DIRENTS → dirent_row m.byte u q NAME ≡ y → ⊥
  unnamed u hu ku q hq e = omega (arith, naming-at (col m.file FILE_KIND) (dirent_row m.byte) u q y hu hq ku e, h.tree.links y a.small a.not_root, a.no-links)

  pub new-rows : row FILE_KIND ≡ DIRECTORY → (q k : ℕ) → q < DIRENTS → k < DIRENT_WIDTH → rows_of g q k ≡ 0
  new-rows r q k hq hk = rw (lt-ltb k DIRENT_WIDTH hk) (n.empty-bytes r (DIRENT_WIDTH * q + k) (omega arith))

  naming-eq : (s : ℕ) → (s ≡ 0 → ⊥) → (i j : ℕ) → i < SLOTS → j < DIRENTS → naming (col file' FILE_KIND) (dirent_row byte') s i j ≡ naming (col m.file FILE_KIND) (dirent_row m.byte) s i j
  naming-eq s n0 i j hi hj = split i y
      (λ q t. rw (t, and-false (eqb (row FILE_KIND) DIRECTORY) (eqb (rows_of g j NAME) s) (λ r. ne_eqb (rows_of g j NAME) s (λ z. n0 (sym z ∙ new-rows (eqb-true (row FILE_KIND) DIRECTORY r) j NAME hj (omega arith)))))
      (sym (and-false (eqb (m.file i FILE_KIND) DIRECTORY) (eqb (dirent_row m.byte i j NAME) s) (λ r. ne_eqb (dirent_row m.byte i j NAME) s (λ z. n0 (sym z ∙ rw q (a.no-dirents (rw q at (eqb-true (m.file i FILE_KIND) DIRECTORY r)) j hj)))))))
      (λ q t. rw t)

  unfoldable pub remade-depths : Depths (col m.file FILE_KIND) (dirent_row m.byte) → Depths (col file' FILE_KIND) (dirent_row byte')
  remade-depths c = record {
    depth = upd c.depth y 0;
    depth-root = upd_other c.depth y 0 0 (λ q. a.not_root (sym q)) ∙ c.depth-root;
    depth-step = λ u hu. split u y
        (λ q t. rw t (λ k p hp z. absurd (z (new-rows k p NAME hp (omega arith)))))
        (λ q t. rw t (λ k p hp z. let w = unnamed u hu k p hp in rw (ne_eqb (dirent_row m.byte u p NAME) y w) (c.depth-step u hu k p hp z)));
    depth-most = λ i hi. split i y (λ q t. rw t (λ _. omega arith)) (λ q t. rw t (c.depth-most i hi));
  }

  -- Each sentence by cases: slot y has the new row, another slot the row that it had; and no entry or open file reads y's kind.
  pub remade-sound : SoundBut y (remade y row g m)
  unfolding remade
  remade-sound = record {
    slots = record {
      files = λ i hi. split i y (λ q t. rw t n.file-row) (λ q t. rw t (h.slots.files i hi));
      root-kind = rw (ne_eqb 0 y (λ q. a.not_root (sym q))) h.slots.root-kind;
      root-links = rw (ne_eqb 0 y (λ q. a.not_root (sym q))) h.slots.root-links;
      blocks = λ i hi. split i y (λ q t. rw t n.block_row) (λ q t. rw t (h.slots.blocks i hi));
      texts = λ i hi. split i y (λ q t. rw t n.link_row) (λ q t. rw t (h.slots.texts i hi));
    };
    tree = record {
      dirs = λ i hi. split i y
          (λ q t. rw t (λ k. dir-empty (col file' FILE_KIND) (rows_of g) (new-rows k)))
          (λ q t. rw t (λ k. dir-kinds (col m.file FILE_KIND) (col file' FILE_KIND) (dirent_row m.byte i) (h.tree.dirs i hi k) (λ p hp _. kind-other (dirent_row m.byte i p NAME) (unnamed i hi k p hp))));
      lengths = λ i hi. split i y
          (λ q t. rw t (λ k. n.empty-length k ∙ sym (used-none (rows_of g) (λ p hp. new-rows k p NAME hp (omega arith)))))
          (λ q t. rw t (h.tree.lengths i hi));
      links = λ s hs n0. rw (naming-same (col m.file FILE_KIND) (col file' FILE_KIND) (dirent_row m.byte) (dirent_row byte') s (naming-eq s n0)) (split s y
          (λ q t. rw t (n.links-row ∙ sym a.no-links ∙ rw (← q) (h.tree.links s hs n0)))
          (λ q t. rw t (h.tree.links s hs n0)));
      depths = remade-depths h.tree.depths;
      no-rom = rw (ne_eqb 0 y (λ q. a.not_root (sym q))) h.tree.no-rom;
    };
    live = record {
      once = λ i hi q. rw (ne_eqb i y q) (h.live.once i hi q);
      alive = λ i hi q. rw (ne_eqb i y q) (h.live.alive i hi q);
    };
    opens = record {
      open-files = λ i hi. open-kinds (h.opens.open-files i hi) (λ r. kind-other (m.open_files i OPEN_SLOT) (a.not-open i hi r));
      refs = h.opens.refs;
    };
    procs = h.procs;
  }
