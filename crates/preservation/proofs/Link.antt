-- A name added; and tables that are sound but for one slot.
use mathlib.Core.Path.{◌≡◌, sym, ap, ◌∙◌}
use mathlib.Core.Bool.{not}
use Prim.Native.Nat.{ℕ, suc, ◌+◌, ◌≤◌, ◌<◌}
use native.Mathlib.Omega.{arith}
use lib.Dec.{eqb}
use borrow.Author.Tests.{eq-eqb, ne_eqb}
use Rattle.preservation.proofs.Tests.{split, upd, upd-elim, upd_same, upd_other}
use Rattle.preservation.proofs.Sums.{ind}
use Rattle.preservation.proofs.Tables.{Tables, col, dirent_row, fill}
use Rattle.preservation.proofs.Sound.{All, Sound, SoundBut, Depths, open_count}
use Rattle.preservation.proofs.Counts.{ind-eq, ind-ne}
use Rattle.preservation.proofs.Dirents.{placed, Fits, placed-slots, placed-tree, placed-other-slot, placed-here-slot, naming-at}
use Rattle.rules.specs.Layout.{SLOTS, DIRENTS, NAME, NAMES, FILE_KIND, FILE_LENGTH, FILE_LINKS, FREE, PLAIN, DIRECTORY, OPEN_SLOT, OPEN_REFERENCES}

pub loosen : (x : ℕ) (m : Tables) → Sound m → SoundBut x m
loosen x m h = record {
  slots = h.slots;
  tree = h.tree;
  live = record {
    once = λ i hi _. h.live.once i hi (λ e. omega arith);
    alive = λ i hi _. h.live.alive i hi (λ e. omega arith);
  };
  opens = h.opens;
  procs = h.procs;
}

-- slot x is a directory or a link named once, or a plain file that is named or open
pub tighten : (x : ℕ) (m : Tables) → SoundBut x m → ((m.file x FILE_KIND ≡ FREE → ⊥) → (m.file x FILE_KIND ≡ PLAIN → ⊥) → (x ≡ 0 → ⊥) → m.file x FILE_LINKS ≡ 1) → (m.file x FILE_KIND ≡ PLAIN → 0 < m.file x FILE_LINKS + open_count (col m.open_files OPEN_SLOT) (col m.open_files OPEN_REFERENCES) x) → Sound m
tighten x m h a b = record {
  slots = h.slots;
  tree = h.tree;
  live = record {
    once = λ i hi _. split i x (λ q _. rw q a) (λ n _. h.live.once i hi n);
    alive = λ i hi _. split i x (λ q _. rw q b) (λ n _. h.live.alive i hi n);
  };
  opens = h.opens;
  procs = h.procs;
}

-- there is no slot x
pub tighten-past : (x : ℕ) (m : Tables) → SoundBut x m → (x < SLOTS → ⊥) → Sound m
tighten-past x m h n = record {
  slots = h.slots;
  tree = h.tree;
  live = record {
    once = λ i hi _. h.live.once i hi (λ q. n (rw q at hi));
    alive = λ i hi _. h.live.alive i hi (λ q. n (rw q at hi));
  };
  opens = h.opens;
  procs = h.procs;
}

pub ind-zero : (n : ℕ) → n ≡ 0 → ind (not (eqb n 0)) ≡ 0
ind-zero n e = rw (eq-eqb n 0 e)

pub ind-some : (n : ℕ) → (n ≡ 0 → ⊥) → ind (not (eqb n 0)) ≡ 1
ind-some n e = rw (ne_eqb n 0 e)

-- ---- link: an empty entry of d names y

unfoldable pub linked : (d p : ℕ) → (ℕ → ℕ) → (t y : ℕ) → Tables → Tables
linked d p r t y m = placed d p r (m.file d FILE_LENGTH + 1) t y (m.file y FILE_LINKS + 1) m

-- what a new directory owes: it is empty, and stands at most NAMES deep
pub record Leaf (m : Tables) (deep : ℕ) (y : ℕ) : Type 0 where
  pub no-dirents : All DIRENTS (λ q. dirent_row m.byte y q NAME ≡ 0)
  pub not-deep : deep < NAMES

-- what is no plain file gets its only name
module _ (m : Tables) (d p : ℕ) (r : ℕ → ℕ) (t y : ℕ) (h : SoundBut y m) (f : Fits m d p r t y) (e : r NAME ≡ y) (empty : dirent_row m.byte d p NAME ≡ 0) (ne : d ≡ y → ⊥)
    (only : (m.file y FILE_KIND ≡ PLAIN → ⊥) → m.file y FILE_LINKS ≡ 0) (c : Depths (col m.file FILE_KIND) (dirent_row m.byte)) (leaf : m.file y FILE_KIND ≡ DIRECTORY → Leaf m (c.depth d) y) where
  linked-depths : Depths (col m.file FILE_KIND) (dirent_row (upd m.byte d (fill (m.byte d) p r)))
  linked-depths = record {
    depth = upd D y (suc (D d));
    depth-root = upd_other D y (suc (D d)) 0 (λ q. f.file-root (sym q)) ∙ c.depth-root;
    depth-step = λ u hu ku q hq. step u hu ku q hq;
    depth-most = λ i hi k. upd-elim (λ v. v ≤ NAMES) D y (suc (D d)) i (λ q. (leaf (rw q at k)).not-deep) (λ _. c.depth-most i hi k);
  }
    where
      D : ℕ → ℕ
      D = c.depth

      b : ℕ → ℕ → ℕ
      b = upd m.byte d (fill (m.byte d) p r)

      old : (u : ℕ) → u < SLOTS → m.file u FILE_KIND ≡ DIRECTORY → (q : ℕ) → q < DIRENTS → (dirent_row m.byte u q NAME ≡ 0 → ⊥) → m.file (dirent_row m.byte u q NAME) FILE_KIND ≡ DIRECTORY → upd D y (suc (D d)) (dirent_row m.byte u q NAME) ≡ suc (upd D y (suc (D d)) u)
      old u hu ku q hq n k =
          let a : dirent_row m.byte u q NAME ≡ y → ⊥ = λ z. omega (arith, only (λ q. omega (arith, rw z at k, q)), h.tree.links y (rw z at ((h.tree.dirs u hu ku).dirents q hq).slot_small) f.file-root, naming-at (col m.file FILE_KIND) (dirent_row m.byte) u q y hu hq ku z) in
          let g : u ≡ y → ⊥ = λ z. n (rw (← z) at ((leaf (rw z at ku)).no-dirents q hq)) in
          upd_other D y (suc (D d)) (dirent_row m.byte u q NAME) a ∙ c.depth-step u hu ku q hq n k ∙ ap suc (sym (upd_other D y (suc (D d)) u g))

      step : (u : ℕ) → u < SLOTS → m.file u FILE_KIND ≡ DIRECTORY → (q : ℕ) → q < DIRENTS → (dirent_row b u q NAME ≡ 0 → ⊥) → m.file (dirent_row b u q NAME) FILE_KIND ≡ DIRECTORY → upd D y (suc (D d)) (dirent_row b u q NAME) ≡ suc (upd D y (suc (D d)) u)
      step u hu ku q hq = split u d
          (λ a _. split q p
          (λ g _ n k. rw (a, g, placed-here-slot y m h d p r 0 t y 0 f, e) (upd_same D y (suc (D d)) ∙ ap suc (sym (upd_other D y (suc (D d)) d ne))))
          (λ g _. rw (placed-other-slot y m h d p r 0 t y 0 f u q (λ _. g)) (old u hu ku q hq)))
          (λ a _. rw (placed-other-slot y m h d p r 0 t y 0 f u q (λ z _. a z)) (old u hu ku q hq))

  pub linked-sound : Sound (linked d p r t y m)
  unfolding linked placed
  linked-sound = record {
    slots = placed-slots y m h d p r (m.file d FILE_LENGTH + 1) t y (m.file y FILE_LINKS + 1) f;
    tree = placed-tree y m h d p r (m.file d FILE_LENGTH + 1) t y (m.file y FILE_LINKS + 1) f
        (omega (arith, ind-zero (dirent_row m.byte d p NAME) empty, ind-some (r NAME) (rw e f.file-root)))
        (λ s hs n. split s y
        (λ q w. rw (w, q) (omega (arith, ind-ne (dirent_row m.byte d p NAME) y (λ z. f.file-root (sym z ∙ empty)), ind-eq (r NAME) y e)))
        (λ q w. rw w (omega (arith, ind-ne (dirent_row m.byte d p NAME) s (λ z. n (sym z ∙ empty)), ind-ne (r NAME) s (λ z. q (sym z ∙ e))))))
        linked-depths;
    live = record {
      once = λ i hi _ u k n. split i y (λ q w. rw w (omega (arith, only (rw q at k)))) (λ q w. rw w (h.live.once i hi q u k n));
      alive = λ i hi _ k. split i y (λ q w. rw w (omega arith)) (λ q w. rw w (h.live.alive i hi q k));
    };
    opens = h.opens;
    procs = h.procs;
  }
