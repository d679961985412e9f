-- Rename: an entry gets another name, or a name goes from one directory to another.
use mathlib.Core.Path.{◌≡◌, refl, ◌∙◌}
use Prim.Native.Nat.{ℕ, ◌-◌, ◌≤◌, ◌<◌}
use native.Mathlib.Omega.{arith}
use borrow.Author.Tests.{eq-eqb, ne_eqb}
use Rattle.preservation.proofs.Tests.{split, upd}
use Rattle.preservation.proofs.Tables.{Tables, col, dirent_row, fill}
use Rattle.preservation.proofs.Sound.{Sound, Depths}
use Rattle.preservation.proofs.Dirents.{placed, Fits, placed-slots, placed-tree, placed-other-slot, placed-here-slot}
use Rattle.preservation.proofs.Link.{loosen, linked, linked-sound}
use Rattle.preservation.proofs.Unlink.{unlinked, unlinked-sound}
use Rattle.preservation.proofs.Create.{Name, name-fits, target_small}
use Rattle.rules.specs.Layout.{SLOTS, DIRENTS, NAME, FILE_KIND, FILE_LENGTH, FILE_LINKS, FREE, PLAIN, DIRECTORY, WORD_MAX}

-- ---- within directory d: entry p names y as before, under another name

unfoldable pub renamed : (d p : ℕ) → (ℕ → ℕ) → (t y : ℕ) → Tables → Tables
renamed d p r t y m = placed d p r (m.file d FILE_LENGTH) t y (m.file y FILE_LINKS) m

-- every entry names the slot that it did, so that what counts names, or follows them, is the same
module _ (m : Tables) (h : Sound m) (d p : ℕ) (r : ℕ → ℕ) (t y : ℕ) (f : Fits m d p r t y) (e : r NAME ≡ y) (there : dirent_row m.byte d p NAME ≡ y) where
  same-links : (i : ℕ) → upd (col m.file FILE_LINKS) y (m.file y FILE_LINKS) i ≡ m.file i FILE_LINKS
  same-links i = split i y (λ q w. rw (w, q)) (λ q w. rw w)

  same-slot : (u q : ℕ) → dirent_row (upd m.byte d (fill (m.byte d) p r)) u q NAME ≡ dirent_row m.byte u q NAME
  same-slot u q = split u d
      (λ a _. split q p
      (λ b _. rw (a, b, placed-here-slot SLOTS m h d p r 0 t y 0 f, e, there))
      (λ b _. placed-other-slot SLOTS m h d p r 0 t y 0 f u q (λ _. b)))
      (λ a _. placed-other-slot SLOTS m h d p r 0 t y 0 f u q (λ z _. a z))

  renamed-depths : Depths (col m.file FILE_KIND) (dirent_row (upd m.byte d (fill (m.byte d) p r)))
  renamed-depths = record {
    depth = h.tree.depths.depth;
    depth-root = h.tree.depths.depth-root;
    depth-most = h.tree.depths.depth-most;
    depth-step = λ u hu ku q hq. rw (same-slot u q) (h.tree.depths.depth-step u hu ku q hq);
  }

  pub renamed-sound : Sound (renamed d p r t y m)
  unfolding renamed placed
  renamed-sound = record {
    slots = placed-slots SLOTS m h d p r (m.file d FILE_LENGTH) t y (m.file y FILE_LINKS) f;
    tree = placed-tree SLOTS m h d p r (m.file d FILE_LENGTH) t y (m.file y FILE_LINKS) f (rw (there, e)) (λ s hs n. rw (there, e, same-links s)) renamed-depths;
    live = record {
      once = λ i hi q u k n. same-links i ∙ h.live.once i hi q u k n;
      alive = λ i hi q k. rw (same-links i) (h.live.alive i hi q k);
    };
    opens = h.opens;
    procs = h.procs;
  }

-- ---- from directory d to another: what entry p names, y, is no directory. It loses the name, then gets the new one

module _ (m : Tables) (h : Sound m) (d p t y : ℕ) (hd : d < SLOTS) (kd : m.file d FILE_KIND ≡ DIRECTORY) (hp : p < DIRENTS) (e : dirent_row m.byte d p NAME ≡ y) (n0 : y ≡ 0 → ⊥) (ht : t ≤ WORD_MAX)
    (k : m.file y FILE_KIND ≡ DIRECTORY → ⊥) (d' p' : ℕ) (r : ℕ → ℕ) (t' : ℕ) (n : Name m d' p' r y) (ne : d' ≡ d → ⊥) (ht' : t' ≤ WORD_MAX) where
  hy : y < SLOTS
  hy = target_small m h d p t y hd kd hp e n0 ht

  used : m.file y FILE_KIND ≡ FREE → ⊥
  used z = ((h.tree.dirs d hd kd).dirents p hp).slot-used (rw e n0) (rw e z)

  -- a link has no other name
  only : (m.file y FILE_KIND ≡ PLAIN → ⊥) → m.file y FILE_LINKS - 1 ≡ 0
  only o = omega (arith, h.live.once y hy (λ z. omega (arith, hy, z)) used o n0)

  -- the new name as it is once the old one is gone
  name : Name (unlinked d p t y m) d' p' r y
  unfolding unlinked placed
  name = record {
    dir-small = n.dir-small;
    dir-kind = n.dir-kind;
    dirent-small = n.dirent-small;
    dirent-empty = rw (ne_eqb d' d ne) n.dirent-empty;
    row-slot = n.row-slot;
    row_last = n.row_last;
    row-end = n.row-end;
    row-valid = n.row-valid;
    row_new = rw (ne_eqb d' d ne) n.row_new;
    row-rom = n.row-rom;
  }

  pub transferred-sound : Sound (linked d' p' r t' y (unlinked d p t y m))
  unfolding unlinked placed
  transferred-sound =
      let s = unlinked-sound m d p t y (loosen y m h) hd kd hp e n0 ht in
      linked-sound (unlinked d p t y m) d' p' r t' y s (name-fits (unlinked d p t y m) d' p' r t' y name ht' hy n0 used) n.row-slot name.dirent-empty (λ z. k (rw z at n.dir-kind))
      (λ o. rw (eq-eqb y y refl) (only o)) s.tree.depths (λ z. absurd (k z))
