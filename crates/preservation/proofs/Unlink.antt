-- A name taken away: the entry becomes empty.
use mathlib.Core.Path.{◌≡◌, refl, sym, ◌∙◌}
use mathlib.Core.Bool.{false, false≢true}
use Prim.Native.Nat.{ℕ, suc, ◌-◌, ◌≤◌, ◌<◌}
use native.Mathlib.Omega.{arith}
use Rattle.preservation.proofs.Tests.{split, upd, upd_other}
use Rattle.preservation.proofs.Tables.{Tables, col, dirent_row, fill}
use Rattle.preservation.proofs.Sound.{SoundBut, Dirent, Depths, same_row, rom_row}
use Rattle.preservation.proofs.Counts.{ind-eq, ind-ne}
use Rattle.preservation.proofs.Dirents.{placed, Fits, placed-slots, placed-tree, placed-other-slot, placed-here-slot, naming-at, used-at}
use Rattle.preservation.proofs.Link.{ind-some}
use Rattle.rules.specs.Scan.{all, fold, turns}
use Rattle.rules.specs.Layout.{SLOTS, DIRENTS, NAME, FILE_KIND, FILE_LENGTH, FILE_LINKS, DIRECTORY, WORD_MAX}

abbrev pub no_row : ℕ → ℕ
no_row k = 0

pub no-dirent : (kind : ℕ → ℕ) → Dirent kind no_row
no-dirent kind = record { last-zero = refl; slot_small = omega arith; empty-zero = λ _ k _. refl; slot-used = λ n. absurd (n refl); valid = λ n. absurd (n refl) }

no-row-rom : same_row no_row rom_row ≡ false
unfolding same_row all fold turns
no-row-rom = refl

unfoldable pub unlinked : (d p t y : ℕ) → Tables → Tables
unlinked d p t y m = placed d p no_row (m.file d FILE_LENGTH - 1) t y (m.file y FILE_LINKS - 1) m

module _ (m : Tables) (d p t y : ℕ) (h : SoundBut y m) (hd : d < SLOTS) (kd : m.file d FILE_KIND ≡ DIRECTORY) (hp : p < DIRENTS) (e : dirent_row m.byte d p NAME ≡ y) (n0 : y ≡ 0 → ⊥) (ht : t ≤ WORD_MAX) where
  unlinked-fits : Fits m d p no_row t y
  unlinked-fits = record {
    dir-small = hd;
    dir-kind = kd;
    dirent-small = hp;
    row-end = λ k _. refl;
    row-dirent = no-dirent (col m.file FILE_KIND);
    row_new = λ n. absurd (n refl);
    version-small = ht;
    file-used = λ z. ((h.tree.dirs d hd kd).dirents p hp).slot-used (rw e n0) (rw e z);
    file-root = n0;
    row-rom = λ _ q. false≢true (sym no-row-rom ∙ q);
  }

  unlinked-depths : Depths (col m.file FILE_KIND) (dirent_row (upd m.byte d (fill (m.byte d) p no_row)))
  unlinked-depths = record {
    depth = h.tree.depths.depth;
    depth-root = h.tree.depths.depth-root;
    depth-most = h.tree.depths.depth-most;
    depth-step = λ u hu ku q hq. split u d
        (λ a _. split q p (λ c _ n. absurd (n (rw (a, c) (placed-here-slot y m h d p no_row 0 t y 0 unlinked-fits)))) (λ c _. keep u hu ku q hq (λ _. c)))
        (λ a _. keep u hu ku q hq (λ z _. a z));
  }
    where
      b : ℕ → ℕ → ℕ
      b = upd m.byte d (fill (m.byte d) p no_row)

      keep : (u : ℕ) → u < SLOTS → m.file u FILE_KIND ≡ DIRECTORY → (q : ℕ) → q < DIRENTS → (u ≡ d → q ≡ p → ⊥) → (dirent_row b u q NAME ≡ 0 → ⊥) → m.file (dirent_row b u q NAME) FILE_KIND ≡ DIRECTORY → h.tree.depths.depth (dirent_row b u q NAME) ≡ suc (h.tree.depths.depth u)
      keep u hu ku q hq o = rw (placed-other-slot y m h d p no_row 0 t y 0 unlinked-fits u q o) (h.tree.depths.depth-step u hu ku q hq)

  pub unlinked-sound : SoundBut y (unlinked d p t y m)
  unfolding unlinked placed
  unlinked-sound = record {
    slots = placed-slots y m h d p no_row z t y c f;
    tree = placed-tree y m h d p no_row z t y c f
        (omega (arith, ind-some (dirent_row m.byte d p NAME) (rw e n0), used-at (dirent_row m.byte d) p hp (rw e n0), h.tree.lengths d hd kd))
        (λ s hs n. split s y
        (λ q w. rw (w, q) (omega (arith, ind-eq (dirent_row m.byte d p NAME) y e, ind-ne 0 y (λ a. n0 (sym a)), naming-at (col m.file FILE_KIND) (dirent_row m.byte) d p y hd hp kd e, h.tree.links y (rw q at hs) n0)))
        (λ q w. rw w (omega (arith, ind-ne (dirent_row m.byte d p NAME) s (λ a. q (sym a ∙ e)), ind-ne 0 s (λ a. n (sym a))))))
        unlinked-depths;
    live = record {
      once = λ i hi q u k n. rw (upd_other (col m.file FILE_LINKS) y c i q) (h.live.once i hi q u k n);
      alive = λ i hi q k. rw (upd_other (col m.file FILE_LINKS) y c i q) (h.live.alive i hi q k);
    };
    opens = h.opens;
    procs = h.procs;
  }
    where
      f : Fits m d p no_row t y
      f = unlinked-fits

      z : ℕ
      z = m.file d FILE_LENGTH - 1

      c : ℕ
      c = m.file y FILE_LINKS - 1
