-- When a name may be added to a directory.
use mathlib.Core.Path.{◌≡◌, refl, sym, ◌∙◌}
use mathlib.Core.Bool.{Bool, true, false, not, false≢true, true≢false}
use mathlib.Core.List.{List}
use Prim.Native.Nat.{ℕ, ◌≤◌, ◌<◌}
use native.Mathlib.Omega.{arith}
use lib.ListN.{get_or}
use borrow.Author.Tests.{eqb-true, ltb-false}
use Rattle.rules.specs.Layout.{SLOTS, DIRENTS, ENTRIES, NAME, FILE_KIND, FREE, DIRECTORY, WORD_MAX}
use Rattle.rules.specs.Store.{Store, view, is_entry}
use Rattle.rules.specs.Paths as paths
use Rattle.rules.specs.Directories.{dirent_slot, is_empty, has_name, dirent_of}
use Rattle.rules.specs.declared.ids.Slot.{Slot}
use Rattle.preservation.proofs.Tables.{col, dirent_row}
use Rattle.preservation.proofs.Scans.{first-none}
use Rattle.preservation.proofs.Sound.{same_row, rom_row}
use Rattle.preservation.proofs.Dirents.{same_row-sym, Fits, dirent-used}
use Rattle.preservation.proofs.StoreChanges.{tables_of}
use Rattle.preservation.proofs.Shown.{slot_row, same_row-to}
use Rattle.preservation.proofs.SoundStore.{SoundStore}
use Rattle.preservation.proofs.NameEffects.{Naming, row_of, Names, named_small}
use Rattle.preservation.proofs.PathNames.{GoodName}
use Rattle.preservation.proofs.DirentRow.{dirent-length, row-name, row-slot, row_last, row-end, row-valid}
use Rattle.preservation.proofs.Seen.{seen_at, own_row, seen-name, last_name}

-- the rules look for the name among what they see, /rom included, and for a free entry among what is stored
module _ (R : List ℕ) (s : Store) (h : SoundStore s) (d : Slot) (hd : d.0 < SLOTS) (kd : (tables_of s).file d.0 FILE_KIND ≡ DIRECTORY) where
  abbrev D : List ℕ
  D = seen_at R s h d hd kd

  -- a name that the rules do not find is no stored entry's, nor, in the root, /rom's
  module _ (name : paths.Name) (y : Slot) (a : not (is_entry (dirent_of D name)) ≡ true) where
    absent : ENTRIES ≤ (dirent_of D name).0
    absent = by (is_entry (dirent_of D name)) refl a
      where
        by : (b : Bool) → is_entry (dirent_of D name) ≡ b → not b ≡ true → ENTRIES ≤ (dirent_of D name).0
        by true q t = absurd (false≢true t)
        by false q t = ltb-false (dirent_of D name).0 ENTRIES q

    none : (q : ℕ) → q < ENTRIES → has_name D name q ≡ false
    none = first-none (has_name D name) ENTRIES absent

    row_is : (r : ℕ → ℕ) → same_row r (row_of name y) ≡ same_row r (λ k. get_or name k 0)
    row_is r = same_row-to r r (row_of name y) (λ k. get_or name k 0) (λ k _. refl) (row-name name y)

    differs : (q : ℕ) → q < DIRENTS → (dirent_row (tables_of s).byte d.0 q NAME ≡ 0 → ⊥) → same_row (dirent_row (tables_of s).byte d.0 q) (row_of name y) ≡ true → ⊥
    differs q hq _ t = true≢false (sym t ∙ row_is (dirent_row (tables_of s).byte d.0 q) ∙ sym (seen-name R s h d hd kd name q hq) ∙ none q (omega arith))

    not-rom : d.0 ≡ 0 → same_row (row_of name y) rom_row ≡ true → ⊥
    not-rom z t = true≢false (sym (same_row-sym (row_of name y) rom_row t) ∙ row_is rom_row ∙ sym (last_name R s h d hd kd z name) ∙ none DIRENTS (omega arith))

  pub new-name : (name : paths.Name) (i : ℕ) (y : Slot) → GoodName name → i < DIRENTS → is_empty ((view s).tree.shown d.0) i ≡ true → not (is_entry (dirent_of D name)) ≡ true → y.0 < SLOTS → Naming (tables_of s) name d i y
  new-name name i y g hi e a hy = record {
    bytes = dirent-length name y;
    fits = record {
      dir-small = hd;
      dir-kind = kd;
      dirent-small = hi;
      dirent-empty = sym (slot_row ((view s).tree.shown d.0) (dirent_row (tables_of s).byte d.0) (own_row R s h d hd kd) i) ∙ eqb-true (dirent_slot ((view s).tree.shown d.0) i) 0 (unfold is_empty in e);
      row-slot = row-slot name y (omega arith);
      row_last = row_last name y;
      row-end = row-end name y;
      row-valid = row-valid name y g;
      row_new = differs name y a;
      row-rom = not-rom name y a;
    };
  }

  -- in place of another: entry i names y
  pub other_name : (name : paths.Name) (i : ℕ) (y : Slot) → GoodName name → Names s h d i y → not (is_entry (dirent_of D name)) ≡ true → (t : ℕ) → t ≤ WORD_MAX → Fits (tables_of s) d.0 i (row_of name y) t y.0
  other_name name i y g n a t ht = record {
    dir-small = hd;
    dir-kind = kd;
    dirent-small = n.dirent-small;
    row-end = row-end name y;
    row-dirent = dirent-used (col (tables_of s).file FILE_KIND) (row_of name y) y.0 (row-slot name y (omega (arith, hy))) (row_last name y) (row-valid name y g) hy n.not_root used;
    row_new = λ _. differs name y a;
    version-small = ht;
    file-used = used;
    file-root = n.not_root;
    row-rom = not-rom name y a;
  }
    where
      hy : y.0 < SLOTS
      hy = named_small s h d i y n

      used : (tables_of s).file y.0 FILE_KIND ≡ FREE → ⊥
      used z = ((h.tables.tree.dirs d.0 hd kd).dirents i n.dirent-small).slot-used (rw n.there n.not_root) (rw n.there z)
