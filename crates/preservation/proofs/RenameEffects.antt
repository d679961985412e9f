-- Effects of rename, within a directory and between two. Each leaves sound tables.
use mathlib.Core.Path.{◌≡◌, refl}
use Prim.Native.Nat.{ℕ, ◌+◌, ◌-◌}
use native.Mathlib.Omega.{arith}
use borrow.Author.Tests.{eq-eqb, ne_eqb}
use Rattle.rules.specs.Layout.{SLOTS, FILE_KIND, FILE_LENGTH, FILE_LINKS, FILE_VERSION, DIRECTORY}
use Rattle.rules.specs.Store.{Store, view, entry, up, apply_all}
use Rattle.rules.specs.Paths as paths
use Rattle.rules.specs.Directories.{dirent}
use Rattle.rules.specs.Checks.{gains, loses, renames}
use Rattle.rules.specs.Effects.{name_changes, unname_changes, transfer_changes}
use Rattle.rules.specs.declared.ids.Slot.{Slot}
use Rattle.preservation.proofs.Tests.{split}
use Rattle.preservation.proofs.Tables.{Tables, col, dirent_row}
use Rattle.preservation.proofs.Words.{up-most}
use Rattle.preservation.proofs.Columns.{Columns, same-columns}
use Rattle.preservation.proofs.Dirents.{placed, Fits, naming-at}
use Rattle.preservation.proofs.Link.{linked}
use Rattle.preservation.proofs.Unlink.{unlinked}
use Rattle.preservation.proofs.Rename.{renamed, renamed-sound, transferred-sound}
use Rattle.preservation.proofs.StoreChanges.{tables_of, has-file_word, has-dirent}
use Rattle.preservation.proofs.SoundStore.{SoundStore}
use Rattle.preservation.proofs.OpenEffects.{Leaves, its-tables}
use Rattle.preservation.proofs.NameEffects.{dirent_to, row_of, Naming, with_name, has_named, Names, named_small, without_name, has-unnamed}
use Rattle.preservation.proofs.DirentRow.{dirent-length, row-slot}

module _ (s : Store) (h : SoundStore s) where
  -- ---- within a directory: entry i of d, which names y, gets another name

  abbrev pub with_other_name : (name : paths.Name) (d : Slot) (i : ℕ) (y : Slot) → Tables
  with_other_name name d i y = dirent_to d.0 i (row_of name y) ((tables_of s).file d.0 FILE_LENGTH) (up ((tables_of s).file d.0 FILE_VERSION)) (tables_of s)

  pub rename-leaves : (name : paths.Name) (d : Slot) (i : ℕ) (y : Slot) → Names s h d i y → Fits (tables_of s) d.0 i (row_of name y) (up ((tables_of s).file d.0 FILE_VERSION)) y.0 →
      Leaves (apply_all (name_changes name y (renames (view s).tree.file d (entry i))) s) (with_other_name name d i y)
  unfolding name_changes apply_all tables_of renamed placed
  rename-leaves name d i y n f = record {
    has = has-file_word (has-file_word (has-dirent (its-tables s h) d.0 i (dirent name y) (row_of name y) n.dir-small n.dirent-small (dirent-length name y) (λ k. refl))
        d.0 FILE_LENGTH ((tables_of s).file d.0 FILE_LENGTH) n.dir-small (omega arith)) d.0 FILE_VERSION (up ((tables_of s).file d.0 FILE_VERSION)) n.dir-small (omega arith);
    sound = same-columns SLOTS (renamed d.0 i (row_of name y) (up ((tables_of s).file d.0 FILE_VERSION)) y.0 (tables_of s)) (with_other_name name d i y).file
        (λ j. split j y.0 (λ q e. rw (e, q)) (λ q e. rw e))
        (renamed-sound (tables_of s) h.tables d.0 i (row_of name y) (up ((tables_of s).file d.0 FILE_VERSION)) y.0 f (row-slot name y (omega (arith, named_small s h d i y n))) n.there);
  }

  -- ---- from directory d to directory d', whose entry j is empty: y is no directory

  module _ (name : paths.Name) (d : Slot) (i : ℕ) (d' : Slot) (j : ℕ) (y : Slot) (n : Names s h d i y) (k : (tables_of s).file y.0 FILE_KIND ≡ DIRECTORY → ⊥) (new : Naming (tables_of s) name d' j y) (ne : d'.0 ≡ d.0 → ⊥) where
    abbrev t : ℕ
    t = up ((tables_of s).file d.0 FILE_VERSION)

    abbrev t' : ℕ
    t' = up ((tables_of s).file d'.0 FILE_VERSION)

    -- the store leaves the file's record, the tables lose a name and get one: the columns agree
    columns : Columns (linked d'.0 j (row_of name y) t' y.0 (unlinked d.0 i t y.0 (tables_of s))).file (with_name s h name d' j y (without_name s h d i)).file
    unfolding linked unlinked placed
    columns x = rw (ne_eqb d'.0 d.0 ne, eq-eqb y.0 y.0 refl) (split x y.0 (λ q e. rw (e, q, again)) (λ q e. rw e))
      where
        again : (tables_of s).file y.0 FILE_LINKS - 1 + 1 ≡ (tables_of s).file y.0 FILE_LINKS
        again = omega (arith, h.tables.tree.links y.0 (named_small s h d i y n) n.not_root, naming-at (col (tables_of s).file FILE_KIND) (dirent_row (tables_of s).byte) d.0 i y.0 n.dir-small n.dirent-small n.dir-kind n.there)

    pub transfer-leaves : Leaves (apply_all (transfer_changes name (loses (view s).tree.file d (entry i)) (gains (view s).tree.file d' (entry j)) y) s) (with_name s h name d' j y (without_name s h d i))
    unfolding transfer_changes unname_changes name_changes apply_all tables_of
    transfer-leaves = record {
      has = has_named s h name d' j y new (has-unnamed s h d i y n);
      sound = unfold linked unlinked placed in same-columns SLOTS (linked d'.0 j (row_of name y) t' y.0 (unlinked d.0 i t y.0 (tables_of s))) (with_name s h name d' j y (without_name s h d i)).file columns
          (transferred-sound (tables_of s) h.tables d.0 i t y.0 n.dir-small n.dir-kind n.dirent-small n.there n.not_root (up-most ((tables_of s).file d.0 FILE_VERSION)) k d'.0 j (row_of name y) t' new.fits ne
          (up-most ((tables_of s).file d'.0 FILE_VERSION)));
    }
