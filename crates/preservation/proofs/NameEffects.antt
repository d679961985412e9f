-- Effects on names: link, create, make link, unlink, remove directory. Each leaves sound tables.
use mathlib.Core.Path.{◌≡◌, refl, sym, subst, ◌∙◌}
use mathlib.Core.Bool.{Bool, true, false, cond, not, false≢true}
use mathlib.Core.List.{List, [], ◌∷◌}
use Prim.Native.Nat.{ℕ, ◌+◌, ◌-◌, ◌≤◌, ◌<◌}
use native.Mathlib.Omega.{arith}
use native.Mathlib.Decide.{dec_lt, ℕ_discrete}
use lib.Dec.{eqb}
use lib.ListN.{length, get_or}
use borrow.Author.Tests.{eq-eqb, ne_eqb}
use Rattle.rules.specs.Layout.{SLOTS, BLOCK, DIRENTS, DIRENT_WIDTH, OPEN_FILES, NAME, NAMES}
use Rattle.rules.specs.Layout.{FILE_KIND, FILE_LENGTH, FILE_LINKS, FILE_VERSION, OPEN_SLOT, OPEN_REFERENCES, FREE, PLAIN, DIRECTORY}
use Rattle.rules.specs.Choice.{every}
use Rattle.rules.specs.Store.{words, Store, view, entry, up, zeros, apply_all, is_open}
use Rattle.rules.specs.Paths as paths
use Rattle.rules.specs.Directories.{dirent}
use Rattle.rules.specs.Checks.{gains, loses, unnaming}
use Rattle.rules.specs.Checks as checks
use Rattle.rules.specs.DecidePaths.{new_record, new_link}
use Rattle.rules.specs.Effects.{name_changes, unname_changes, create_changes, symlink_changes, link_changes, unnamed_changes, unlink_changes, remove_changes}
use Rattle.rules.specs.declared.ids.Slot.{Slot}
use Rattle.rules.specs.declared.request.Subject.{Subject}
use Rattle.rules.specs.declared.decision.NewFile.{NewFile}
use Rattle.rules.specs.declared.decision.Unnamed.{Unnamed}
use Rattle.rules.specs.declared.decision.Unnamed.TheVariants as unnamed
use Rattle.rules.proofs.Lists.{length-zeros}
use Rattle.preservation.proofs.Tests.{split, upd, upd2, Means, means-every, means-and, means-last, means-eq, means-not}
use Rattle.preservation.proofs.Tables.{Tables, col, dirent_row, fill, over_row, file_to, bytes_to, file_row_to}
use Rattle.preservation.proofs.Sound.{Sound, open_count}
use Rattle.preservation.proofs.Words.{up_is, up-most, length_most, link-most}
use Rattle.preservation.proofs.Columns.{Columns, same-columns}
use Rattle.preservation.proofs.Dirents.{placed}
use Rattle.preservation.proofs.Link.{linked}
use Rattle.preservation.proofs.Unlink.{unlinked, no_row}
use Rattle.preservation.proofs.Remake.{remade, Fresh, open_count-at}
use Rattle.preservation.proofs.Rows.{free_row}
use Rattle.preservation.proofs.Create.{Name, link-sound, created, create-sound, freed, unlink-sound, unlink-frees, remove-sound, target_small}
use Rattle.preservation.proofs.FlatList.{upd-same-value, get_or-zeros}
use Rattle.preservation.proofs.StoreChanges.{tables_of, Has, has-file_word, has-file_to, has-bytes_to, has-clear_to, has-dirent}
use Rattle.preservation.proofs.Counted.{means-open}
use Rattle.preservation.proofs.SoundStore.{SoundStore}
use Rattle.preservation.proofs.OpenEffects.{Leaves, its-tables}

-- entry i of directory d becomes r; the directory's length z and version t
abbrev pub dirent_to : (d i : ℕ) → (ℕ → ℕ) → (z t : ℕ) → Tables → Tables
dirent_to d i r z t m = file_to d FILE_VERSION t (file_to d FILE_LENGTH z (bytes_to d (fill (m.byte d) i r) m))

-- the bytes of a written entry
abbrev pub row_of : paths.Name → Slot → ℕ → ℕ
row_of name s k = get_or (dirent name s) k 0

-- a name that may be added: entry i of directory d is empty, and will name slot y
pub record Naming (m : Tables) (name : paths.Name) (d : Slot) (i : ℕ) (y : Slot) : Type 0 where
  pub bytes : length (dirent name y) ≡ DIRENT_WIDTH
  pub fits : Name m d.0 i (row_of name y) y.0

module _ (s : Store) (h : SoundStore s) where
  longer : (d : ℕ) → d < SLOTS → up ((tables_of s).file d FILE_LENGTH) ≡ (tables_of s).file d FILE_LENGTH + 1
  longer d hd = up_is ((tables_of s).file d FILE_LENGTH) (omega (arith, length_most SLOTS (tables_of s) h.tables d hd))

  -- ---- a name, written last: m is the rest

  abbrev pub with_name : (name : paths.Name) (d : Slot) (i : ℕ) (y : Slot) → Tables → Tables
  with_name name d i y m = dirent_to d.0 i (row_of name y) ((tables_of s).file d.0 FILE_LENGTH + 1) (up ((tables_of s).file d.0 FILE_VERSION)) m

  pub has_named : (name : paths.Name) (d : Slot) (i : ℕ) (y : Slot) → Naming (tables_of s) name d i y → {t : Store} {m : Tables} → Has t m →
      Has (apply_all (name_changes name y (gains (view s).tree.file d (entry i))) t) (with_name name d i y m)
  unfolding name_changes apply_all tables_of
  has_named name d i y n w =
      rw (longer d.0 hd)
      (has-file_word (has-file_word (has-dirent w d.0 i (dirent name y) (row_of name y) hd n.fits.dirent-small n.bytes (λ k. refl))
      d.0 FILE_LENGTH ((tables_of s).file d.0 FILE_LENGTH + 1) hd (omega arith)) d.0 FILE_VERSION (up ((tables_of s).file d.0 FILE_VERSION)) hd (omega arith))
    where
      hd : d.0 < SLOTS
      hd = n.fits.dir-small

  -- ---- link

  pub link-leaves : (name : paths.Name) (d : Slot) (i : ℕ) (y : Slot) → Naming (tables_of s) name d i y → y.0 < SLOTS → (tables_of s).file y.0 FILE_KIND ≡ PLAIN →
      Leaves (apply_all (link_changes name (gains (view s).tree.file d (entry i)) y (up ((view s).tree.file y.0 FILE_LINKS))) s)
      (with_name name d i y (file_to y.0 FILE_LINKS ((tables_of s).file y.0 FILE_LINKS + 1) (tables_of s)))
  unfolding link_changes apply_all tables_of linked placed
  link-leaves name d i y n hy k = record {
    has = rw (up_is ((tables_of s).file y.0 FILE_LINKS) (omega (arith, link-most SLOTS (tables_of s) h.tables y.0 hy)))
        (has_named name d i y n (has-file_word (its-tables s h) y.0 FILE_LINKS ((tables_of s).file y.0 FILE_LINKS + 1) hy (omega arith)));
    sound = same-columns SLOTS (linked d.0 i (row_of name y) (up ((tables_of s).file d.0 FILE_VERSION)) y.0 (tables_of s))
        (with_name name d i y (file_to y.0 FILE_LINKS ((tables_of s).file y.0 FILE_LINKS + 1) (tables_of s))).file
        (λ i. refl)
        (link-sound (tables_of s) h.tables d.0 i (row_of name y) (up ((tables_of s).file d.0 FILE_VERSION)) y.0 n.fits (up-most ((tables_of s).file d.0 FILE_VERSION)) hy k);
  }

  -- ---- create, make directory and make link

  -- the record that the rules give a new file
  abbrev pub new_row : Subject → NewFile → (d y : Slot) → ℕ → ℕ
  new_row who new d y c = get_or (words (new_record (view s).tree.file who new d y)) c 0

  -- what a new file owes that has the bytes g
  pub record Creates (name : paths.Name) (who : Subject) (d : Slot) (i : ℕ) (y : Slot) (new : NewFile) (g : ℕ → ℕ) : Type 0 where
    pub naming : Naming (tables_of s) name d i y
    pub small : y.0 < SLOTS
    pub free : (tables_of s).file y.0 FILE_KIND ≡ FREE
    pub fresh : Fresh (upd (new_row who new d y) FILE_LINKS 0) g
    pub used : new.kind ≡ FREE → ⊥
    pub not-deep : new.kind ≡ DIRECTORY → h.tables.tree.depths.depth d.0 < NAMES

  module _ (name : paths.Name) (who : Subject) (d : Slot) (i : ℕ) (y : Slot) where
    -- the record and the name; m has the bytes
    abbrev pub with_file : NewFile → Tables → Tables
    with_file new m = with_name name d i y (file_row_to y.0 (new_row who new d y) m)

    abbrev pub with_text : List ℕ → Tables
    with_text text = with_file (new_link (length text)) (bytes_to y.0 (over_row ((tables_of s).byte y.0) 0 text) (tables_of s))

    -- the store writes the record with its name counted, `created` counts it after: the columns agree
    file-sound : (new : NewFile) (g : ℕ → ℕ) → Creates name who d i y new g → Sound (with_file new (bytes_to y.0 g (tables_of s)))
    unfolding tables_of linked placed created remade
    file-sound new g c = same-columns SLOTS (created d.0 i (row_of name y) t y.0 (upd (new_row who new d y) FILE_LINKS 0) g (tables_of s)) (with_file new (tables_of s)).file columns
        (create-sound (tables_of s) h.tables d.0 i (row_of name y) t y.0 (upd (new_row who new d y) FILE_LINKS 0) g n (up-most ((tables_of s).file d.0 FILE_VERSION)) c.small c.free c.fresh c.used c.not-deep)
      where
        n : Name (tables_of s) d.0 i (row_of name y) y.0
        n = c.naming.fits

        t : ℕ
        t = up ((tables_of s).file d.0 FILE_VERSION)

        other : eqb d.0 y.0 ≡ false
        other = ne_eqb d.0 y.0 (λ z. omega (arith, n.dir-kind, rw (← z) at c.free))

        columns : Columns (created d.0 i (row_of name y) (up ((tables_of s).file d.0 FILE_VERSION)) y.0 (upd (new_row who new d y) FILE_LINKS 0) g (tables_of s)).file (with_file new (tables_of s)).file
        columns j = rw (other, eq-eqb y.0 y.0 refl) (split j y.0 (λ q e. rw e) (λ q e. rw e))

    -- the slot's bytes, 0 already, are not written
    pub create-leaves : (new : NewFile) → Creates name who d i y new ((tables_of s).byte y.0) → Leaves (apply_all (create_changes name (gains (view s).tree.file d (entry i)) y (new_record (view s).tree.file who new d y)) s) (with_file new (tables_of s))
    unfolding create_changes apply_all
    create-leaves new c = record {
      has = has_named name d i y c.naming (has-file_to (its-tables s h) y.0 (words (new_record (view s).tree.file who new d y)) c.small refl);
      sound = subst (λ (b : ℕ → ℕ → ℕ). Sound (with_file new (record { file = (tables_of s).file; byte = b; open_files = (tables_of s).open_files; proc = (tables_of s).proc; desc = (tables_of s).desc })))
          (upd-same-value (tables_of s).byte y.0) (file-sound new ((tables_of s).byte y.0) c);
    }

    pub symlink-leaves : (text : List ℕ) → Creates name who d i y (new_link (length text)) (over_row ((tables_of s).byte y.0) 0 text) →
        Leaves (apply_all (symlink_changes name text (gains (view s).tree.file d (entry i)) y (new_record (view s).tree.file who (new_link (length text)) d y)) s) (with_text text)
    unfolding symlink_changes apply_all
    symlink-leaves text c = record {
      has = has_named name d i y c.naming (has-bytes_to (has-file_to (its-tables s h) y.0 (words (new_record (view s).tree.file who (new_link (length text)) d y)) c.small refl) y.0 0 text c.small (omega (arith, fits)));
      sound = file-sound (new_link (length text)) (over_row ((tables_of s).byte y.0) 0 text) c;
    }
      where
        fits : length text ≤ BLOCK
        fits = c.fresh.block_row.length_most (λ z. omega arith)

  -- ---- unlink and remove directory: entry i of directory d names slot y

  pub record Names (d : Slot) (i : ℕ) (y : Slot) : Type 0 where
    pub dir-small : d.0 < SLOTS
    pub dir-kind : (tables_of s).file d.0 FILE_KIND ≡ DIRECTORY
    pub dirent-small : i < DIRENTS
    pub there : dirent_row (tables_of s).byte d.0 i NAME ≡ y.0
    pub not_root : y.0 ≡ 0 → ⊥

  pub named_small : (d : Slot) (i : ℕ) (y : Slot) → Names d i y → y.0 < SLOTS
  named_small d i y n = target_small (tables_of s) h.tables d.0 i 0 y.0 n.dir-small n.dir-kind n.dirent-small n.there n.not_root (omega arith)

  -- the directory without the name
  abbrev pub without_name : Slot → ℕ → Tables
  without_name d i = dirent_to d.0 i no_row ((tables_of s).file d.0 FILE_LENGTH - 1) (up ((tables_of s).file d.0 FILE_VERSION)) (tables_of s)

  pub has-unnamed : (d : Slot) (i : ℕ) (y : Slot) → Names d i y → Has (apply_all (unname_changes (loses (view s).tree.file d (entry i))) s) (without_name d i)
  unfolding unname_changes apply_all tables_of
  has-unnamed d i y n =
      has-file_word (has-file_word (has-dirent (its-tables s h) d.0 i (zeros DIRENT_WIDTH) no_row n.dir-small n.dirent-small (length-zeros DIRENT_WIDTH) (λ k. get_or-zeros DIRENT_WIDTH k))
      d.0 FILE_LENGTH ((tables_of s).file d.0 FILE_LENGTH - 1) n.dir-small (omega arith)) d.0 FILE_VERSION (up ((tables_of s).file d.0 FILE_VERSION)) n.dir-small (omega arith)

  -- what becomes of a file that loses a name
  pub data Unnaming (y : Slot) : Unnamed → Type 0 where
    keeps : 0 < (tables_of s).file y.0 FILE_LINKS - 1 + open_count (col (tables_of s).open_files OPEN_SLOT) (col (tables_of s).open_files OPEN_REFERENCES) y.0 → Unnaming y (unnamed.Kept y ((view s).tree.file y.0 FILE_LINKS - 1))
    frees : (tables_of s).file y.0 FILE_LINKS - 1 ≡ 0 → ((e : ℕ) → e < OPEN_FILES → ((tables_of s).open_files e OPEN_REFERENCES ≡ 0 → ⊥) → (tables_of s).open_files e OPEN_SLOT ≡ y.0 → ⊥) →
        Unnaming y (unnamed.Freed y (checks.freed (view s).tree.file y))

  pub unnaming-is : (y : Slot) → Unnaming y (unnaming (view s).tree.file (view s).open_files y)
  unfolding unnaming tables_of
  unnaming-is y = by (every (eqb ((view s).tree.file y.0 FILE_LINKS - 1) 0 ∷ not (is_open (view s).open_files y) ∷ [])) refl
    where
      test : Means (every (eqb ((view s).tree.file y.0 FILE_LINKS - 1) 0 ∷ not (is_open (view s).open_files y) ∷ []))
          (((view s).tree.file y.0 FILE_LINKS - 1 ≡ 0) × (0 < open_count (col (view s).open_files OPEN_SLOT) (col (view s).open_files OPEN_REFERENCES) y.0 → ⊥))
      test = means-every (means-and (means-eq ((view s).tree.file y.0 FILE_LINKS - 1) 0) (means-last (means-not (means-open (view s).open_files y.0))))

      alive : (every (eqb ((view s).tree.file y.0 FILE_LINKS - 1) 0 ∷ not (is_open (view s).open_files y) ∷ []) ≡ false) → Dec ((view s).tree.file y.0 FILE_LINKS - 1 ≡ 0) →
          Dec (0 < open_count (col (view s).open_files OPEN_SLOT) (col (view s).open_files OPEN_REFERENCES) y.0) → 0 < (view s).tree.file y.0 FILE_LINKS - 1 + open_count (col (view s).open_files OPEN_SLOT) (col (view s).open_files OPEN_REFERENCES) y.0
      alive e (yes a) (yes b) = omega arith
      alive e (yes a) (no b) = absurd (false≢true (sym e ∙ test.tests (a, b)))
      alive e (no a) b = omega arith

      by : (b : Bool) → every (eqb ((view s).tree.file y.0 FILE_LINKS - 1) 0 ∷ not (is_open (view s).open_files y) ∷ []) ≡ b →
          Unnaming y (cond b (unnamed.Freed y (checks.freed (view s).tree.file y)) (unnamed.Kept y ((view s).tree.file y.0 FILE_LINKS - 1)))
      by true e = let w = test.holds e in frees w.0 (λ i hi r q. w.1 (open_count-at (col (view s).open_files OPEN_SLOT) (col (view s).open_files OPEN_REFERENCES) i y.0 hi q r))
      by false e = keeps (alive e (ℕ_discrete ((view s).tree.file y.0 FILE_LINKS - 1) 0) (dec_lt 0 (open_count (col (view s).open_files OPEN_SLOT) (col (view s).open_files OPEN_REFERENCES) y.0)))

  -- the tables after an unlink
  unfoldable pub unlinked_tables : Slot → ℕ → Unnamed → Tables
  unlinked_tables d i (unnamed.Kept y links) = file_to y.0 FILE_LINKS links (without_name d i)
  unlinked_tables d i (unnamed.Freed y r) = remade y.0 (λ c. get_or (words r) c 0) (λ _. 0) (without_name d i)

  free_columns : (d : Slot) (i : ℕ) (y : Slot) (c : ℕ) (row : ℕ → ℕ) → Columns (upd (upd2 (without_name d i).file y.0 FILE_LINKS c) y.0 row) (upd (without_name d i).file y.0 row)
  free_columns d i y c row j = split j y.0 (λ q e. rw e) (λ q e. rw (e, e))

  pub unlink-leaves : (d : Slot) (i : ℕ) (y : Slot) → Names d i y → ((tables_of s).file y.0 FILE_KIND ≡ DIRECTORY → ⊥) → {u : Unnamed} → Unnaming y u →
      Leaves (apply_all (unlink_changes (loses (view s).tree.file d (entry i)) u) s) (unlinked_tables d i u)
  unfolding unlink_changes unnamed_changes unname_changes apply_all tables_of unlinked_tables unlinked placed
  unlink-leaves d i y n k (keeps a) = record {
    has = has-file_word (has-unnamed d i y n) y.0 FILE_LINKS ((tables_of s).file y.0 FILE_LINKS - 1) (named_small d i y n) (omega arith);
    sound = unlink-sound (tables_of s) h.tables d.0 i (up ((tables_of s).file d.0 FILE_VERSION)) y.0 n.dir-small n.dir-kind n.dirent-small n.there n.not_root (up-most ((tables_of s).file d.0 FILE_VERSION)) a;
  }
  unlink-leaves d i y n k (frees l o) = record {
    has = has-clear_to (has-unnamed d i y n) y.0 (words (checks.freed (view s).tree.file y)) (named_small d i y n) refl;
    sound = unfold freed remade in same-columns SLOTS (freed y.0 (up ((tables_of s).file y.0 FILE_VERSION)) (unlinked d.0 i (up ((tables_of s).file d.0 FILE_VERSION)) y.0 (tables_of s)))
        (upd (without_name d i).file y.0 (free_row (up ((tables_of s).file y.0 FILE_VERSION))))
        (free_columns d i y ((tables_of s).file y.0 FILE_LINKS - 1) (free_row (up ((tables_of s).file y.0 FILE_VERSION))))
        (unlink-frees (tables_of s) h.tables d.0 i (up ((tables_of s).file d.0 FILE_VERSION)) y.0 n.dir-small n.dir-kind n.dirent-small n.there n.not_root (up-most ((tables_of s).file d.0 FILE_VERSION)) k l o
        (up ((tables_of s).file y.0 FILE_VERSION)) (up-most ((tables_of s).file y.0 FILE_VERSION)));
  }

  pub remove-leaves : (d : Slot) (i : ℕ) (y : Slot) → Names d i y → (tables_of s).file y.0 FILE_KIND ≡ DIRECTORY → (tables_of s).file y.0 FILE_LENGTH ≡ 0 →
      Leaves (apply_all (remove_changes (loses (view s).tree.file d (entry i)) y (checks.freed (view s).tree.file y)) s) (unlinked_tables d i (unnamed.Freed y (checks.freed (view s).tree.file y)))
  unfolding remove_changes unname_changes apply_all tables_of unlinked_tables unlinked placed
  remove-leaves d i y n k l = record {
    has = has-clear_to (has-unnamed d i y n) y.0 (words (checks.freed (view s).tree.file y)) (named_small d i y n) refl;
    sound = unfold freed remade in same-columns SLOTS (freed y.0 (up ((tables_of s).file y.0 FILE_VERSION)) (unlinked d.0 i (up ((tables_of s).file d.0 FILE_VERSION)) y.0 (tables_of s)))
        (upd (without_name d i).file y.0 (free_row (up ((tables_of s).file y.0 FILE_VERSION))))
        (free_columns d i y ((tables_of s).file y.0 FILE_LINKS - 1) (free_row (up ((tables_of s).file y.0 FILE_VERSION))))
        (remove-sound (tables_of s) h.tables d.0 i (up ((tables_of s).file d.0 FILE_VERSION)) y.0 (up ((tables_of s).file y.0 FILE_VERSION)) n.dir-small n.dir-kind n.dirent-small n.there n.not_root
        (up-most ((tables_of s).file d.0 FILE_VERSION)) k l (up-most ((tables_of s).file y.0 FILE_VERSION)));
  }
