-- What a change leaves of slot f: its bytes, and its record in some columns.
use mathlib.Core.Path.{◌≡◌, refl, sym, ap, ◌∙◌}
use mathlib.Core.Bool.{Bool, true, false, cond}
use mathlib.Core.List.{[]}
use Prim.Native.Nat.{ℕ, ◌+◌, ◌*◌, ◌≤◌, ◌<◌}
use native.Mathlib.Omega.{arith}
use lib.Dec.{ltb}
use lib.ListN.{length, get_or, take, drop_of_length-le, get_or-eq_default}
use lib.Seq.{ext_get_or}
use borrow.Author.Tests.{ne_eqb}
use Rattle.rules.specs.Layout.{SLOTS, BLOCK, FILE_WIDTH, FILE_KIND, FILE_OWNER, FILE_GROUP, FILE_LABEL, FILE_LENGTH, FILE_LINKS, FILE_VERSION, FREE}
use Rattle.rules.specs.Store.{Store, block}
use Rattle.rules.specs.declared.ids.Slot.{Slot}
use Rattle.rules.specs.declared.decision.Record.{Record}
use Rattle.rules.specs.declared.decision.Unnamed.{Unnamed}
use Rattle.rules.specs.declared.decision.Unnamed.TheVariants as unnamed
use Rattle.preservation.specs.Claims.{word, SameFile}
use Rattle.preservation.proofs.Tests.{split, upd2, upd2-elim, upd_other}
use Rattle.preservation.proofs.Tables.{Tables, file_to, bytes_to, file_row_to}
use Rattle.preservation.proofs.Remake.{remade}
use Rattle.preservation.proofs.StoreChanges.{tables_of, Sized}
use Rattle.preservation.proofs.Shown.{block-length, block-byte}
use Rattle.preservation.proofs.SoundStore.{SoundStore}
use Rattle.preservation.proofs.NameEffects.{unlinked_tables, Unnaming, keeps, frees}

-- K k: column k is meant
pub record Kept (K : ℕ → Type 0) (f : ℕ) (m n : Tables) : Type 0 where
  pub words : (k : ℕ) → K k → n.file f k ≡ m.file f k
  pub bytes : n.byte f ≡ m.byte f

-- another row of a changed table
row_other : (t : ℕ → ℕ → ℕ) (j c v i k : ℕ) → (i ≡ j → ⊥) → upd2 t j c v i k ≡ t i k
row_other t j c v i k n = upd2-elim (λ row. row k ≡ t i k) t j c v i (λ q. absurd (n q)) (λ _. refl)

module _ {K : ℕ → Type 0} (f : ℕ) where
  pub kept-both : {a b c : Tables} → Kept K f a b → Kept K f b c → Kept K f a c
  kept-both x y = record { words = λ k u. y.words k u ∙ x.words k u; bytes = y.bytes ∙ x.bytes }

  -- the files and their bytes are the same
  pub kept_same : (m n : Tables) → n.file ≡ m.file → n.byte ≡ m.byte → Kept K f m n
  kept_same m n a b = record { words = λ k _. ap (λ (t : ℕ → ℕ → ℕ). t f k) a; bytes = ap (λ (t : ℕ → ℕ → ℕ). t f) b }

  -- ---- changes of another slot, or of a column that is not meant

  -- bytes, length and version: a directory that gains or loses a name, a file that is written
  pub kept-written : (d : ℕ) (g : ℕ → ℕ) (z t : ℕ) (m : Tables) → (f ≡ d → ⊥) → Kept K f m (file_to d FILE_VERSION t (file_to d FILE_LENGTH z (bytes_to d g m)))
  kept-written d g z t m n = record {
    words = λ k _. row_other (file_to d FILE_LENGTH z m).file d FILE_VERSION t f k n ∙ row_other m.file d FILE_LENGTH z f k n;
    bytes = upd_other m.byte d g f n;
  }

  pub kept-remade : (y : ℕ) (row g : ℕ → ℕ) (m : Tables) → (f ≡ y → ⊥) → Kept K f m (remade y row g m)
  unfolding remade
  kept-remade y row g m n = record { words = λ k _. ap (λ (r : ℕ → ℕ). r k) (upd_other m.file y row f n); bytes = upd_other m.byte y g f n }

  pub kept_row : (y : ℕ) (row : ℕ → ℕ) (m : Tables) → (f ≡ y → ⊥) → Kept K f m (file_row_to y row m)
  kept_row y row m n = record { words = λ k _. ap (λ (r : ℕ → ℕ). r k) (upd_other m.file y row f n); bytes = refl }

  pub kept-bytes : (y : ℕ) (g : ℕ → ℕ) (m : Tables) → (f ≡ y → ⊥) → Kept K f m (bytes_to y g m)
  kept-bytes y g m n = record { words = λ k _. refl; bytes = upd_other m.byte y g f n }

  pub kept-column : (y c v : ℕ) (m : Tables) → ((k : ℕ) → K k → k ≡ c → ⊥) → Kept K f m (file_to y c v m)
  kept-column y c v m n = record { words = λ k u. rw (ne_eqb k c (n k u)); bytes = refl }

  pub kept-remove : (s : Store) (h : SoundStore s) (d : Slot) (i : ℕ) (y : Slot) (r : Record) → (f ≡ d.0 → ⊥) → (f ≡ y.0 → ⊥) → Kept K f (tables_of s) (unlinked_tables s h d i (unnamed.Freed y r))
  unfolding unlinked_tables
  kept-remove s h d i y r n q = kept-both (kept-written d.0 _ _ _ (tables_of s) n) (kept-remade y.0 _ _ _ q)

  -- an unlink leaves each slot that it does not free, but for its link count
  pub kept-unlink : (s : Store) (h : SoundStore s) (d : Slot) (i : ℕ) (y : Slot) → (f ≡ d.0 → ⊥) → ((k : ℕ) → K k → k ≡ FILE_LINKS → ⊥) → {u : Unnamed} → Unnaming s h y u → ((unlinked_tables s h d i u).file f FILE_KIND ≡ FREE → ⊥) →
      Kept K f (tables_of s) (unlinked_tables s h d i u)
  unfolding unlinked_tables
  kept-unlink s h d i y n l (keeps a) u = kept-both (kept-written d.0 _ _ _ (tables_of s) n) (kept-column y.0 FILE_LINKS _ _ l)
  kept-unlink s h d i y n l (frees a b) u = split f y.0 (λ q e. absurd (u (unfold remade in rw e))) (λ q _. kept-remove s h d i y _ n q)

pub unlinked-open-files : (s : Store) (h : SoundStore s) (d : Slot) (i : ℕ) {y : Slot} {u : Unnamed} → Unnaming s h y u → (unlinked_tables s h d i u).open_files ≡ (tables_of s).open_files
unfolding unlinked_tables remade
unlinked-open-files s h d i (keeps a) = refl
unlinked-open-files s h d i (frees a b) = refl

-- ---- of the store

pub kept_block : (s t : Store) (f : ℕ) → Sized s → Sized t → f < SLOTS → (tables_of t).byte f ≡ (tables_of s).byte f → block t.contents f ≡ block s.contents f
unfolding tables_of
kept_block s t f a b small e = ext_get_or 0 (block t.contents f) (block s.contents f) (block-length t.contents b.contents-size f small ∙ sym (block-length s.contents a.contents-size f small))
    (λ j _. block-byte t.contents b.contents-size f small j ∙ ap (λ (r : ℕ → ℕ). r j) e ∙ sym (block-byte s.contents a.contents-size f small j))

-- past the last slot nothing is stored
past_word : (s : Store) (f k : ℕ) → Sized s → SLOTS ≤ f → word s f k ≡ 0
past_word s f k z l = by (ltb k FILE_WIDTH)
  where
    by : (b : Bool) → cond b (get_or s.files (FILE_WIDTH * f + k) 0) 0 ≡ 0
    by true = get_or-eq_default s.files 0 (omega (arith, z.files-size))
    by false = refl

past-block : (s : Store) (f : ℕ) → Sized s → SLOTS ≤ f → block s.contents f ≡ []
past-block s f z l = let n : length s.contents ≤ BLOCK * f = omega (arith, z.contents-size) in ap (take BLOCK) (drop_of_length-le s.contents n)

-- slot f has in t the record and the bytes that it has in s
abbrev pub AllSame : Store → Store → ℕ → Type 0
AllSame s t f = ((k : ℕ) → word t f k ≡ word s f k) × (block t.contents f ≡ block s.contents f)

pub past_same : (s t : Store) (f : ℕ) → Sized s → Sized t → SLOTS ≤ f → AllSame s t f
past_same s t f a b l = ((λ k. past_word t f k b l ∙ sym (past_word s f k a l)), past-block t f b l ∙ sym (past-block s f a l))

pub same-file : (s t : Store) (f : ℕ) → AllSame s t f → SameFile s t f
same-file s t f p = record { bytes = p.1; kind = p.0 FILE_KIND; owner = p.0 FILE_OWNER; group = p.0 FILE_GROUP; label = p.0 FILE_LABEL; length = p.0 FILE_LENGTH; version = p.0 FILE_VERSION }

pub unchanged : (s : Store) (f : ℕ) → SameFile s s f
unchanged s f = same-file s s f ((λ _. refl), refl)
