-- What must stay, said of tables, and the changes under which it does.
use mathlib.Core.Path.{◌≡◌, refl, sym, ap, ◌∙◌, fun_ext}
use mathlib.Core.Bool.{Bool, true, false, cond}
use Prim.Native.Nat.{ℕ, ◌≤◌}
use lib.Dec.{eqb}
use borrow.Author.Tests.{ne_eqb}
use Rattle.rules.specs.Layout.{DIRENT_WIDTH, NAME, FILE_KIND, FILE_OWNER, FILE_LENGTH, FILE_VERSION}
use Rattle.preservation.proofs.Tests.{split, upd, upd2}
use Rattle.preservation.proofs.Tables.{Tables, dirent_row, rows_of, file_to, file_row_to, bytes_to, open_to}
use Rattle.preservation.proofs.Dirents.{rows_fill}
use Rattle.preservation.proofs.Remake.{remade}
use Rattle.preservation.proofs.NameEffects.{dirent_to}

-- another row of a table with one word changed
pub row_other : (f : ℕ → ℕ → ℕ) (j c v i : ℕ) → (i ≡ j → ⊥) → upd2 f j c v i ≡ f i
row_other f j c v i n = fun_ext (λ k. rw (ne_eqb i j n) (same (eqb k c) (f i k)))
  where
    same : (b : Bool) (x : ℕ) → cond b x x ≡ x
    same true x = refl
    same false x = refl

module _ (foo bar i : ℕ) where
  -- foo's kind and owner, what its entry i names, and all of bar are in n as they are in m
  pub record Kept (m n : Tables) : Type 0 where
    pub foo-kind : n.file foo FILE_KIND ≡ m.file foo FILE_KIND
    pub foo-owner : n.file foo FILE_OWNER ≡ m.file foo FILE_OWNER
    pub names : dirent_row n.byte foo i NAME ≡ dirent_row m.byte foo i NAME
    pub bar-row : n.file bar ≡ m.file bar
    pub bar-bytes : n.byte bar ≡ m.byte bar

  pub kept-all : (m n : Tables) → n.file ≡ m.file → n.byte ≡ m.byte → Kept m n
  kept-all m n f b = record {
    foo-kind = ap (λ (t : ℕ → ℕ → ℕ). t foo FILE_KIND) f;
    foo-owner = ap (λ (t : ℕ → ℕ → ℕ). t foo FILE_OWNER) f;
    names = ap (λ (t : ℕ → ℕ → ℕ). dirent_row t foo i NAME) b;
    bar-row = ap (λ (t : ℕ → ℕ → ℕ). t bar) f;
    bar-bytes = ap (λ (t : ℕ → ℕ → ℕ). t bar) b;
  }

  -- the two slots are as they were
  pub kept-slots : (m n : Tables) → (n.file foo ≡ m.file foo) × (n.byte foo ≡ m.byte foo) → (n.file bar ≡ m.file bar) × (n.byte bar ≡ m.byte bar) → Kept m n
  kept-slots m n f b = record {
    foo-kind = ap (λ (t : ℕ → ℕ). t FILE_KIND) f.0;
    foo-owner = ap (λ (t : ℕ → ℕ). t FILE_OWNER) f.0;
    names = ap (λ (t : ℕ → ℕ). rows_of t i NAME) f.1;
    bar-row = b.0;
    bar-bytes = b.1;
  }

  -- another slot gets another record and other bytes
  pub kept-remade : (m n : Tables) (y : ℕ) (row g : ℕ → ℕ) → (foo ≡ y → ⊥) → (bar ≡ y → ⊥) → Kept m n → Kept m (remade y row g n)
  unfolding remade
  kept-remade m n y row g f b w = record {
    foo-kind = rw (ne_eqb foo y f) w.foo-kind;
    foo-owner = rw (ne_eqb foo y f) w.foo-owner;
    names = rw (ne_eqb foo y f) w.names;
    bar-row = rw (ne_eqb bar y b) w.bar-row;
    bar-bytes = rw (ne_eqb bar y b) w.bar-bytes;
  }

  -- another slot gets another record
  pub kept_row : (m n : Tables) (y : ℕ) (row : ℕ → ℕ) → (foo ≡ y → ⊥) → (bar ≡ y → ⊥) → Kept m n → Kept m (file_row_to y row n)
  kept_row m n y row f b w = record {
    foo-kind = rw (ne_eqb foo y f) w.foo-kind;
    foo-owner = rw (ne_eqb foo y f) w.foo-owner;
    names = w.names;
    bar-row = rw (ne_eqb bar y b) w.bar-row;
    bar-bytes = w.bar-bytes;
  }

  -- other bytes
  pub kept-bytes : (m n : Tables) (y : ℕ) (g : ℕ → ℕ) → (foo ≡ y → ⊥) → (bar ≡ y → ⊥) → Kept m n → Kept m (bytes_to y g n)
  kept-bytes m n y g f b w = record {
    foo-kind = w.foo-kind;
    foo-owner = w.foo-owner;
    names = rw (ne_eqb foo y f) w.names;
    bar-row = w.bar-row;
    bar-bytes = rw (ne_eqb bar y b) w.bar-bytes;
  }

  -- a word of an open file
  pub kept-open : (m n : Tables) (e c v : ℕ) → Kept m n → Kept m (open_to e c v n)
  kept-open m n e c v w = record { foo-kind = w.foo-kind; foo-owner = w.foo-owner; names = w.names; bar-row = w.bar-row; bar-bytes = w.bar-bytes }

  -- a word of another slot
  pub kept_word : (m n : Tables) (y c v : ℕ) → (foo ≡ y → ⊥) → (bar ≡ y → ⊥) → Kept m n → Kept m (file_to y c v n)
  kept_word m n y c v f b w = record {
    foo-kind = ap (λ (t : ℕ → ℕ). t FILE_KIND) (row_other n.file y c v foo f) ∙ w.foo-kind;
    foo-owner = ap (λ (t : ℕ → ℕ). t FILE_OWNER) (row_other n.file y c v foo f) ∙ w.foo-owner;
    names = w.names;
    bar-row = row_other n.file y c v bar b ∙ w.bar-row;
    bar-bytes = w.bar-bytes;
  }

  -- an entry of a directory that is not bar; entry i of foo goes on naming what it names
  pub kept-dirent : (m n : Tables) (d j : ℕ) (r : ℕ → ℕ) (z t : ℕ) → ((k : ℕ) → DIRENT_WIDTH ≤ k → r k ≡ 0) → (bar ≡ d → ⊥) → (foo ≡ d → i ≡ j → r NAME ≡ dirent_row m.byte foo i NAME) → Kept m n → Kept m (dirent_to d j r z t n)
  kept-dirent m n d j r z t end b e w = record {
    foo-kind = w.foo-kind;
    foo-owner = w.foo-owner;
    names = split foo d
        (λ q y. rw y (ap (λ (x : ℕ → ℕ → ℕ). x i NAME) (rows_fill (n.byte d) j r end) ∙ entry q))
        (λ q y. rw y w.names);
    bar-row = row_other (upd2 n.file d FILE_LENGTH z) d FILE_VERSION t bar b ∙ row_other n.file d FILE_LENGTH z bar b ∙ w.bar-row;
    bar-bytes = rw (ne_eqb bar d b) w.bar-bytes;
  }
    where
      entry : foo ≡ d → upd (rows_of (n.byte d)) j r i NAME ≡ dirent_row m.byte foo i NAME
      entry q = split i j
          (λ p y. rw y (e q p))
          (λ p y. rw y (ap (λ (x : ℕ). rows_of (n.byte x) i NAME) (sym q) ∙ w.names))
