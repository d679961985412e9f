-- The entries that the rules see: of a stored directory its own, in the root /rom after them, and in /rom the prompts.
use mathlib.Core.Path.{◌≡◌, refl, sym, ap, ◌∙◌}
use mathlib.Core.Bool.{true}
use mathlib.Core.List.{List, ◌++◌}
use Prim.Native.Nat.{ℕ, zero, suc, ◌+◌, ◌*◌, ◌≤◌, ◌<◌}
use native.Mathlib.Nat.{not-suc-le-zero}
use native.Mathlib.Omega.{arith}
use native.Mathlib.Decide.{dec_lt, ℕ_discrete}
use lib.Dec.{eqb}
use lib.ListN.{get_or, take, get_or-append, get_or-eq_default, length-take}
use lib.Seq.{get_or-append-add, get_or-drop, get_or-take}
use borrow.Author.Tests.{ne_eqb}
use Rattle.rules.specs.Layout.{SLOTS, DIRENT_WIDTH, DIRENTS, PROMPTS, ROM, NAME, FILE_KIND, DIRECTORY}
use Rattle.rules.specs.Store.{Store, view, slot}
use Rattle.rules.specs.Paths as paths
use Rattle.rules.specs.Directories.{dirent_at, dirent_slot, has_name, padded, dirent}
use Rattle.rules.specs.Rom.{ROM_NAME, prompt_name, prompt_count, prompt_dirents, rom_dirents, with_rom, seen_dirents}
use Rattle.rules.specs.declared.ids.Slot.{Slot}
use Rattle.rules.proofs.Lists.{length-padded, padded-at}
use Rattle.preservation.proofs.Tests.{means-all, means-eq}
use Rattle.preservation.proofs.Tables.{dirent_row}
use Rattle.preservation.proofs.Sound.{same_row, rom_row}
use Rattle.preservation.proofs.StoreChanges.{tables_of}
use Rattle.preservation.proofs.Shown.{has-name}
use Rattle.preservation.proofs.SoundStore.{SoundStore, agree}
use Rattle.preservation.proofs.NameEffects.{row_of}
use Rattle.preservation.proofs.PathNames.{GoodName}
use Rattle.preservation.proofs.DirentRow.{dirent-length, row-name, row-slot}
use Rattle.rules.proofs.Prompts.{count_most}

same_at : (r t : ℕ → ℕ) → same_row r t ≡ true → (k : ℕ) → k < NAME → r k ≡ t k
unfolding same_row
same_at r t e k h = (means-all NAME (λ k. eqb (r k) (t k)) (λ k. r k ≡ t k) (λ k. means-eq (r k) (t k))).holds e k h

-- an entry whose first byte is 0 has no good name
pub no_name : (D : List ℕ) (n : paths.Name) (i : ℕ) → GoodName n → get_or (dirent_at D i) 0 0 ≡ 0 → has_name D n i ≡ true → ⊥
no_name D n i g z t =
    let same : same_row (λ k. get_or (dirent_at D i) k 0) (λ k. get_or n k 0) ≡ true = sym (has-name D n i (λ k. get_or (dirent_at D i) k 0) (λ k _. refl)) ∙ t in
    g.bytes.no_zero 0 g.bytes.some_byte (sym (same_at (λ k. get_or (dirent_at D i) k 0) (λ k. get_or n k 0) same 0 (omega arith)) ∙ z)

-- ---- /rom

-- an entry before others: the first, and those after it
module _ (name : paths.Name) (y : Slot) (D : List ℕ) where
  first_entry : (k : ℕ) → k < DIRENT_WIDTH → get_or (dirent_at (dirent name y ++ D) 0) k 0 ≡ row_of name y k
  first_entry k h = get_or-append (dirent name y) D 0 k (rw (dirent-length name y) h)

  next-entry : (i k : ℕ) → get_or (dirent_at (dirent name y ++ D) (suc i)) k 0 ≡ get_or (dirent_at D i) k 0
  next-entry i k =
      let e : DIRENT_WIDTH * suc i + k ≡ DIRENT_WIDTH + (DIRENT_WIDTH * i + k) = omega arith in
      get_or-drop (DIRENT_WIDTH * suc i) (dirent name y ++ D) k 0 ∙ ap (λ (j : ℕ). get_or (dirent name y ++ D) j 0) e
      ∙ rw (dirent-length name y) at (get_or-append-add (dirent name y) D (DIRENT_WIDTH * i + k) 0) ∙ sym (get_or-drop (DIRENT_WIDTH * i) D k 0)

prompt-at : (n b i : ℕ) → b + n ≤ PROMPTS → i < n → get_or (dirent_at (prompt_dirents b n) i) NAME 0 ≡ SLOTS + (b + i)
unfolding prompt_dirents
prompt-at zero b i h l = absurd (not-suc-le-zero l)
prompt-at (suc n) b zero h l = first_entry (prompt_name b) (slot (SLOTS + b)) (prompt_dirents (suc b) n) NAME (omega arith) ∙ row-slot (prompt_name b) (slot (SLOTS + b)) (omega arith) ∙ omega arith
prompt-at (suc n) b (suc i) h l = next-entry (prompt_name b) (slot (SLOTS + b)) (prompt_dirents (suc b) n) i NAME ∙ prompt-at n (suc b) i (omega arith) (omega arith) ∙ omega arith

-- what a name in /rom leads to: prompt i, which is there
pub rom-entry : (R : List ℕ) (n : paths.Name) (i : ℕ) → GoodName n → has_name (rom_dirents R) n i ≡ true → (i < prompt_count PROMPTS R) × (dirent_slot (rom_dirents R) i ≡ SLOTS + i)
unfolding dirent_slot
rom-entry R n i g t = by (dec_lt i (prompt_count PROMPTS R))
  where
    all : List ℕ
    all = prompt_dirents 0 PROMPTS

    most : ℕ
    most = DIRENT_WIDTH * prompt_count PROMPTS R

    by : Dec (i < prompt_count PROMPTS R) → (i < prompt_count PROMPTS R) × (get_or (dirent_at (rom_dirents R) i) NAME 0 ≡ SLOTS + i)
    by (yes l) = (
      l,
      get_or-drop (DIRENT_WIDTH * i) (take most all) NAME 0 ∙ get_or-take most all (DIRENT_WIDTH * i + NAME) 0 (omega arith)
          ∙ sym (get_or-drop (DIRENT_WIDTH * i) all NAME 0) ∙ prompt-at PROMPTS 0 i (omega arith) (omega (arith, count_most PROMPTS R)) ∙ omega arith,
    )
    by (no l) = absurd (no_name (rom_dirents R) n i g
        (get_or-drop (DIRENT_WIDTH * i) (take most all) 0 0 ∙ get_or-eq_default (take most all) 0 (omega (arith, length-take most all))) t)

-- ---- the root

module _ (D : List ℕ) where
  root-own : (j : ℕ) → j < DIRENTS * DIRENT_WIDTH → get_or (with_rom D) j 0 ≡ get_or D j 0
  unfolding with_rom
  root-own j h = get_or-append (padded (DIRENTS * DIRENT_WIDTH) D) (dirent ROM_NAME (slot ROM)) 0 j (rw (length-padded (DIRENTS * DIRENT_WIDTH) D) h) ∙ padded-at (DIRENTS * DIRENT_WIDTH) D j h

  root-rom : (k : ℕ) → get_or (dirent_at (with_rom D) DIRENTS) k 0 ≡ row_of ROM_NAME (slot ROM) k
  unfolding with_rom
  root-rom k =
      get_or-drop (DIRENT_WIDTH * DIRENTS) (with_rom D) k 0
      ∙ rw (length-padded (DIRENTS * DIRENT_WIDTH) D) at (get_or-append-add (padded (DIRENTS * DIRENT_WIDTH) D) (dirent ROM_NAME (slot ROM)) k 0)

-- ---- a directory that is stored

module _ (R : List ℕ) (s : Store) (h : SoundStore s) (d : Slot) (hd : d.0 < SLOTS) (kd : (tables_of s).file d.0 FILE_KIND ≡ DIRECTORY) where
  abbrev pub seen_at : List ℕ
  seen_at = seen_dirents R (view s).tree.shown d.0

  pub own_row : (i k : ℕ) → k < DIRENT_WIDTH → get_or (dirent_at ((view s).tree.shown d.0) i) k 0 ≡ dirent_row (tables_of s).byte d.0 i k
  unfolding tables_of
  own_row = agree s h.sized d.0 hd kd

  seen-root : d.0 ≡ 0 → seen_at ≡ with_rom ((view s).tree.shown d.0)
  unfolding seen_dirents
  seen-root e = rw e

  seen_other : (d.0 ≡ 0 → ⊥) → seen_at ≡ (view s).tree.shown d.0
  unfolding seen_dirents
  seen_other n = rw (ne_eqb d.0 0 n, ne_eqb d.0 ROM (λ q. omega arith))

  pub seen-row : (i k : ℕ) → i < DIRENTS → k < DIRENT_WIDTH → get_or (dirent_at seen_at i) k 0 ≡ dirent_row (tables_of s).byte d.0 i k
  seen-row i k hi hk = by (ℕ_discrete d.0 0)
    where
      by : Dec (d.0 ≡ 0) → get_or (dirent_at seen_at i) k 0 ≡ dirent_row (tables_of s).byte d.0 i k
      by (yes e) = rw (seen-root e) (get_or-drop (DIRENT_WIDTH * i) (with_rom ((view s).tree.shown d.0)) k 0 ∙ root-own ((view s).tree.shown d.0) (DIRENT_WIDTH * i + k) (omega arith)
          ∙ sym (get_or-drop (DIRENT_WIDTH * i) ((view s).tree.shown d.0) k 0) ∙ own_row i k hk)
      by (no n) = rw (seen_other n) (own_row i k hk)

  pub seen-slot : (i : ℕ) → i < DIRENTS → dirent_slot seen_at i ≡ dirent_row (tables_of s).byte d.0 i NAME
  unfolding dirent_slot
  seen-slot i hi = seen-row i NAME hi (omega arith)

  -- entry i has the name
  pub seen-name : (name : paths.Name) (i : ℕ) → i < DIRENTS → has_name seen_at name i ≡ same_row (dirent_row (tables_of s).byte d.0 i) (λ k. get_or name k 0)
  seen-name name i hi = has-name seen_at name i (dirent_row (tables_of s).byte d.0 i) (λ k l. seen-row i k hi (omega arith))

  -- the seventeenth entry is /rom's, in the root; elsewhere it is empty
  pub last-rom : d.0 ≡ 0 → dirent_slot seen_at DIRENTS ≡ ROM
  unfolding dirent_slot
  last-rom e = rw (seen-root e) (root-rom ((view s).tree.shown d.0) NAME ∙ row-slot ROM_NAME (slot ROM) (omega arith))

  pub last_name : d.0 ≡ 0 → (name : paths.Name) → has_name seen_at name DIRENTS ≡ same_row rom_row (λ k. get_or name k 0)
  last_name e name = has-name seen_at name DIRENTS rom_row (λ k l. rw (seen-root e) (root-rom ((view s).tree.shown d.0) k ∙ row-name ROM_NAME (slot ROM) k l))

  pub last_empty : (d.0 ≡ 0 → ⊥) → (name : paths.Name) → GoodName name → has_name seen_at name DIRENTS ≡ true → ⊥
  last_empty n name g = no_name seen_at name DIRENTS g
      (rw (seen_other n) (own_row DIRENTS 0 (omega arith) ∙ (h.tables.slots.blocks d.0 hd).tail-zero kd (DIRENT_WIDTH * DIRENTS + 0) (omega arith) (omega arith)))
