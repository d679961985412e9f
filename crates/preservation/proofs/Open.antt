-- One descriptor and one open file change: open, close.
use mathlib.Core.Path.{◌≡◌, refl, sym}
use mathlib.Core.Bool.{Bool, true, false, ◌&&◌}
use Prim.Native.Nat.{ℕ, ◌+◌, ◌-◌, ◌≤◌, ◌<◌}
use native.Mathlib.Omega.{arith}
use mathlib.Core.List.{[], ◌∷◌}
use lib.ListN.{get_or}
use lib.Dec.{eqb, ltb}
use borrow.Author.Tests.{eq-eqb, ne_eqb, lt-ltb}
use Rattle.preservation.proofs.Tests.{split, upd, upd_row, upd-elim}
use Rattle.preservation.proofs.Sums.{ind}
use Rattle.preservation.proofs.Tables.{Tables, col}
use Rattle.preservation.proofs.Sound.{All, Sound, SoundBut, OpenFile, open_count}
use Rattle.preservation.proofs.Rows.{open-used, open_free, references-to, process-desc}
use Rattle.preservation.proofs.Counts.{ind-eq, ind-ne, holders-to, open_count-change}
use Rattle.preservation.proofs.OneWord.{Held, held}
use Rattle.preservation.proofs.Link.{loosen, tighten, tighten-past}
use Rattle.preservation.proofs.Remake.{open_count-at}
use Rattle.preservation.proofs.Create.{freed, freed-sound}
use Rattle.rules.specs.Rights.{MODE_READ}
use Rattle.rules.specs.Layout.{SLOTS, OPEN_FILES, PROCESSES, DESCRIPTORS, FILE_KIND, FILE_LINKS, PLAIN, OPEN_SLOT, OPEN_REFERENCES, PROCESS_USED, MODE_MAX, WORD_MAX}

-- an open file by its words
abbrev pub open_row : (slot mode offset refs : ℕ) → ℕ → ℕ
open_row slot mode offset refs c = get_or (slot ∷ mode ∷ offset ∷ refs ∷ []) c 0

-- descriptor k of process p becomes v, open file e becomes row
unfoldable pub handed : (p k v e : ℕ) → (ℕ → ℕ) → Tables → Tables
handed p k v e row m = record { file = m.file; byte = m.byte; open_files = upd m.open_files e row; proc = m.proc; desc = upd_row m.desc p k v }

-- A change of the open file and of the descriptor: files and tree stand; what the counts owe is supposed, and each row is the old one or the new.
pub handed-sound : (x : ℕ) (m : Tables) → SoundBut x m → (p k v e : ℕ) (row : ℕ → ℕ) → p < PROCESSES → k < DESCRIPTORS → (m.proc p PROCESS_USED ≡ 0 → ⊥) → v ≤ OPEN_FILES → OpenFile (col m.file FILE_KIND) row →
    All OPEN_FILES (λ i. upd m.open_files e row i OPEN_REFERENCES + ind (eqb (m.desc p k) (i + 1)) ≡ m.open_files i OPEN_REFERENCES + ind (eqb v (i + 1))) →
    All SLOTS (λ s. (s ≡ x → ⊥) → open_count (col m.open_files OPEN_SLOT) (col m.open_files OPEN_REFERENCES) s ≤ open_count (col (upd m.open_files e row) OPEN_SLOT) (col (upd m.open_files e row) OPEN_REFERENCES) s) → SoundBut x (handed p k v e row m)
unfolding handed
handed-sound x m h p k v e row hp hk u hv w counts more = record {
  slots = h.slots;
  tree = h.tree;
  live = record {
    once = h.live.once;
    alive = λ s hs n q. omega (arith, h.live.alive s hs n q, more s hs n);
  };
  opens = record {
    open-files = λ i hi. split i e (λ q t. rw t w) (λ q t. rw t (h.opens.open-files i hi));
    refs = λ i hi. omega (arith, counts i hi, holders-to m.desc p k v i hp hk, h.opens.refs i hi);
  };
  procs = λ i hi. split i p
      (λ q t. rw t (process-desc (h.procs i hi) (λ z. u (rw q at z)) (λ c hc. upd-elim (λ y. y ≤ OPEN_FILES) (m.desc p) k v c (λ _. hv) (λ _. (h.procs p hp).desc-most c hc))))
      (λ q t. rw t (h.procs i hi));
}

-- the counts of open files, row by row
pub open_count-row : (m : Tables) (e : ℕ) (row : ℕ → ℕ) (s : ℕ) → e < OPEN_FILES →
    open_count (col (upd m.open_files e row) OPEN_SLOT) (col (upd m.open_files e row) OPEN_REFERENCES) s + ind (eqb (m.open_files e OPEN_SLOT) s && ltb 0 (m.open_files e OPEN_REFERENCES)) ≡ open_count (col m.open_files OPEN_SLOT) (col m.open_files OPEN_REFERENCES) s + ind (eqb (row OPEN_SLOT) s && ltb 0 (row OPEN_REFERENCES))
open_count-row m e row s he =
    rw (eq-eqb e e refl) at (open_count-change (col m.open_files OPEN_SLOT) (col m.open_files OPEN_REFERENCES) (col (upd m.open_files e row) OPEN_SLOT) (col (upd m.open_files e row) OPEN_REFERENCES) e s he (λ i q. rw (ne_eqb i e q)) (λ i q. rw (ne_eqb i e q)))

-- ---- open

pub open-sound : (x : ℕ) (m : Tables) → SoundBut x m → (p k e s mode : ℕ) → p < PROCESSES → k < DESCRIPTORS → e < OPEN_FILES → (m.proc p PROCESS_USED ≡ 0 → ⊥) → m.desc p k ≡ 0 → m.open_files e OPEN_REFERENCES ≡ 0 →
    (s < SLOTS → m.file s FILE_KIND ≡ PLAIN) → ((s < SLOTS → ⊥) → mode ≡ MODE_READ.0) → 0 < mode → mode ≤ MODE_MAX → SoundBut x (handed p k (e + 1) e (open_row s mode 0 1) m)
open-sound x m h p k e s mode hp hk he u d f ks kr m1 m4 =
    handed-sound x m h p k (e + 1) e (open_row s mode 0 1) hp hk u (omega arith) (open-used (λ z. omega arith) ks kr m1 m4 (omega arith))
    (λ i hi. split i e
    (λ q t. rw (t, q) (omega (arith, ind-eq (e + 1) (e + 1) refl, ind-ne (m.desc p k) (e + 1) (λ z. omega arith))))
    (λ q t. rw t (omega (arith, ind-ne (e + 1) (i + 1) (λ z. q (omega arith)), ind-ne (m.desc p k) (i + 1) (λ z. omega arith)))))
    (λ y hy _. omega (arith, rw f at (open_count-row m e (open_row s mode 0 1) y he), none (eqb (m.open_files e OPEN_SLOT) y)))
  where
    none : (b : Bool) → ind (b && ltb 0 0) ≡ 0
    none true = refl
    none false = refl

-- ---- close: descriptor k of process p, which holds e, is emptied

module _ (m : Tables) (h : Sound m) (p k e : ℕ) (hp : p < PROCESSES) (hk : k < DESCRIPTORS) (u : m.proc p PROCESS_USED ≡ 0 → ⊥) (d : m.desc p k ≡ e + 1) where
  is_open : Held m e
  is_open = held SLOTS m h p k e hp hk d

  but-its-file : SoundBut (m.open_files e OPEN_SLOT) m
  but-its-file = loosen (m.open_files e OPEN_SLOT) m h

  pub slot-plain : m.open_files e OPEN_SLOT < SLOTS → m.file (m.open_files e OPEN_SLOT) FILE_KIND ≡ PLAIN
  slot-plain = (h.opens.open-files e is_open.small).plain is_open.open-refs

  false-and : (b : Bool) → ind (b && ltb 0 0) ≡ 0
  false-and true = refl
  false-and false = refl

  counts : (r : ℕ → ℕ) → r OPEN_REFERENCES + 1 ≡ m.open_files e OPEN_REFERENCES → (i : ℕ) → i < OPEN_FILES → upd m.open_files e r i OPEN_REFERENCES + ind (eqb (m.desc p k) (i + 1)) ≡ m.open_files i OPEN_REFERENCES + ind (eqb 0 (i + 1))
  counts r z i hi = split i e
      (λ q t. rw (t, q) (omega (arith, ind-eq (m.desc p k) (e + 1) d, ind-ne 0 (e + 1) (λ y. omega arith))))
      (λ q t. rw t (omega (arith, ind-ne (m.desc p k) (i + 1) (λ y. q (omega arith)), ind-ne 0 (i + 1) (λ y. omega arith))))

  -- other references remain
  pub close-keeps : 1 < m.open_files e OPEN_REFERENCES → Sound (handed p k 0 e (upd (m.open_files e) OPEN_REFERENCES (m.open_files e OPEN_REFERENCES - 1)) m)
  close-keeps l =
      let a : ltb 0 (m.open_files e OPEN_REFERENCES) ≡ true = lt-ltb 0 (m.open_files e OPEN_REFERENCES) (omega (arith, is_open.open-refs)) in
      let b : ltb 0 (m.open_files e OPEN_REFERENCES - 1) ≡ true = lt-ltb 0 (m.open_files e OPEN_REFERENCES - 1) (omega arith) in
      handed-sound SLOTS m h p k 0 e (upd (m.open_files e) OPEN_REFERENCES (m.open_files e OPEN_REFERENCES - 1)) hp hk u (omega arith)
      (references-to (col m.file FILE_KIND) (m.open_files e) (h.opens.open-files e is_open.small) (m.open_files e OPEN_REFERENCES - 1) is_open.open-refs (λ z. omega arith))
      (counts (upd (m.open_files e) OPEN_REFERENCES (m.open_files e OPEN_REFERENCES - 1)) (omega arith))
      (λ s hs n. omega (arith, rw (a, b) at (open_count-row m e (upd (m.open_files e) OPEN_REFERENCES (m.open_files e OPEN_REFERENCES - 1)) s is_open.small)))

  -- the open file goes: sound, but for the file that it was on
  last : m.open_files e OPEN_REFERENCES ≡ 1 → SoundBut (m.open_files e OPEN_SLOT) (handed p k 0 e (λ _. 0) m)
  last q = handed-sound (m.open_files e OPEN_SLOT) m but-its-file p k 0 e (λ _. 0) hp hk u (omega arith)
      open_free
      (counts (λ _. 0) (omega arith))
      (λ s hs n. omega (arith, rw (ne_eqb (m.open_files e OPEN_SLOT) s (λ z. n (sym z))) at (open_count-row m e (λ _. 0) s is_open.small), false-and (eqb 0 s)))

  -- the file is a prompt
  pub close-prompt : m.open_files e OPEN_REFERENCES ≡ 1 → (m.open_files e OPEN_SLOT < SLOTS → ⊥) → Sound (handed p k 0 e (λ _. 0) m)
  close-prompt q n = tighten-past (m.open_files e OPEN_SLOT) (handed p k 0 e (λ _. 0) m) (last q) n

  -- the file has a name
  pub close-named : m.open_files e OPEN_SLOT < SLOTS → m.open_files e OPEN_REFERENCES ≡ 1 → 0 < m.file (m.open_files e OPEN_SLOT) FILE_LINKS → Sound (handed p k 0 e (λ _. 0) m)
  close-named hs q l = tighten (m.open_files e OPEN_SLOT) (handed p k 0 e (λ _. 0) m) (last q)
      (unfold handed in (λ _ n. absurd (n (slot-plain hs)))) (unfold handed in (λ _. omega arith))

  -- the file has another open file i
  pub close_open : m.open_files e OPEN_SLOT < SLOTS → m.open_files e OPEN_REFERENCES ≡ 1 → (i : ℕ) → i < OPEN_FILES → (i ≡ e → ⊥) → (m.open_files i OPEN_REFERENCES ≡ 0 → ⊥) → m.open_files i OPEN_SLOT ≡ m.open_files e OPEN_SLOT → Sound (handed p k 0 e (λ _. 0) m)
  close_open hs q i hi n r s = tighten (m.open_files e OPEN_SLOT) (handed p k 0 e (λ _. 0) m) (last q)
      (unfold handed in (λ _ n. absurd (n (slot-plain hs)))) (unfold handed in (λ _. omega (arith, other)))
    where
      other : 0 < open_count (col (upd m.open_files e (λ _. 0)) OPEN_SLOT) (col (upd m.open_files e (λ _. 0)) OPEN_REFERENCES) (m.open_files e OPEN_SLOT)
      other = open_count-at (col (upd m.open_files e (λ _. 0)) OPEN_SLOT) (col (upd m.open_files e (λ _. 0)) OPEN_REFERENCES) i (m.open_files e OPEN_SLOT) hi (rw (ne_eqb i e n) s) (rw (ne_eqb i e n) r)

  -- the file has neither, and goes
  pub close-frees : m.open_files e OPEN_SLOT < SLOTS → m.open_files e OPEN_REFERENCES ≡ 1 → m.file (m.open_files e OPEN_SLOT) FILE_LINKS ≡ 0 → ((i : ℕ) → i < OPEN_FILES → (i ≡ e → ⊥) → (m.open_files i OPEN_REFERENCES ≡ 0 → ⊥) → m.open_files i OPEN_SLOT ≡ m.open_files e OPEN_SLOT → ⊥) →
      (t : ℕ) → t ≤ WORD_MAX → Sound (freed (m.open_files e OPEN_SLOT) t (handed p k 0 e (λ _. 0) m))
  unfolding handed
  close-frees hs q l none t ht = freed-sound (handed p k 0 e (λ _. 0) m) (m.open_files e OPEN_SLOT) t (last q) (record {
    small = hs;
    not_root = λ z. omega (arith, h.slots.root-kind, rw z at (slot-plain hs));
    no-links = l;
    not-open = λ i hi. split i e (λ g t. rw t (λ r. absurd (r refl))) (λ g t. rw t (none i hi g));
    no-dirents = λ z. absurd (omega (arith, z, slot-plain hs));
  }) ht
