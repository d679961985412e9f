-- Processes: their words, and an open file that one more descriptor holds.
use mathlib.Core.Path.{◌≡◌, refl}
use mathlib.Core.Bool.{true}
use Prim.Native.Nat.{ℕ, ◌+◌, ◌≤◌, ◌<◌}
use native.Mathlib.Omega.{arith}
use mathlib.Core.List.{[], ◌∷◌}
use lib.ListN.{get_or}
use lib.Dec.{ltb}
use borrow.Author.Tests.{lt-ltb}
use Rattle.preservation.proofs.Tests.{split, upd}
use Rattle.preservation.proofs.Tables.{Tables, col, proc_to, proc_row_to}
use Rattle.preservation.proofs.Sound.{All, SoundBut, Process}
use Rattle.preservation.proofs.Rows.{references-to, process-used, process-free}
use Rattle.preservation.proofs.Counts.{ind-eq, ind-ne}
use Rattle.preservation.proofs.OneWord.{Held, held}
use Rattle.preservation.proofs.Open.{handed, handed-sound, open_count-row}
use Rattle.rules.specs.Layout.{PROCESSES, DESCRIPTORS, FILE_KIND, OPEN_REFERENCES, PROCESS_USED, PROCESS_LABEL, USER_MAX, LABEL_MAX, GROUP_MAX}
use Rattle.rules.specs.declared.request.Subject.{Subject}

-- ---- the words of process p

-- a process by its words
abbrev pub proc_row : Subject → ℕ → ℕ
proc_row who c = get_or (1 ∷ who.user ∷ who.group ∷ who.label ∷ []) c 0

-- its words are in range
pub record Ranged (who : Subject) : Type 0 where
  pub user-most : who.user ≤ USER_MAX
  pub group-most : who.group ≤ GROUP_MAX
  pub label-most : who.label ≤ LABEL_MAX

pub process-sound : (x : ℕ) (m : Tables) → SoundBut x m → (p : ℕ) (row : ℕ → ℕ) → Process row (m.desc p) → SoundBut x (proc_row_to p row m)
process-sound x m h p row w = record {
  slots = h.slots;
  tree = h.tree;
  live = h.live;
  opens = h.opens;
  procs = λ i hi. split i p (λ q t. rw (t, q) w) (λ q t. rw t (h.procs i hi));
}

-- execute: the label moves to l
pub execute-sound : (x : ℕ) (m : Tables) → SoundBut x m → (p l : ℕ) → p < PROCESSES → m.proc p PROCESS_USED ≡ 1 → l ≤ LABEL_MAX → SoundBut x (proc_to p PROCESS_LABEL l m)
execute-sound x m h p l hp a hl = let w = h.procs p hp in process-sound x m h p (upd (m.proc p) PROCESS_LABEL l) (process-used a w.user-most w.group-most hl w.desc-most)

-- fork: process q, which is free, is in use
pub spawn-sound : (x : ℕ) (m : Tables) → SoundBut x m → (q : ℕ) (who : Subject) → q < PROCESSES → Ranged who → SoundBut x (proc_row_to q (proc_row who) m)
spawn-sound x m h q who hq r = process-sound x m h q (proc_row who) (process-used refl r.user-most r.group-most r.label-most (h.procs q hq).desc-most)

-- exit: process q, which holds nothing, is free
pub retire-sound : (x : ℕ) (m : Tables) → SoundBut x m → (q : ℕ) → All DESCRIPTORS (λ k. m.desc q k ≡ 0) → SoundBut x (proc_row_to q (λ _. 0) m)
retire-sound x m h q z = process-sound x m h q (λ _. 0) (process-free z)

-- ---- descriptor k of q holds the open file e that descriptor j of p holds: duplicate, with q = p, and each step of fork

unfoldable pub shared : (q k e : ℕ) → Tables → Tables
shared q k e m = handed q k (e + 1) e (upd (m.open_files e) OPEN_REFERENCES (m.open_files e OPEN_REFERENCES + 1)) m

pub shared-sound : (x : ℕ) (m : Tables) → SoundBut x m → (p j q k e : ℕ) → p < PROCESSES → j < DESCRIPTORS → q < PROCESSES → k < DESCRIPTORS → (m.proc q PROCESS_USED ≡ 0 → ⊥) → m.desc p j ≡ e + 1 → m.desc q k ≡ 0 → SoundBut x (shared q k e m)
unfolding shared
shared-sound x m h p j q k e hp hj hq hk u d f =
    let a : ltb 0 (m.open_files e OPEN_REFERENCES) ≡ true = lt-ltb 0 (m.open_files e OPEN_REFERENCES) (omega (arith, o.open-refs)) in
    let b : ltb 0 (m.open_files e OPEN_REFERENCES + 1) ≡ true = lt-ltb 0 (m.open_files e OPEN_REFERENCES + 1) (omega arith) in
    handed-sound x m h q k (e + 1) e (upd (m.open_files e) OPEN_REFERENCES (m.open_files e OPEN_REFERENCES + 1)) hq hk u (omega (arith, o.small))
    (references-to (col m.file FILE_KIND) (m.open_files e) (h.opens.open-files e o.small) (m.open_files e OPEN_REFERENCES + 1) o.open-refs (λ z. omega arith))
    (λ i hi. split i e
    (λ g t. rw (t, g) (omega (arith, ind-eq (e + 1) (e + 1) refl, ind-ne (m.desc q k) (e + 1) (λ z. omega arith))))
    (λ g t. rw t (omega (arith, ind-ne (e + 1) (i + 1) (λ z. g (omega arith)), ind-ne (m.desc q k) (i + 1) (λ z. omega arith)))))
    (λ s hs n. omega (arith, rw (a, b) at (open_count-row m e (upd (m.open_files e) OPEN_REFERENCES (m.open_files e OPEN_REFERENCES + 1)) s o.small)))
  where
    o : Held m e
    o = held x m h p j e hp hj d
