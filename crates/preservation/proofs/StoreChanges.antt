-- The tables of a store; each change of the store is a change of its tables.
use mathlib.Core.Path.{◌≡◌, refl, sym, ap, ◌∙◌, fun_ext}
use mathlib.Core.Bool.{Bool, true, false, cond}
use mathlib.Core.List.{List}
use Prim.Native.Nat.{ℕ, ◌+◌, ◌-◌, ◌*◌, ◌/◌, ◌%◌, ◌≤◌, ◌<◌}
use native.Mathlib.Omega.{arith}
use native.Mathlib.Decide.{dec_lt}
use lib.Dec.{ltb}
use lib.ListN.{length, get_or, set, length-set, get_or-eq_default}
use lib.Seq.{sets, length-sets}
use borrow.Author.Tests.{eq-eqb, ne_eqb, lt-ltb, le-ltb}
use Rattle.rules.specs.Layout.{SLOTS, BLOCK, DIRENT_WIDTH, DIRENTS, OPEN_FILES, PROCESSES, DESCRIPTORS, FILE_WIDTH, OPEN_FILE_WIDTH, PROCESS_WIDTH, PROCESS_DESCRIPTOR}
use Rattle.rules.specs.Store.{Store, store, tab, proc_of, desc_of, puts, zeros, change, file_word, clear_to, open_word, open_zero, proc_word, proc_zero}
use Rattle.rules.specs.Store as rules
use Rattle.rules.proofs.Lists.{length-zeros, puts-sets}
use Rattle.preservation.proofs.Tests.{split, upd, upd2, upd_row}
use Rattle.preservation.proofs.Tables.{Tables, fill, over_row, file_to, bytes_to, open_to, proc_to, desc_to, file_row_to, open_row_to, proc_row_to}
use Rattle.preservation.proofs.FlatList.{tab-run, tab-set, tab-row, sets-run, upd2-row, get_or-zeros}
use Rattle.preservation.proofs.Remake.{remade}

unfoldable pub tables_of : Store → Tables
tables_of s = record { file = tab FILE_WIDTH s.files; byte = tab BLOCK s.contents; open_files = tab OPEN_FILE_WIDTH s.open_files; proc = proc_of s.processes; desc = desc_of s.processes }

pub record Sized (s : Store) : Type 0 where
  pub files-size : length s.files ≡ SLOTS * FILE_WIDTH
  pub contents-size : length s.contents ≡ SLOTS * BLOCK
  pub open-files-size : length s.open_files ≡ OPEN_FILES * OPEN_FILE_WIDTH
  pub processes-size : length s.processes ≡ PROCESSES * PROCESS_WIDTH

-- store s has the tables m
pub record Has (s : Store) (m : Tables) : Type 0 where
  pub sized : Sized s
  pub is : tables_of s ≡ m

-- ---- one table changed: f is the changed list's table

module _ {s : Store} {m : Tables} (h : Has s m) where
  with-files : (F : List ℕ) (f : ℕ → ℕ → ℕ) → length F ≡ length s.files → tab FILE_WIDTH F ≡ f → Has (store F s.contents s.open_files s.processes) (record { file = f; byte = m.byte; open_files = m.open_files; proc = m.proc; desc = m.desc })
  unfolding tables_of
  with-files F f l e = record {
    sized = record { files-size = l ∙ h.sized.files-size; contents-size = h.sized.contents-size; open-files-size = h.sized.open-files-size; processes-size = h.sized.processes-size };
    is = ap (λ (g : ℕ → ℕ → ℕ). record { file = g; byte = tab BLOCK s.contents; open_files = tab OPEN_FILE_WIDTH s.open_files; proc = proc_of s.processes; desc = desc_of s.processes }) e
        ∙ ap (λ (n : Tables). record { file = f; byte = n.byte; open_files = n.open_files; proc = n.proc; desc = n.desc }) h.is;
  }

  with-contents : (C : List ℕ) (g : ℕ → ℕ → ℕ) → length C ≡ length s.contents → tab BLOCK C ≡ g → Has (store s.files C s.open_files s.processes) (record { file = m.file; byte = g; open_files = m.open_files; proc = m.proc; desc = m.desc })
  unfolding tables_of
  with-contents C g l e = record {
    sized = record { files-size = h.sized.files-size; contents-size = l ∙ h.sized.contents-size; open-files-size = h.sized.open-files-size; processes-size = h.sized.processes-size };
    is = ap (λ (f : ℕ → ℕ → ℕ). record { file = tab FILE_WIDTH s.files; byte = f; open_files = tab OPEN_FILE_WIDTH s.open_files; proc = proc_of s.processes; desc = desc_of s.processes }) e
        ∙ ap (λ (n : Tables). record { file = n.file; byte = g; open_files = n.open_files; proc = n.proc; desc = n.desc }) h.is;
  }

  with-open-files : (E : List ℕ) (g : ℕ → ℕ → ℕ) → length E ≡ length s.open_files → tab OPEN_FILE_WIDTH E ≡ g → Has (store s.files s.contents E s.processes) (record { file = m.file; byte = m.byte; open_files = g; proc = m.proc; desc = m.desc })
  unfolding tables_of
  with-open-files E g l e = record {
    sized = record { files-size = h.sized.files-size; contents-size = h.sized.contents-size; open-files-size = l ∙ h.sized.open-files-size; processes-size = h.sized.processes-size };
    is = ap (λ (f : ℕ → ℕ → ℕ). record { file = tab FILE_WIDTH s.files; byte = tab BLOCK s.contents; open_files = f; proc = proc_of s.processes; desc = desc_of s.processes }) e
        ∙ ap (λ (n : Tables). record { file = n.file; byte = n.byte; open_files = g; proc = n.proc; desc = n.desc }) h.is;
  }

  with-processes : (P : List ℕ) (f g : ℕ → ℕ → ℕ) → length P ≡ length s.processes → proc_of P ≡ f → desc_of P ≡ g → Has (store s.files s.contents s.open_files P) (record { file = m.file; byte = m.byte; open_files = m.open_files; proc = f; desc = g })
  unfolding tables_of
  with-processes P f g l e d = record {
    sized = record { files-size = h.sized.files-size; contents-size = h.sized.contents-size; open-files-size = h.sized.open-files-size; processes-size = l ∙ h.sized.processes-size };
    is = ap (λ (t : ℕ → ℕ → ℕ). record { file = tab FILE_WIDTH s.files; byte = tab BLOCK s.contents; open_files = tab OPEN_FILE_WIDTH s.open_files; proc = t; desc = desc_of P }) e
        ∙ ap (λ (t : ℕ → ℕ → ℕ). record { file = tab FILE_WIDTH s.files; byte = tab BLOCK s.contents; open_files = tab OPEN_FILE_WIDTH s.open_files; proc = f; desc = t }) d
        ∙ ap (λ (n : Tables). record { file = n.file; byte = n.byte; open_files = n.open_files; proc = f; desc = g }) h.is;
  }

  file-is : tab FILE_WIDTH s.files ≡ m.file
  file-is = unfold tables_of in ap (λ (n : Tables). n.file) h.is

  byte-is : tab BLOCK s.contents ≡ m.byte
  byte-is = unfold tables_of in ap (λ (n : Tables). n.byte) h.is

  open-files-is : tab OPEN_FILE_WIDTH s.open_files ≡ m.open_files
  open-files-is = unfold tables_of in ap (λ (n : Tables). n.open_files) h.is

  proc-is : proc_of s.processes ≡ m.proc
  proc-is = unfold tables_of in ap (λ (n : Tables). n.proc) h.is

  desc-is : desc_of s.processes ≡ m.desc
  desc-is = unfold tables_of in ap (λ (n : Tables). n.desc) h.is

  -- ---- files and their bytes

  pub has-file_word : (i c v : ℕ) → i < SLOTS → c < FILE_WIDTH → Has (change (file_word i c v) s) (file_to i c v m)
  has-file_word i c v hi hc = with-files (set s.files (FILE_WIDTH * i + c) v) (upd2 m.file i c v) (length-set s.files (FILE_WIDTH * i + c) v)
      (tab-set FILE_WIDTH s.files i c v (omega (arith, h.sized.files-size)) hc ∙ upd2-row (tab FILE_WIDTH s.files) i c v ∙ ap (λ (f : ℕ → ℕ → ℕ). upd2 f i c v) file-is)

  files-row : (i : ℕ) (ws : List ℕ) → i < SLOTS → length ws ≡ FILE_WIDTH → tab FILE_WIDTH (puts FILE_WIDTH s.files i 0 ws) ≡ upd m.file i (λ c. get_or ws c 0)
  files-row i ws hi l =
      ap (tab FILE_WIDTH) (puts-sets FILE_WIDTH s.files i 0 ws) ∙ tab-row FILE_WIDTH s.files i ws l (omega (arith, h.sized.files-size))
      ∙ ap (λ (f : ℕ → ℕ → ℕ). upd f i (λ c. get_or ws c 0)) file-is

  puts-length : (w : ℕ) (xs : List ℕ) (i : ℕ) (ws : List ℕ) → length (puts w xs i 0 ws) ≡ length xs
  puts-length w xs i ws = ap length (puts-sets w xs i 0 ws) ∙ length-sets xs (w * i + 0) ws

  pub has-file_to : (i : ℕ) (ws : List ℕ) → i < SLOTS → length ws ≡ FILE_WIDTH → Has (change (rules.file_to i ws) s) (file_row_to i (λ c. get_or ws c 0) m)
  has-file_to i ws hi l = with-files (puts FILE_WIDTH s.files i 0 ws) (upd m.file i (λ c. get_or ws c 0)) (puts-length FILE_WIDTH s.files i ws) (files-row i ws hi l)

  pub has-bytes_to : (i a : ℕ) (bs : List ℕ) → i < SLOTS → a + length bs ≤ BLOCK → Has (change (rules.bytes_to i a bs) s) (bytes_to i (over_row (m.byte i) a bs) m)
  has-bytes_to i a bs hi l = with-contents (sets s.contents (BLOCK * i + a) bs) (upd m.byte i (over_row (m.byte i) a bs)) (length-sets s.contents (BLOCK * i + a) bs)
      (tab-run BLOCK s.contents (sets s.contents (BLOCK * i + a) bs) i a bs (sets-run bs s.contents (BLOCK * i + a) (omega (arith, h.sized.contents-size))) l
      ∙ ap (λ (g : ℕ → ℕ → ℕ). upd g i (over_row (g i) a bs)) byte-is)

  cleared-bytes : (i : ℕ) → i < SLOTS → tab BLOCK (sets s.contents (BLOCK * i + 0) (zeros BLOCK)) ≡ upd m.byte i (λ _. 0)
  cleared-bytes i hi =
      tab-row BLOCK s.contents i (zeros BLOCK) (length-zeros BLOCK) (omega (arith, h.sized.contents-size))
      ∙ ap (λ (r : ℕ → ℕ). upd (tab BLOCK s.contents) i r) (fun_ext (λ k. get_or-zeros BLOCK k))
      ∙ ap (λ (g : ℕ → ℕ → ℕ). upd g i (λ _. 0)) byte-is

-- a slot's record, and all its bytes 0
pub has-clear_to : {s : Store} {m : Tables} → Has s m → (i : ℕ) (ws : List ℕ) → i < SLOTS → length ws ≡ FILE_WIDTH → Has (change (clear_to i ws) s) (remade i (λ c. get_or ws c 0) (λ _. 0) m)
unfolding remade
has-clear_to {s} {m} h i ws hi l =
    with-contents (with-files h (puts FILE_WIDTH s.files i 0 ws) (upd m.file i (λ c. get_or ws c 0)) (puts-length h FILE_WIDTH s.files i ws) (files-row h i ws hi l))
    (sets s.contents (BLOCK * i + 0) (zeros BLOCK)) (upd m.byte i (λ _. 0)) (length-sets s.contents (BLOCK * i + 0) (zeros BLOCK)) (cleared-bytes h i hi)

-- 16 bytes over directory entry p
over-fill : (g : ℕ → ℕ) (p : ℕ) (vs : List ℕ) → length vs ≡ DIRENT_WIDTH → over_row g (DIRENT_WIDTH * p) vs ≡ fill g p (λ k. get_or vs k 0)
over-fill g p vs l = fun_ext (λ b. at b (dec_lt b (DIRENT_WIDTH * p)) (dec_lt b (DIRENT_WIDTH * p + DIRENT_WIDTH)))
  where
    at : (b : ℕ) → Dec (b < DIRENT_WIDTH * p) → Dec (b < DIRENT_WIDTH * p + DIRENT_WIDTH) → over_row g (DIRENT_WIDTH * p) vs b ≡ fill g p (λ k. get_or vs k 0) b
    at b (yes q) r = rw (lt-ltb b (DIRENT_WIDTH * p) q, ne_eqb (b / DIRENT_WIDTH) p (λ y. omega arith))
    at b (no q) (yes r) =
        let e : b % DIRENT_WIDTH ≡ b - DIRENT_WIDTH * p = omega arith in
        rw (le-ltb b (DIRENT_WIDTH * p) (omega arith), lt-ltb b (DIRENT_WIDTH * p + length vs) (omega arith), eq-eqb (b / DIRENT_WIDTH) p (omega arith), e)
    at b (no q) (no r) = rw (le-ltb b (DIRENT_WIDTH * p) (omega arith), le-ltb b (DIRENT_WIDTH * p + length vs) (omega arith), ne_eqb (b / DIRENT_WIDTH) p (λ y. omega arith))

pub has-dirent : {s : Store} {m : Tables} → Has s m → (d p : ℕ) (vs : List ℕ) (r : ℕ → ℕ) → d < SLOTS → p < DIRENTS → length vs ≡ DIRENT_WIDTH → ((k : ℕ) → get_or vs k 0 ≡ r k) → Has (change (rules.bytes_to d (DIRENT_WIDTH * p) vs) s) (bytes_to d (fill (m.byte d) p r) m)
has-dirent {s} {m} h d p vs r hd hp l e =
    let w = has-bytes_to h d (DIRENT_WIDTH * p) vs hd (omega arith) in
    record { sized = w.sized; is = w.is ∙ ap (λ (g : ℕ → ℕ). bytes_to d g m) (over-fill (m.byte d) p vs l ∙ ap (fill (m.byte d) p) (fun_ext e)) }

-- ---- open files

module _ {s : Store} {m : Tables} (h : Has s m) where
  pub has-open_word : (e c v : ℕ) → e < OPEN_FILES → c < OPEN_FILE_WIDTH → Has (change (open_word e c v) s) (open_to e c v m)
  has-open_word e c v he hc = with-open-files h (set s.open_files (OPEN_FILE_WIDTH * e + c) v) (upd2 m.open_files e c v) (length-set s.open_files (OPEN_FILE_WIDTH * e + c) v)
      (tab-set OPEN_FILE_WIDTH s.open_files e c v (omega (arith, h.sized.open-files-size)) hc ∙ upd2-row (tab OPEN_FILE_WIDTH s.open_files) e c v ∙ ap (λ (f : ℕ → ℕ → ℕ). upd2 f e c v) (open-files-is h))

  -- the same, as a change of the row
  pub has-open_row : (e c v : ℕ) → e < OPEN_FILES → c < OPEN_FILE_WIDTH → Has (change (open_word e c v) s) (open_row_to e (upd (m.open_files e) c v) m)
  has-open_row e c v he hc = with-open-files h (set s.open_files (OPEN_FILE_WIDTH * e + c) v) (upd_row m.open_files e c v) (length-set s.open_files (OPEN_FILE_WIDTH * e + c) v)
      (tab-set OPEN_FILE_WIDTH s.open_files e c v (omega (arith, h.sized.open-files-size)) hc ∙ ap (λ (f : ℕ → ℕ → ℕ). upd_row f e c v) (open-files-is h))

  pub has-open_to : (e : ℕ) (ws : List ℕ) → e < OPEN_FILES → length ws ≡ OPEN_FILE_WIDTH → Has (change (rules.open_to e ws) s) (open_row_to e (λ c. get_or ws c 0) m)
  has-open_to e ws he l = with-open-files h (puts OPEN_FILE_WIDTH s.open_files e 0 ws) (upd m.open_files e (λ c. get_or ws c 0)) (puts-length h OPEN_FILE_WIDTH s.open_files e ws)
      (ap (tab OPEN_FILE_WIDTH) (puts-sets OPEN_FILE_WIDTH s.open_files e 0 ws) ∙ tab-row OPEN_FILE_WIDTH s.open_files e ws l (omega (arith, h.sized.open-files-size)) ∙ ap (λ (f : ℕ → ℕ → ℕ). upd f e (λ c. get_or ws c 0)) (open-files-is h))

  pub has-open_zero : (e : ℕ) → e < OPEN_FILES → Has (change (open_zero e) s) (open_row_to e (λ _. 0) m)
  has-open_zero e he = with-open-files h (sets s.open_files (OPEN_FILE_WIDTH * e + 0) (zeros OPEN_FILE_WIDTH)) (upd m.open_files e (λ _. 0)) (length-sets s.open_files (OPEN_FILE_WIDTH * e + 0) (zeros OPEN_FILE_WIDTH))
      (tab-row OPEN_FILE_WIDTH s.open_files e (zeros OPEN_FILE_WIDTH) (length-zeros OPEN_FILE_WIDTH) (omega (arith, h.sized.open-files-size))
      ∙ ap (λ (r : ℕ → ℕ). upd (tab OPEN_FILE_WIDTH s.open_files) e r) (fun_ext (λ k. get_or-zeros OPEN_FILE_WIDTH k)) ∙ ap (λ (f : ℕ → ℕ → ℕ). upd f e (λ _. 0)) (open-files-is h))

-- ---- processes: the words of a process's row before its descriptors, and its descriptors

abbrev head_of : (ℕ → ℕ → ℕ) → ℕ → ℕ → ℕ
head_of t p k = cond (ltb k PROCESS_DESCRIPTOR) (t p k) 0

abbrev tail_of : (ℕ → ℕ → ℕ) → ℕ → ℕ → ℕ
tail_of t p i = cond (ltb i DESCRIPTORS) (t p (PROCESS_DESCRIPTOR + i)) 0

proc-head : (P : List ℕ) → proc_of P ≡ head_of (tab PROCESS_WIDTH P)
proc-head P = fun_ext (λ p. fun_ext (λ k. at p k (dec_lt k PROCESS_DESCRIPTOR)))
  where
    at : (p k : ℕ) → Dec (k < PROCESS_DESCRIPTOR) → proc_of P p k ≡ head_of (tab PROCESS_WIDTH P) p k
    at p k (yes l) = rw (lt-ltb k PROCESS_DESCRIPTOR l, lt-ltb k PROCESS_WIDTH (omega arith))
    at p k (no l) = rw (le-ltb k PROCESS_DESCRIPTOR (omega arith))

desc-tail : (P : List ℕ) → desc_of P ≡ tail_of (tab PROCESS_WIDTH P)
unfolding desc_of
desc-tail P = fun_ext (λ p. fun_ext (λ k. at p k (dec_lt k DESCRIPTORS)))
  where
    at : (p k : ℕ) → Dec (k < DESCRIPTORS) → cond (ltb k DESCRIPTORS) (get_or P (PROCESS_WIDTH * p + (PROCESS_DESCRIPTOR + k)) 0) 0 ≡ tail_of (tab PROCESS_WIDTH P) p k
    at p k (yes l) = rw (lt-ltb k DESCRIPTORS l, lt-ltb (PROCESS_DESCRIPTOR + k) PROCESS_WIDTH (omega arith))
    at p k (no l) = rw (le-ltb k DESCRIPTORS (omega arith))

pub desc-past : (P : List ℕ) (p k : ℕ) → DESCRIPTORS ≤ k → desc_of P p k ≡ 0
unfolding desc_of
desc-past P p k h = rw (le-ltb k DESCRIPTORS h)

module _ {s : Store} {m : Tables} (h : Has s m) where
  heads : head_of (tab PROCESS_WIDTH s.processes) ≡ m.proc
  heads = sym (proc-head s.processes) ∙ proc-is h

  tails : tail_of (tab PROCESS_WIDTH s.processes) ≡ m.desc
  tails = sym (desc-tail s.processes) ∙ desc-is h

  pub has-desc_to : (p k v : ℕ) → p < PROCESSES → k < DESCRIPTORS → Has (change (rules.desc_to p k v) s) (desc_to p k v m)
  has-desc_to p k v hp hk = with-processes h P m.proc (upd_row m.desc p k v) (length-set s.processes (PROCESS_WIDTH * p + (PROCESS_DESCRIPTOR + k)) v)
      (proc-head P ∙ ap head_of row ∙ head-same ∙ heads) (desc-tail P ∙ ap tail_of row ∙ tail-to ∙ ap (λ (f : ℕ → ℕ → ℕ). upd_row f p k v) tails)
    where
      t : ℕ → ℕ → ℕ
      t = tab PROCESS_WIDTH s.processes

      P : List ℕ
      P = set s.processes (PROCESS_WIDTH * p + (PROCESS_DESCRIPTOR + k)) v

      row : tab PROCESS_WIDTH P ≡ upd_row t p (PROCESS_DESCRIPTOR + k) v
      row = tab-set PROCESS_WIDTH s.processes p (PROCESS_DESCRIPTOR + k) v (omega (arith, h.sized.processes-size)) (omega arith)

      head-same : head_of (upd_row t p (PROCESS_DESCRIPTOR + k) v) ≡ head_of t
      head-same = fun_ext (λ i. fun_ext (λ c. at i c (dec_lt c PROCESS_DESCRIPTOR)))
        where
          at : (i c : ℕ) → Dec (c < PROCESS_DESCRIPTOR) → head_of (upd_row t p (PROCESS_DESCRIPTOR + k) v) i c ≡ head_of t i c
          at i c (yes l) = split i p (λ q e. rw (e, ne_eqb c (PROCESS_DESCRIPTOR + k) (λ y. omega arith), q)) (λ q e. rw e)
          at i c (no l) = rw (le-ltb c PROCESS_DESCRIPTOR (omega arith))

      tail-to : tail_of (upd_row t p (PROCESS_DESCRIPTOR + k) v) ≡ upd_row (tail_of t) p k v
      tail-to = fun_ext (λ i. fun_ext (λ c. split i p
          (λ q e. split c k (λ r f. rw (e, eq-eqb (PROCESS_DESCRIPTOR + c) (PROCESS_DESCRIPTOR + k) (omega arith), f, lt-ltb c DESCRIPTORS (omega arith))) (λ r f. rw (e, ne_eqb (PROCESS_DESCRIPTOR + c) (PROCESS_DESCRIPTOR + k) (λ y. r (omega arith)), f)))
          (λ q e. rw e)))

  pub has-proc_word : (p c v : ℕ) → p < PROCESSES → c < PROCESS_DESCRIPTOR → Has (change (proc_word p c v) s) (proc_to p c v m)
  has-proc_word p c v hp hc = with-processes h P (upd_row m.proc p c v) m.desc (length-set s.processes (PROCESS_WIDTH * p + c) v)
      (proc-head P ∙ ap head_of row ∙ head-to ∙ ap (λ (f : ℕ → ℕ → ℕ). upd_row f p c v) heads) (desc-tail P ∙ ap tail_of row ∙ tail-same ∙ tails)
    where
      t : ℕ → ℕ → ℕ
      t = tab PROCESS_WIDTH s.processes

      P : List ℕ
      P = set s.processes (PROCESS_WIDTH * p + c) v

      row : tab PROCESS_WIDTH P ≡ upd_row t p c v
      row = tab-set PROCESS_WIDTH s.processes p c v (omega (arith, h.sized.processes-size)) (omega arith)

      head-to : head_of (upd_row t p c v) ≡ upd_row (head_of t) p c v
      head-to = fun_ext (λ i. fun_ext (λ k. split i p
          (λ q e. split k c (λ r f. rw (e, f, lt-ltb k PROCESS_DESCRIPTOR (omega arith))) (λ r f. rw (e, f)))
          (λ q e. rw e)))

      tail-same : tail_of (upd_row t p c v) ≡ tail_of t
      tail-same = fun_ext (λ i. fun_ext (λ k. split i p (λ q e. rw (e, ne_eqb (PROCESS_DESCRIPTOR + k) c (λ y. omega arith), q)) (λ q e. rw e)))

  pub has-proc_to : (p : ℕ) (ws : List ℕ) → p < PROCESSES → length ws ≡ PROCESS_DESCRIPTOR → Has (change (rules.proc_to p ws) s) (proc_row_to p (λ c. get_or ws c 0) m)
  has-proc_to p ws hp l = with-processes h P (upd m.proc p (λ c. get_or ws c 0)) m.desc (puts-length h PROCESS_WIDTH s.processes p ws)
      (proc-head P ∙ ap head_of row ∙ head-to ∙ ap (λ (f : ℕ → ℕ → ℕ). upd f p (λ c. get_or ws c 0)) heads) (desc-tail P ∙ ap tail_of row ∙ tail-same ∙ tails)
    where
      t : ℕ → ℕ → ℕ
      t = tab PROCESS_WIDTH s.processes

      P : List ℕ
      P = puts PROCESS_WIDTH s.processes p 0 ws

      row : tab PROCESS_WIDTH P ≡ upd t p (over_row (t p) 0 ws)
      row = ap (tab PROCESS_WIDTH) (puts-sets PROCESS_WIDTH s.processes p 0 ws)
          ∙ tab-run PROCESS_WIDTH s.processes (sets s.processes (PROCESS_WIDTH * p + 0) ws) p 0 ws (sets-run ws s.processes (PROCESS_WIDTH * p + 0) (omega (arith, h.sized.processes-size))) (omega arith)

      word : (c : ℕ) → Dec (c < PROCESS_DESCRIPTOR) → cond (ltb c PROCESS_DESCRIPTOR) (over_row (t p) 0 ws c) 0 ≡ get_or ws c 0
      word c (yes q) = let e : c - 0 ≡ c = omega arith in rw (lt-ltb c PROCESS_DESCRIPTOR q, le-ltb c 0 (omega arith), lt-ltb c (0 + length ws) (omega arith), e)
      word c (no q) = rw (le-ltb c PROCESS_DESCRIPTOR (omega arith)) (sym (get_or-eq_default ws 0 (omega arith)))

      head-to : head_of (upd t p (over_row (t p) 0 ws)) ≡ upd (head_of t) p (λ c. get_or ws c 0)
      head-to = fun_ext (λ i. fun_ext (λ c. split i p (λ q e. rw e (word c (dec_lt c PROCESS_DESCRIPTOR))) (λ q e. rw e)))

      tail-same : tail_of (upd t p (over_row (t p) 0 ws)) ≡ tail_of t
      tail-same = fun_ext (λ i. fun_ext (λ c. split i p (λ q e. rw (e, le-ltb (PROCESS_DESCRIPTOR + c) 0 (omega arith), le-ltb (PROCESS_DESCRIPTOR + c) (0 + length ws) (omega arith), q)) (λ q e. rw e)))

  pub has-proc_zero : (p : ℕ) → p < PROCESSES → Has (change (proc_zero p) s) (record { file = m.file; byte = m.byte; open_files = m.open_files; proc = upd m.proc p (λ _. 0); desc = upd m.desc p (λ _. 0) })
  has-proc_zero p hp = with-processes h P (upd m.proc p (λ _. 0)) (upd m.desc p (λ _. 0)) (length-sets s.processes (PROCESS_WIDTH * p + 0) (zeros PROCESS_WIDTH))
      (proc-head P ∙ ap head_of row ∙ head-to ∙ ap (λ (f : ℕ → ℕ → ℕ). upd f p (λ _. 0)) heads) (desc-tail P ∙ ap tail_of row ∙ tail-to ∙ ap (λ (f : ℕ → ℕ → ℕ). upd f p (λ _. 0)) tails)
    where
      t : ℕ → ℕ → ℕ
      t = tab PROCESS_WIDTH s.processes

      P : List ℕ
      P = sets s.processes (PROCESS_WIDTH * p + 0) (zeros PROCESS_WIDTH)

      row : tab PROCESS_WIDTH P ≡ upd t p (λ _. 0)
      row = tab-row PROCESS_WIDTH s.processes p (zeros PROCESS_WIDTH) (length-zeros PROCESS_WIDTH) (omega (arith, h.sized.processes-size))
          ∙ ap (λ (r : ℕ → ℕ). upd t p r) (fun_ext (λ k. get_or-zeros PROCESS_WIDTH k))

      either : (b : Bool) (x : ℕ) → cond b x x ≡ x
      either true x = refl
      either false x = refl

      head-to : head_of (upd t p (λ _. 0)) ≡ upd (head_of t) p (λ _. 0)
      head-to = fun_ext (λ i. fun_ext (λ c. split i p (λ q e. rw e (either (ltb c PROCESS_DESCRIPTOR) 0)) (λ q e. rw e)))

      tail-to : tail_of (upd t p (λ _. 0)) ≡ upd (tail_of t) p (λ _. 0)
      tail-to = fun_ext (λ i. fun_ext (λ c. split i p (λ q e. rw e (either (ltb c DESCRIPTORS) 0)) (λ q e. rw e)))
