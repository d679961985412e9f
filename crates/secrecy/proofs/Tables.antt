-- What the relation of two stores asks of each table, and that it is kept where a record is put anew.
use mathlib.Core.Path.{◌≡◌, ◌∙◌}
use mathlib.Core.List.{List}
use mathlib.Core.Logic.{◌≢◌}
use Prim.Native.Nat.{ℕ, ◌+◌, ◌*◌, ◌≤◌, ◌<◌}
use native.Mathlib.Omega.{arith}
use native.Mathlib.Decide.{dec_lt, ℕ_discrete}
use lib.ListN.{length, get_or, set, length-set}
use lib.Seq.{sets, length-sets, get_or-set_same, get_or-set_other}
use Rattle.rules.specs.Layout.{SLOTS, FILE_WIDTH, FILE_KIND, FILE_LABEL, FILE_LENGTH, PLAIN, PROCESSES, PROCESS_WIDTH, PROCESS_DESCRIPTOR, DESCRIPTORS, PROCESS_USED, PROCESS_LABEL}
use Rattle.rules.specs.Store.{tab, proc_of, puts, zeros}
use Rattle.rules.proofs.Lists.{puts-sets, length-zeros}
use Rattle.secrecy.proofs.Agree.{get_or-sets_before, get_or-sets-past, get_or-sets-in}

-- ---- the files: slot f has a plain file with label L, not shorter than n

pub record Own (f n L : ℕ) (F : List ℕ) : Type 0 where
  pub plain : tab FILE_WIDTH F f FILE_KIND ≡ PLAIN
  pub label : tab FILE_WIDTH F f FILE_LABEL ≡ L
  pub within : n ≤ tab FILE_WIDTH F f FILE_LENGTH
  pub room : FILE_WIDTH * f + FILE_WIDTH ≤ length F
  pub slot : f < SLOTS

-- a word of the file's own record that may be put anew
pub record OwnWord (n k x : ℕ) : Type 0 where
  pub kind : k ≢ FILE_KIND
  pub label : k ≢ FILE_LABEL
  pub length : k ≡ FILE_LENGTH → n ≤ x

word-other : (F : List ℕ) (t k x f j : ℕ) → k < FILE_WIDTH → j < FILE_WIDTH → (t ≡ f → k ≡ j → ⊥) → get_or (set F (FILE_WIDTH * t + k) x) (FILE_WIDTH * f + j) 0 ≡ get_or F (FILE_WIDTH * f + j) 0
word-other F t k x f j hk hj ne = get_or-set_other F (FILE_WIDTH * t + k) (FILE_WIDTH * f + j) x 0 (λ z. ne (omega arith) (omega arith))

pub own-word : (f n L : ℕ) (F : List ℕ) (t k x : ℕ) → k < FILE_WIDTH → (t ≡ f → OwnWord n k x) → Own f n L F → Own f n L (set F (FILE_WIDTH * t + k) x)
own-word f n L F t k x h w o = record {
  plain = word-other F t k x f FILE_KIND h (omega arith) (λ e q. (w e).kind q) ∙ o.plain;
  label = word-other F t k x f FILE_LABEL h (omega arith) (λ e q. (w e).label q) ∙ o.label;
  within = go (ℕ_discrete t f) (ℕ_discrete k FILE_LENGTH);
  room = rw length-set o.room;
  slot = o.slot;
}
  where
    go : Dec (t ≡ f) → Dec (k ≡ FILE_LENGTH) → n ≤ get_or (set F (FILE_WIDTH * t + k) x) (FILE_WIDTH * f + FILE_LENGTH) 0
    go (no ne) q = rw (word-other F t k x f FILE_LENGTH h (omega arith) (λ e _. ne e)) o.within
    go (yes e) (no ne) = rw (word-other F t k x f FILE_LENGTH h (omega arith) (λ _ z. ne z)) o.within
    go (yes e) (yes z) =
        let same : get_or (set F (FILE_WIDTH * f + FILE_LENGTH) x) (FILE_WIDTH * f + FILE_LENGTH) 0 ≡ x = get_or-set_same F (FILE_WIDTH * f + FILE_LENGTH) x 0 (omega (arith, o.room)) in
        rw (e, z, same) ((w e).length z)

-- another slot's record
record-other : (F : List ℕ) (t f j : ℕ) (ws : List ℕ) → length ws ≡ FILE_WIDTH → t ≢ f → j < FILE_WIDTH → get_or (puts FILE_WIDTH F t 0 ws) (FILE_WIDTH * f + j) 0 ≡ get_or F (FILE_WIDTH * f + j) 0
record-other F t f j ws w ne h = rw puts-sets (go (dec_lt t f))
  where
    go : Dec (t < f) → get_or (sets F (FILE_WIDTH * t + 0) ws) (FILE_WIDTH * f + j) 0 ≡ get_or F (FILE_WIDTH * f + j) 0
    go (yes lt) = get_or-sets-past F (FILE_WIDTH * t + 0) ws (FILE_WIDTH * f + j) (omega arith)
    go (no ge) = get_or-sets_before F (FILE_WIDTH * t + 0) ws (FILE_WIDTH * f + j) (omega (arith, ne))

pub own-record : (f n L : ℕ) (F : List ℕ) (t : ℕ) (ws : List ℕ) → length ws ≡ FILE_WIDTH → t ≢ f → Own f n L F → Own f n L (puts FILE_WIDTH F t 0 ws)
own-record f n L F t ws w ne o = record {
  plain = record-other F t f FILE_KIND ws w ne (omega arith) ∙ o.plain;
  label = record-other F t f FILE_LABEL ws w ne (omega arith) ∙ o.label;
  within = rw (record-other F t f FILE_LENGTH ws w ne (omega arith)) o.within;
  room = rw (puts-sets, length-sets) o.room;
  slot = o.slot;
}

-- ---- the processes: every label in use is among those reached

pub record Labels (reach : ℕ → Type 0) (P : List ℕ) : Type 0 where
  pub room : length P ≡ PROCESSES * PROCESS_WIDTH
  pub used : (p : ℕ) → p < PROCESSES → proc_of P p PROCESS_USED ≡ 1 → reach (proc_of P p PROCESS_LABEL)

module _ (reach : ℕ → Type 0) (P : List ℕ) (old : Labels reach P) (p : ℕ) where
  -- a descriptor is no word of a process's own
  desc-other : (i x q k : ℕ) → i < DESCRIPTORS → k < PROCESS_DESCRIPTOR → get_or (set P (PROCESS_WIDTH * p + (PROCESS_DESCRIPTOR + i)) x) (PROCESS_WIDTH * q + k) 0 ≡ get_or P (PROCESS_WIDTH * q + k) 0
  desc-other i x q k hi hk = get_or-set_other P (PROCESS_WIDTH * p + (PROCESS_DESCRIPTOR + i)) (PROCESS_WIDTH * q + k) x 0 (λ z. omega arith)

  pub labels-desc : (i x : ℕ) → i < DESCRIPTORS → Labels reach (set P (PROCESS_WIDTH * p + (PROCESS_DESCRIPTOR + i)) x)
  labels-desc i x h = record {
    room = rw length-set old.room;
    used = λ q b u. rw (desc-other i x q PROCESS_LABEL h (omega arith)) (old.used q b (rw (desc-other i x q PROCESS_USED h (omega arith)) at u));
  }

  pub labels-word : (l : ℕ) → reach l → Labels reach (set P (PROCESS_WIDTH * p + PROCESS_LABEL) l)
  labels-word l r = record { room = rw length-set old.room; used = λ q b u. go q b u (ℕ_discrete q p) }
    where
      used-same : (q : ℕ) → get_or (set P (PROCESS_WIDTH * p + PROCESS_LABEL) l) (PROCESS_WIDTH * q + PROCESS_USED) 0 ≡ get_or P (PROCESS_WIDTH * q + PROCESS_USED) 0
      used-same q = get_or-set_other P (PROCESS_WIDTH * p + PROCESS_LABEL) (PROCESS_WIDTH * q + PROCESS_USED) l 0 (λ z. omega arith)

      go : (q : ℕ) → q < PROCESSES → get_or (set P (PROCESS_WIDTH * p + PROCESS_LABEL) l) (PROCESS_WIDTH * q + PROCESS_USED) 0 ≡ 1 → Dec (q ≡ p) → reach (get_or (set P (PROCESS_WIDTH * p + PROCESS_LABEL) l) (PROCESS_WIDTH * q + PROCESS_LABEL) 0)
      go q b u (yes e) =
          let m : get_or (set P (PROCESS_WIDTH * q + PROCESS_LABEL) l) (PROCESS_WIDTH * q + PROCESS_LABEL) 0 ≡ l = get_or-set_same P (PROCESS_WIDTH * q + PROCESS_LABEL) l 0 (omega (arith, old.room)) in
          rw (← e, m) r
      go q b u (no ne) =
          let m : get_or (set P (PROCESS_WIDTH * p + PROCESS_LABEL) l) (PROCESS_WIDTH * q + PROCESS_LABEL) 0 ≡ get_or P (PROCESS_WIDTH * q + PROCESS_LABEL) 0 = get_or-set_other P (PROCESS_WIDTH * p + PROCESS_LABEL) (PROCESS_WIDTH * q + PROCESS_LABEL) l 0 (λ z. ne (omega arith)) in
          rw m (old.used q b (rw (used-same q) at u))

  -- a process's own words, or all of them
  pub labels-sets : (ws : List ℕ) → PROCESS_DESCRIPTOR ≤ length ws → length ws ≤ PROCESS_WIDTH → (get_or ws PROCESS_USED 0 ≡ 1 → reach (get_or ws PROCESS_LABEL 0)) → Labels reach (sets P (PROCESS_WIDTH * p + 0) ws)
  labels-sets ws lo hi new = record { room = rw length-sets old.room; used = λ q b u. go q b u (ℕ_discrete q p) (dec_lt p q) }
    where
      go : (q : ℕ) → q < PROCESSES → get_or (sets P (PROCESS_WIDTH * p + 0) ws) (PROCESS_WIDTH * q + PROCESS_USED) 0 ≡ 1 → Dec (q ≡ p) → Dec (p < q) → reach (get_or (sets P (PROCESS_WIDTH * p + 0) ws) (PROCESS_WIDTH * q + PROCESS_LABEL) 0)
      go q b u (yes e) z =
          let e0 : PROCESS_WIDTH * q + PROCESS_USED ≡ PROCESS_WIDTH * p + 0 + PROCESS_USED = omega arith in
          let e2 : PROCESS_WIDTH * q + PROCESS_LABEL ≡ PROCESS_WIDTH * p + 0 + PROCESS_LABEL = omega arith in
          let m : get_or (sets P (PROCESS_WIDTH * p + 0) ws) (PROCESS_WIDTH * p + 0 + PROCESS_LABEL) 0 ≡ get_or ws PROCESS_LABEL 0 = get_or-sets-in P (PROCESS_WIDTH * p + 0) ws PROCESS_LABEL (omega (arith, old.room)) (omega arith) in
          let y : get_or (sets P (PROCESS_WIDTH * p + 0) ws) (PROCESS_WIDTH * p + 0 + PROCESS_USED) 0 ≡ get_or ws PROCESS_USED 0 = get_or-sets-in P (PROCESS_WIDTH * p + 0) ws PROCESS_USED (omega (arith, old.room)) (omega arith) in
          rw (e2, m) (new (rw (e0, y) at u))
      go q b u (no ne) (yes lt) =
          let m : get_or (sets P (PROCESS_WIDTH * p + 0) ws) (PROCESS_WIDTH * q + PROCESS_LABEL) 0 ≡ get_or P (PROCESS_WIDTH * q + PROCESS_LABEL) 0 = get_or-sets-past P (PROCESS_WIDTH * p + 0) ws (PROCESS_WIDTH * q + PROCESS_LABEL) (omega arith) in
          let y : get_or (sets P (PROCESS_WIDTH * p + 0) ws) (PROCESS_WIDTH * q + PROCESS_USED) 0 ≡ get_or P (PROCESS_WIDTH * q + PROCESS_USED) 0 = get_or-sets-past P (PROCESS_WIDTH * p + 0) ws (PROCESS_WIDTH * q + PROCESS_USED) (omega arith) in
          rw m (old.used q b (rw y at u))
      go q b u (no ne) (no ge) =
          let m : get_or (sets P (PROCESS_WIDTH * p + 0) ws) (PROCESS_WIDTH * q + PROCESS_LABEL) 0 ≡ get_or P (PROCESS_WIDTH * q + PROCESS_LABEL) 0 = get_or-sets_before P (PROCESS_WIDTH * p + 0) ws (PROCESS_WIDTH * q + PROCESS_LABEL) (omega (arith, ne)) in
          let y : get_or (sets P (PROCESS_WIDTH * p + 0) ws) (PROCESS_WIDTH * q + PROCESS_USED) 0 ≡ get_or P (PROCESS_WIDTH * q + PROCESS_USED) 0 = get_or-sets_before P (PROCESS_WIDTH * p + 0) ws (PROCESS_WIDTH * q + PROCESS_USED) (omega (arith, ne)) in
          rw m (old.used q b (rw y at u))

  pub labels-own : (ws : List ℕ) → length ws ≡ PROCESS_DESCRIPTOR → (get_or ws PROCESS_USED 0 ≡ 1 → reach (get_or ws PROCESS_LABEL 0)) → Labels reach (puts PROCESS_WIDTH P p 0 ws)
  labels-own ws w new = rw puts-sets (labels-sets ws (omega arith) (omega arith) new)

  pub labels-zero : Labels reach (sets P (PROCESS_WIDTH * p + 0) (zeros PROCESS_WIDTH))
  labels-zero = labels-sets (zeros PROCESS_WIDTH) (omega (arith, length-zeros PROCESS_WIDTH)) (omega (arith, length-zeros PROCESS_WIDTH)) (λ z. absurd (omega arith))
