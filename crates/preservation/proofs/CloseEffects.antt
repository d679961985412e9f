-- A descriptor is emptied: close, and exit, which empties them all and frees the process.
use mathlib.Core.Path.{◌≡◌, refl, sym, subst, ap, ◌∙◌, fun_ext}
use mathlib.Core.Bool.{Bool, true, false, cond, not, false≢true, true≢false}
use mathlib.Core.Logic.{◌⊎◌, inl, inr}
use mathlib.Core.List.{[], ◌∷◌}
use Prim.Native.Nat.{ℕ, zero, suc, ◌+◌, ◌-◌, ◌≤◌, ◌<◌}
use native.Mathlib.Nat.{not-suc-le-zero}
use native.Mathlib.Omega.{arith}
use native.Mathlib.Decide.{dec_lt, ℕ_discrete}
use lib.Dec.{eqb, ltb}
use borrow.Author.Tests.{eq-eqb, ne_eqb, ltb-true, ltb-false, lt-ltb, le-ltb}
use Rattle.rules.specs.Layout.{SLOTS, OPEN_FILES, PROCESSES, DESCRIPTORS, FILE_KIND, FILE_LINKS, FILE_VERSION, OPEN_SLOT, OPEN_REFERENCES, PROCESS_USED, FREE, PLAIN}
use Rattle.rules.specs.Choice.{every}
use Rattle.rules.specs.Scan.{repeat}
use Rattle.rules.specs.Store.{words, Store, view, slot, ofd_of, up, apply_all, change, proc_zero, fd_of, open_but, is_on}
use Rattle.rules.specs.Checks.{held, ofd_held, closing, dropping, releasing}
use Rattle.rules.specs.Checks as checks
use Rattle.rules.specs.Effects.{release_changes, close_changes, released, released_all}
use Rattle.rules.specs.declared.ids.Pid.{Pid}
use Rattle.rules.specs.declared.ids.Fd.{Fd}
use Rattle.rules.specs.declared.decision.Release.{Release}
use Rattle.rules.specs.declared.decision.Release.TheVariants as release
use Rattle.rules.proofs.Scans.{repeat-step, repeat-done}
use Rattle.preservation.proofs.Tests.{split, upd, upd_other, upd_row, Means, means-every, means-and, means-last, means-eq}
use Rattle.preservation.proofs.Tables.{Tables, desc_to}
use Rattle.preservation.proofs.Scans.{any_found, any_none}
use Rattle.preservation.proofs.Sound.{Sound}
use Rattle.preservation.proofs.Counts.{upd_row-same, upd_row-other}
use Rattle.preservation.proofs.Words.{up-most}
use Rattle.preservation.proofs.OneWord.{Held}
use Rattle.preservation.proofs.OneWord as word
use Rattle.preservation.proofs.Remake.{remade}
use Rattle.preservation.proofs.Rows.{free_row}
use Rattle.preservation.proofs.Create.{freed}
use Rattle.preservation.proofs.Open.{handed, close-keeps, close-prompt, close-named, close_open, close-frees, slot-plain}
use Rattle.preservation.proofs.Processes.{retire-sound}
use Rattle.preservation.proofs.StoreChanges.{tables_of, Has, has-clear_to, has-open_row, has-open_zero, has-desc_to, has-proc_zero, desc-past}
use Rattle.preservation.proofs.Counted.{means-on}
use Rattle.preservation.proofs.SoundStore.{SoundStore, kept}
use Rattle.preservation.proofs.OpenEffects.{Leaves, leaves-sound, its-tables}

-- ---- what becomes of the open file of a descriptor that is emptied

module _ (s : Store) (h : SoundStore s) (p : Pid) (i : Fd) where
  pub data Releasing : Release → Type 0 where
    nothing : (tables_of s).desc p.0 i.0 ≡ 0 → Releasing release.Nothing
    keeps : (e : ℕ) → (tables_of s).desc p.0 i.0 ≡ e + 1 → 1 < (tables_of s).open_files e OPEN_REFERENCES → Releasing (release.Kept (ofd_of e) ((view s).open_files e OPEN_REFERENCES - 1))
    prompt : (e : ℕ) → (tables_of s).desc p.0 i.0 ≡ e + 1 → (tables_of s).open_files e OPEN_REFERENCES ≡ 1 → ((tables_of s).open_files e OPEN_SLOT < SLOTS → ⊥) → Releasing (release.Gone (ofd_of e))
    named : (e : ℕ) → (tables_of s).desc p.0 i.0 ≡ e + 1 → (tables_of s).open_files e OPEN_REFERENCES ≡ 1 → (tables_of s).open_files e OPEN_SLOT < SLOTS → 0 < (tables_of s).file ((tables_of s).open_files e OPEN_SLOT) FILE_LINKS → Releasing (release.Gone (ofd_of e))
    stays : (e : ℕ) → (tables_of s).desc p.0 i.0 ≡ e + 1 → (tables_of s).open_files e OPEN_REFERENCES ≡ 1 → (tables_of s).open_files e OPEN_SLOT < SLOTS → (j : ℕ) → j < OPEN_FILES → (j ≡ e → ⊥) → ((tables_of s).open_files j OPEN_REFERENCES ≡ 0 → ⊥) →
        (tables_of s).open_files j OPEN_SLOT ≡ (tables_of s).open_files e OPEN_SLOT → Releasing (release.Gone (ofd_of e))
    frees : (e : ℕ) → (tables_of s).desc p.0 i.0 ≡ e + 1 → (tables_of s).open_files e OPEN_REFERENCES ≡ 1 → (tables_of s).open_files e OPEN_SLOT < SLOTS → (tables_of s).file ((tables_of s).open_files e OPEN_SLOT) FILE_LINKS ≡ 0 →
        ((j : ℕ) → j < OPEN_FILES → (j ≡ e → ⊥) → ((tables_of s).open_files j OPEN_REFERENCES ≡ 0 → ⊥) → (tables_of s).open_files j OPEN_SLOT ≡ (tables_of s).open_files e OPEN_SLOT → ⊥) →
        Releasing (release.Freed (ofd_of e) (slot ((view s).open_files e OPEN_SLOT)) (checks.freed (view s).tree.file (slot ((view s).open_files e OPEN_SLOT))))

  module _ (hp : p.0 < PROCESSES) (hi : i.0 < DESCRIPTORS) where
    closing-is : (e : ℕ) → (tables_of s).desc p.0 i.0 ≡ e + 1 → (tables_of s).open_files e OPEN_REFERENCES ≡ 1 → Releasing (closing (view s).tree.file (view s).open_files (ofd_of e) (slot ((view s).open_files e OPEN_SLOT)))
    unfolding closing tables_of
    closing-is e d r = whose (dec_lt ((view s).open_files e OPEN_SLOT) SLOTS)
      where
        open-elsewhere : (view s).open_files e OPEN_SLOT < SLOTS → open_but (view s).open_files (ofd_of e) (slot ((view s).open_files e OPEN_SLOT)) ≡ true → Releasing (release.Gone (ofd_of e))
        open-elsewhere hs t =
            let f = any_found (is_on (view s).open_files (ofd_of e) (slot ((view s).open_files e OPEN_SLOT))) OPEN_FILES (unfold open_but in t) in
            let w = (means-on (view s).open_files e ((view s).open_files e OPEN_SLOT) f.at).holds f.passes in
            stays e d r hs f.at f.small w.0 w.1.0 w.1.1

        nowhere : open_but (view s).open_files (ofd_of e) (slot ((view s).open_files e OPEN_SLOT)) ≡ false → (j : ℕ) → j < OPEN_FILES → (j ≡ e → ⊥) → ((view s).open_files j OPEN_REFERENCES ≡ 0 → ⊥) → (view s).open_files j OPEN_SLOT ≡ (view s).open_files e OPEN_SLOT → ⊥
        nowhere t j hj n a b = false≢true (sym (any_none (is_on (view s).open_files (ofd_of e) (slot ((view s).open_files e OPEN_SLOT))) OPEN_FILES (unfold open_but in t) j hj) ∙ (means-on (view s).open_files e ((view s).open_files e OPEN_SLOT) j).tests (n, (a, b)))

        gone : (view s).open_files e OPEN_SLOT < SLOTS → (b : Bool) → open_but (view s).open_files (ofd_of e) (slot ((view s).open_files e OPEN_SLOT)) ≡ b → Dec ((view s).tree.file ((view s).open_files e OPEN_SLOT) FILE_LINKS ≡ 0) →
            every (eqb ((view s).tree.file ((view s).open_files e OPEN_SLOT) FILE_LINKS) 0 ∷ not (open_but (view s).open_files (ofd_of e) (slot ((view s).open_files e OPEN_SLOT))) ∷ []) ≡ false → Releasing (release.Gone (ofd_of e))
        gone hs true t q z = open-elsewhere hs t
        gone hs false t (no n) z = named e d r hs (omega arith)
        gone hs false t (yes q) z = absurd (false≢true (sym z ∙ unfold every in rw (eq-eqb ((view s).tree.file ((view s).open_files e OPEN_SLOT) FILE_LINKS) 0 q, t)))

        by : (view s).open_files e OPEN_SLOT < SLOTS → (b : Bool) → every (eqb ((view s).tree.file ((view s).open_files e OPEN_SLOT) FILE_LINKS) 0 ∷ not (open_but (view s).open_files (ofd_of e) (slot ((view s).open_files e OPEN_SLOT))) ∷ []) ≡ b →
            Releasing (cond b (release.Freed (ofd_of e) (slot ((view s).open_files e OPEN_SLOT)) (checks.freed (view s).tree.file (slot ((view s).open_files e OPEN_SLOT)))) (release.Gone (ofd_of e)))
        by hs true t =
            let w = (means-every (means-and (means-eq ((view s).tree.file ((view s).open_files e OPEN_SLOT) FILE_LINKS) 0) (means-last (means-eq-test (open_but (view s).open_files (ofd_of e) (slot ((view s).open_files e OPEN_SLOT))))))).holds t in
            frees e d r hs w.0 (nowhere w.1)
          where
            means-eq-test : (b : Bool) → Means (not b) (b ≡ false)
            means-eq-test true = record { holds = λ q. absurd (false≢true q); tests = λ q. absurd (true≢false q) }
            means-eq-test false = record { holds = λ _. refl; tests = λ _. refl }
        by hs false t = gone hs (open_but (view s).open_files (ofd_of e) (slot ((view s).open_files e OPEN_SLOT))) refl (ℕ_discrete ((view s).tree.file ((view s).open_files e OPEN_SLOT) FILE_LINKS) 0) t

        whose : Dec ((view s).open_files e OPEN_SLOT < SLOTS) →
            Releasing (cond (every (ltb ((view s).open_files e OPEN_SLOT) SLOTS ∷ eqb ((view s).tree.file ((view s).open_files e OPEN_SLOT) FILE_LINKS) 0 ∷ not (open_but (view s).open_files (ofd_of e) (slot ((view s).open_files e OPEN_SLOT))) ∷ []))
            (release.Freed (ofd_of e) (slot ((view s).open_files e OPEN_SLOT)) (checks.freed (view s).tree.file (slot ((view s).open_files e OPEN_SLOT)))) (release.Gone (ofd_of e)))
        whose (yes hs) = rw (lt-ltb ((view s).open_files e OPEN_SLOT) SLOTS hs)
            (unfold every in by hs (every (eqb ((view s).tree.file ((view s).open_files e OPEN_SLOT) FILE_LINKS) 0 ∷ not (open_but (view s).open_files (ofd_of e) (slot ((view s).open_files e OPEN_SLOT))) ∷ [])) refl)
        whose (no n) = rw (le-ltb ((view s).open_files e OPEN_SLOT) SLOTS (omega arith)) (unfold every in prompt e d r n)

    dropping-is : (e : ℕ) → (tables_of s).desc p.0 i.0 ≡ e + 1 → Releasing (dropping (view s).tree.file (view s).open_files (ofd_of e))
    unfolding dropping
    dropping-is e d = by (ltb 1 ((view s).open_files e OPEN_REFERENCES)) refl
      where
        o : Held (tables_of s) e
        o = word.held SLOTS (tables_of s) h.tables p.0 i.0 e hp hi d

        by : (b : Bool) → ltb 1 ((view s).open_files e OPEN_REFERENCES) ≡ b → Releasing (cond b (release.Kept (ofd_of e) ((view s).open_files e OPEN_REFERENCES - 1)) (closing (view s).tree.file (view s).open_files (ofd_of e) (slot ((view s).open_files e OPEN_SLOT))))
        by true t = keeps e d (unfold tables_of in ltb-true 1 ((view s).open_files e OPEN_REFERENCES) t)
        by false t = closing-is e d (one (ltb-false 1 ((view s).open_files e OPEN_REFERENCES) t))
          where
            one : (view s).open_files e OPEN_REFERENCES ≤ 1 → (tables_of s).open_files e OPEN_REFERENCES ≡ 1
            one l = let n : (tables_of s).open_files e OPEN_REFERENCES ≡ 0 → ⊥ = o.open-refs in let q : (tables_of s).open_files e OPEN_REFERENCES ≤ 1 = unfold tables_of in l in omega arith

    pub releasing-is : Releasing (releasing (view s).tree.file (view s).open_files (view s).desc p i)
    unfolding releasing held
    releasing-is = by (ℕ_discrete ((view s).desc p.0 i.0) 0)
      where
        by : Dec ((view s).desc p.0 i.0 ≡ 0) → Releasing (cond (not (eqb ((view s).desc p.0 i.0) 0)) (dropping (view s).tree.file (view s).open_files (ofd_held (view s).desc p i)) release.Nothing)
        by (yes q) = rw (eq-eqb ((view s).desc p.0 i.0) 0 q) (nothing (unfold tables_of in q))
        by (no n) = rw (ne_eqb ((view s).desc p.0 i.0) 0 n) (dropping-is ((view s).desc p.0 i.0 - 1) (unfold tables_of in (omega (arith, n))))

-- ---- the tables after it

-- slot f has the record and the bytes that it had
abbrev pub Still : Tables → Tables → ℕ → Type 0
Still m n f = (n.file f ≡ m.file f) × (n.byte f ≡ m.byte f)

-- each slot is a plain file that is freed, or still as it was
abbrev pub Steady : Tables → Tables → Type 0
Steady m n = (f : ℕ) → ((m.file f FILE_KIND ≡ PLAIN) × (n.file f FILE_KIND ≡ FREE)) ⊎ Still m n f

-- so what is not plain is
pub steady-still : (m n : Tables) → Steady m n → (f : ℕ) → (m.file f FILE_KIND ≡ PLAIN → ⊥) → Still m n f
steady-still m n y f u = by (y f)
  where
    by : ((m.file f FILE_KIND ≡ PLAIN) × (n.file f FILE_KIND ≡ FREE)) ⊎ Still m n f → Still m n f
    by (inl e) = absurd (u e.0)
    by (inr e) = e

steady-freed : (m : Tables) (y : ℕ) (row g : ℕ → ℕ) → m.file y FILE_KIND ≡ PLAIN → row FILE_KIND ≡ FREE → Steady m (remade y row g m)
unfolding remade
steady-freed m y row g k e f = split f y (λ q t. rw t (inl (rw q k, e))) (λ q t. rw t (inr (refl, refl)))

pub record Emptied (s t : Store) (p i : ℕ) : Type 0 where
  pub sound : SoundStore t
  pub proc-same : (tables_of t).proc ≡ (tables_of s).proc
  pub desc-to : (tables_of t).desc ≡ upd_row (tables_of s).desc p i 0
  pub steady : Steady (tables_of s) (tables_of t)

-- what a descriptor already holds
pub upd_row-id : (f : ℕ → ℕ → ℕ) (j c v : ℕ) → f j c ≡ v → upd_row f j c v ≡ f
upd_row-id f j c v e = fun_ext (λ i. fun_ext (λ k. split i j (λ q t. split k c (λ r u. rw (t, u, q, r) (sym e)) (λ r u. rw (t, u, q))) (λ q t. rw t)))

from-leaves : {s t : Store} {m : Tables} {p i : ℕ} → Leaves t m → m.proc ≡ (tables_of s).proc → m.desc ≡ upd_row (tables_of s).desc p i 0 → Steady (tables_of s) m → Emptied s t p i
from-leaves {s} {t} {m} l a b c = record {
  sound = leaves-sound l;
  proc-same = ap (λ (n : Tables). n.proc) l.has.is ∙ a;
  desc-to = ap (λ (n : Tables). n.desc) l.has.is ∙ b;
  steady = rw l.has.is c;
}

pub close-leaves : (s : Store) (h : SoundStore s) (p : Pid) (i : Fd) → p.0 < PROCESSES → i.0 < DESCRIPTORS → (tables_of s).proc p.0 PROCESS_USED ≡ 1 → {r : Release} → Releasing s h p i r → Emptied s (apply_all (close_changes p i r) s) p.0 i.0
unfolding close_changes release_changes apply_all handed
close-leaves s h p i hp hi u (nothing q) = from-leaves {m = desc_to p.0 i.0 0 (tables_of s)} (record {
  has = has-desc_to (its-tables s h) p.0 i.0 0 hp hi;
  sound = subst (λ (d : ℕ → ℕ → ℕ). Sound (record { file = (tables_of s).file; byte = (tables_of s).byte; open_files = (tables_of s).open_files; proc = (tables_of s).proc; desc = d })) (sym (upd_row-id (tables_of s).desc p.0 i.0 0 q)) h.tables;
}) refl refl (λ f. inr (refl, refl))
close-leaves s h p i hp hi u (keeps e d l) = from-leaves {m = handed p.0 i.0 0 e (upd ((tables_of s).open_files e) OPEN_REFERENCES ((tables_of s).open_files e OPEN_REFERENCES - 1)) (tables_of s)} (record {
  has = unfold tables_of in has-open_row (has-desc_to (its-tables s h) p.0 i.0 0 hp hi) e OPEN_REFERENCES ((view s).open_files e OPEN_REFERENCES - 1) (word.held SLOTS (tables_of s) h.tables p.0 i.0 e hp hi d).small (omega arith);
  sound = unfold tables_of in close-keeps (tables_of s) h.tables p.0 i.0 e hp hi (λ z. omega (arith, u, z)) d l;
}) refl refl (λ f. inr (refl, refl))
close-leaves s h p i hp hi u (prompt e d r n) = from-leaves {m = handed p.0 i.0 0 e (λ _. 0) (tables_of s)} (record {
  has = has-open_zero (has-desc_to (its-tables s h) p.0 i.0 0 hp hi) e (word.held SLOTS (tables_of s) h.tables p.0 i.0 e hp hi d).small;
  sound = close-prompt (tables_of s) h.tables p.0 i.0 e hp hi (λ z. omega (arith, u, z)) d r n;
}) refl refl (λ f. inr (refl, refl))
close-leaves s h p i hp hi u (named e d r hs l) = from-leaves {m = handed p.0 i.0 0 e (λ _. 0) (tables_of s)} (record {
  has = has-open_zero (has-desc_to (its-tables s h) p.0 i.0 0 hp hi) e (word.held SLOTS (tables_of s) h.tables p.0 i.0 e hp hi d).small;
  sound = close-named (tables_of s) h.tables p.0 i.0 e hp hi (λ z. omega (arith, u, z)) d hs r l;
}) refl refl (λ f. inr (refl, refl))
close-leaves s h p i hp hi u (stays e d r hs j hj n a b) = from-leaves {m = handed p.0 i.0 0 e (λ _. 0) (tables_of s)} (record {
  has = has-open_zero (has-desc_to (its-tables s h) p.0 i.0 0 hp hi) e (word.held SLOTS (tables_of s) h.tables p.0 i.0 e hp hi d).small;
  sound = close_open (tables_of s) h.tables p.0 i.0 e hp hi (λ z. omega (arith, u, z)) d hs r j hj n a b;
}) refl refl (λ f. inr (refl, refl))
close-leaves s h p i hp hi u (frees e d r hs l none) = from-leaves {m = freed ((tables_of s).open_files e OPEN_SLOT) (up ((tables_of s).file ((tables_of s).open_files e OPEN_SLOT) FILE_VERSION)) (handed p.0 i.0 0 e (λ _. 0) (tables_of s))} (record {
  has = unfold tables_of freed in has-clear_to (has-open_zero (has-desc_to (its-tables s h) p.0 i.0 0 hp hi) e (word.held SLOTS (tables_of s) h.tables p.0 i.0 e hp hi d).small)
      ((view s).open_files e OPEN_SLOT) (words (checks.freed (view s).tree.file (slot ((view s).open_files e OPEN_SLOT)))) hs refl;
  sound = close-frees (tables_of s) h.tables p.0 i.0 e hp hi (λ z. omega (arith, u, z)) d hs r l none (up ((tables_of s).file ((tables_of s).open_files e OPEN_SLOT) FILE_VERSION)) (up-most ((tables_of s).file ((tables_of s).open_files e OPEN_SLOT) FILE_VERSION));
}) (unfold freed remade in refl) (unfold freed remade in refl)
    (unfold freed in steady-freed (handed p.0 i.0 0 e (λ _. 0) (tables_of s)) ((tables_of s).open_files e OPEN_SLOT) (free_row (up ((tables_of s).file ((tables_of s).open_files e OPEN_SLOT) FILE_VERSION))) (λ _. 0)
    (slot-plain (tables_of s) h.tables p.0 i.0 e hp hi (λ z. omega (arith, u, z)) d hs) refl)

-- ---- exit

steady-both : (a b c : Tables) → Steady a b → Steady b c → Steady a c
steady-both a b c x y f = by (x f) (y f)
  where
    by : ((a.file f FILE_KIND ≡ PLAIN) × (b.file f FILE_KIND ≡ FREE)) ⊎ Still a b f → ((b.file f FILE_KIND ≡ PLAIN) × (c.file f FILE_KIND ≡ FREE)) ⊎ Still b c f →
        ((a.file f FILE_KIND ≡ PLAIN) × (c.file f FILE_KIND ≡ FREE)) ⊎ Still a c f
    by (inl d) (inl e) = inl (d.0, e.1)
    by (inr d) (inl e) = inl (ap (λ (r : ℕ → ℕ). r FILE_KIND) (sym d.0) ∙ e.0, e.1)
    by (inl d) (inr e) = inl (d.0, ap (λ (r : ℕ → ℕ). r FILE_KIND) e.0 ∙ d.1)
    by (inr d) (inr e) = inr (e.0 ∙ d.0, e.1 ∙ d.1)

-- the descriptors below i of process p are empty; other processes have theirs
pub record Closing (s : Store) (p i : ℕ) (t : Store) : Type 0 where
  pub sound : SoundStore t
  pub used : (tables_of t).proc p PROCESS_USED ≡ 1
  pub gone : (j : ℕ) → j < i → (tables_of t).desc p j ≡ 0
  pub steady : Steady (tables_of s) (tables_of t)
  pub proc-same : (tables_of t).proc ≡ (tables_of s).proc
  pub others : (q : ℕ) → (q ≡ p → ⊥) → (tables_of t).desc q ≡ (tables_of s).desc q

closing-one : (s : Store) (p : Pid) (i : ℕ) (t : Store) → p.0 < PROCESSES → i < DESCRIPTORS → Closing s p.0 i t → Closing s p.0 (i + 1) (released p i t)
unfolding released
closing-one s p i t hp hi c =
    let e = close-leaves t c.sound p (fd_of i) hp hi c.used (releasing-is t c.sound p (fd_of i) hp hi) in
    record {
      sound = e.sound;
      used = rw e.proc-same c.used;
      gone = λ j hj. rw e.desc-to (at j hj (ℕ_discrete j i));
      steady = steady-both (tables_of s) (tables_of t) (tables_of (released p i t)) c.steady e.steady;
      proc-same = e.proc-same ∙ c.proc-same;
      others = λ q n. ap (λ (d : ℕ → ℕ → ℕ). d q) e.desc-to ∙ upd_other (tables_of t).desc p.0 (upd ((tables_of t).desc p.0) i 0) q n ∙ c.others q n;
    }
  where
    at : (j : ℕ) → j < i + 1 → Dec (j ≡ i) → upd_row (tables_of t).desc p.0 i 0 p.0 j ≡ 0
    at j hj (yes q) = rw q (upd_row-same (tables_of t).desc p.0 i 0)
    at j hj (no n) = upd_row-other (tables_of t).desc p.0 i 0 p.0 j (λ _ q. n q) ∙ c.gone j (omega arith)

closing-all : (s : Store) (p : Pid) (k i : ℕ) (t : Store) → p.0 < PROCESSES → i + k ≡ DESCRIPTORS → Closing s p.0 i t → Closing s p.0 DESCRIPTORS (repeat (released p) i DESCRIPTORS t)
closing-all s p zero i t hp e c =
    let q : i ≡ DESCRIPTORS = omega arith in
    subst (λ (u : Store). Closing s p.0 DESCRIPTORS u) (repeat-done (released p) i DESCRIPTORS t refl (omega arith)) (rw q at c)
closing-all s p (suc k) i t hp e c =
    subst (λ (u : Store). Closing s p.0 DESCRIPTORS u) (repeat-step (released p) i DESCRIPTORS t refl (omega arith))
    (closing-all s p k (i + 1) (released p i t) hp (omega arith) (closing-one s p i t hp (omega arith) c))

-- process p is free and holds nothing; the others are as they were
pub record Exits (s : Store) (p : ℕ) (t : Store) : Type 0 where
  pub sound : SoundStore t
  pub steady : Steady (tables_of s) (tables_of t)
  pub proc-to : (tables_of t).proc ≡ upd (tables_of s).proc p (λ _. 0)
  pub desc-to : (tables_of t).desc ≡ upd (tables_of s).desc p (λ _. 0)

pub exit-leaves : (s : Store) → SoundStore s → (p : Pid) → p.0 < PROCESSES → (tables_of s).proc p.0 PROCESS_USED ≡ 1 → Exits s p.0 (apply_all (proc_zero p.0 ∷ []) (released_all p s))
unfolding apply_all released_all
exit-leaves s h p hp u = record {
  sound = kept _ _ z (subst (λ (d : ℕ → ℕ → ℕ). Sound (record { file = m.file; byte = m.byte; open_files = m.open_files; proc = upd m.proc p.0 (λ _. 0); desc = d })) (sym empty)
      (retire-sound SLOTS m c.sound.tables p.0 c.gone));
  steady = rw z.is c.steady;
  proc-to = ap (λ (n : Tables). n.proc) z.is ∙ ap (λ (f : ℕ → ℕ → ℕ). upd f p.0 (λ _. 0)) c.proc-same;
  desc-to = ap (λ (n : Tables). n.desc) z.is ∙ fun_ext (λ q. split q p.0 (λ _ t. rw t) (λ n t. rw t (c.others q n)));
}
  where
    c : Closing s p.0 DESCRIPTORS (repeat (released p) 0 DESCRIPTORS s)
    c = closing-all s p DESCRIPTORS 0 s hp refl (record { sound = h; used = u; gone = λ j hj. absurd (not-suc-le-zero hj); steady = λ f. inr (refl, refl); proc-same = refl; others = λ q _. refl })

    m : Tables
    m = tables_of (repeat (released p) 0 DESCRIPTORS s)

    z : Has (change (proc_zero p.0) (repeat (released p) 0 DESCRIPTORS s)) (record { file = m.file; byte = m.byte; open_files = m.open_files; proc = upd m.proc p.0 (λ _. 0); desc = upd m.desc p.0 (λ _. 0) })
    z = has-proc_zero (its-tables (repeat (released p) 0 DESCRIPTORS s) c.sound) p.0 hp

    none : (k : ℕ) → Dec (k < DESCRIPTORS) → (tables_of (repeat (released p) 0 DESCRIPTORS s)).desc p.0 k ≡ 0
    none k (yes l) = c.gone k l
    none k (no l) = unfold tables_of in desc-past (repeat (released p) 0 DESCRIPTORS s).processes p.0 k (omega arith)

    empty : upd (tables_of (repeat (released p) 0 DESCRIPTORS s)).desc p.0 (λ _. 0) ≡ (tables_of (repeat (released p) 0 DESCRIPTORS s)).desc
    empty = fun_ext (λ i. fun_ext (λ k. split i p.0 (λ q e. rw (e, q) (sym (none k (dec_lt k DESCRIPTORS)))) (λ q e. rw e)))
