-- No counter of a sound store wraps, but for the version.
use mathlib.Core.Path.{◌≡◌, refl, subst}
use mathlib.Core.Bool.{true, cond, not}
use Prim.Native.Nat.{ℕ, ◌+◌, ◌-◌, ◌*◌, ◌≤◌, ◌<◌}
use native.Mathlib.Omega.{arith}
use native.Mathlib.Decide.{ℕ_discrete}
use lib.Dec.{eqb}
use borrow.Author.Tests.{eq-eqb, ne_eqb}
use Rattle.std.specs.Prelude.{None}
use Rattle.rules.specs.Layout.{SLOTS, BLOCK, DIRENTS, OPEN_FILES, PROCESSES, DESCRIPTORS, FILE_LENGTH, FILE_LINKS, OPEN_OFFSET, OPEN_REFERENCES}
use Rattle.rules.specs.Scan.{repeat}
use Rattle.rules.specs.Store.{Store, Fixed, view, subject_of, up, plus, fd_of}
use Rattle.rules.specs.Sound.{sound}
use Rattle.rules.specs.Rom.{seen}
use Rattle.rules.specs.Calls.{Call}
use Rattle.rules.specs.Checks.{held, ofd_held, sharing, share_of}
use Rattle.rules.specs.Decide.{decide}
use Rattle.rules.specs.Effects as effects
use Rattle.rules.specs.declared.request.Subject.{Subject}
use Rattle.rules.specs.declared.ids.Slot.{Slot}
use Rattle.rules.specs.declared.ids.Pid.{Pid}
use Rattle.rules.specs.Decisions.{Granted}
use Rattle.rules.specs.declared.decision.Output.{Output}
use Rattle.rules.specs.declared.decision.Effect.{Effect}
use Rattle.rules.proofs.Passed.{Of, fit_of}
use Rattle.preservation.specs.Claims.{word, PlainShare, PlainRead, PlainSums}
use Rattle.preservation.proofs.Words.{up_is, plus-is, length_most, link-most, references-most, offsets-most}
use Rattle.preservation.proofs.Tables.{dirent_row}
use Rattle.preservation.proofs.Dirents.{used-at}
use Rattle.preservation.proofs.StoreChanges.{tables_of}
use Rattle.preservation.proofs.SoundStore.{SoundStore, means-sound}
use Rattle.preservation.proofs.OpenEffects.{held-open}
use Rattle.preservation.proofs.NameEffects.{Names}
use Rattle.preservation.proofs.ForkEffects.{Sharing, sharing-some, sharing-start, shared-held, shared-up}
use Rattle.preservation.proofs.Granted.{Granting, nothing, opens, truncates, creates, symlinks, unlinks, removes, links, renames, transfers, changes_bits, closes, stores, reads, seeks, duplicates, forks, exits, executes}
use Rattle.preservation.proofs.Decided.{decide-fit}
use Rattle.preservation.proofs.Preserved.{placed-well, caller-ranged}

module _ (s : Store) (h : SoundStore s) where
  pub length-goes-up : (f : ℕ) → f < SLOTS → up (word s f FILE_LENGTH) ≡ word s f FILE_LENGTH + 1
  length-goes-up f l = let a : (tables_of s).file f FILE_LENGTH ≤ BLOCK = length_most SLOTS (tables_of s) h.tables f l in up_is (word s f FILE_LENGTH) (unfold tables_of in (omega (arith, a)))

  -- a directory that has an entry has a length to lose
  length-goes-down : (d : Slot) (i : ℕ) (y : Slot) → Names s h d i y → word s d.0 FILE_LENGTH - 1 + 1 ≡ word s d.0 FILE_LENGTH
  length-goes-down d i y n =
      let a : 0 < (tables_of s).file d.0 FILE_LENGTH = rw (h.tables.tree.lengths d.0 n.dir-small n.dir-kind) (used-at (dirent_row (tables_of s).byte d.0) i n.dirent-small (rw n.there n.not_root)) in
      unfold tables_of in (omega (arith, a))

  pub links-go-up : (f : ℕ) → f < SLOTS → up (word s f FILE_LINKS) ≡ word s f FILE_LINKS + 1
  links-go-up f l = let a : (tables_of s).file f FILE_LINKS ≤ DIRENTS * SLOTS = link-most SLOTS (tables_of s) h.tables f l in up_is (word s f FILE_LINKS) (unfold tables_of in (omega (arith, a)))

  pub references-go-up : (e : ℕ) → e < OPEN_FILES → up ((view s).open_files e OPEN_REFERENCES) ≡ (view s).open_files e OPEN_REFERENCES + 1
  references-go-up e l = let a : (tables_of s).open_files e OPEN_REFERENCES ≤ DESCRIPTORS * PROCESSES = references-most SLOTS (tables_of s) h.tables e l in up_is ((view s).open_files e OPEN_REFERENCES) (unfold tables_of in (omega (arith, a)))

  pub offset-goes-on : (e n : ℕ) → e < OPEN_FILES → n ≤ BLOCK → plus ((view s).open_files e OPEN_OFFSET) n ≡ (view s).open_files e OPEN_OFFSET + n
  offset-goes-on e n l b = let a : (tables_of s).open_files e OPEN_OFFSET ≤ BLOCK = offsets-most SLOTS (tables_of s) h.tables e l in plus-is ((view s).open_files e OPEN_OFFSET) n (unfold tables_of in (omega (arith, a)))

  -- each turn of a fork
  share-sums : (p q : Pid) (who : Subject) (hp : p.0 < PROCESSES) (hq : q.0 < PROCESSES) (i : ℕ) → i < DESCRIPTORS → (t : Store) → Sharing p q who hp hq s i t → PlainShare (view t) (share_of (view t).open_files (view t).desc p (fd_of i))
  unfolding share_of held
  share-sums p q who hp hq i hi t c = by (ℕ_discrete ((view t).desc p.0 i) 0)
    where
      by : Dec ((view t).desc p.0 i ≡ 0) → PlainShare (view t) (cond (not (eqb ((view t).desc p.0 i) 0)) (sharing (view t).open_files (ofd_held (view t).desc p (fd_of i))) None)
      by (yes e) = rw (eq-eqb ((view t).desc p.0 i) 0 e) (unfold PlainShare in tt)
      by (no n) = rw (ne_eqb ((view t).desc p.0 i) 0 n) (unfold PlainShare tables_of in
          (up_is ((view t).desc p.0 i - 1) (omega (arith, (shared-held p q who hp hq s i t hi c ((view t).desc p.0 i - 1) (omega (arith, n))).small)), shared-up p q who hp hq s i t hi c ((view t).desc p.0 i - 1) (omega (arith, n))))

  sums : {K : Fixed} (c : Call) {n : ℕ} {o : Output} {e : Effect} → Granting K s h c n o e → PlainSums s c o e
  unfolding PlainSums PlainRead
  sums c (nothing n o) = tt
  sums c (opens n o l) = up_is n.ofd.0 (omega (arith, o.ofd-small))
  sums c (truncates n o hs a) = up_is n.ofd.0 (omega (arith, o.ofd-small))
  sums c (creates d i y new o) = length-goes-up d.0 o.naming.fits.dir-small
  sums c (symlinks d i y o) = length-goes-up d.0 o.naming.fits.dir-small
  sums c (unlinks d i y n k) = tt
  sums c (removes d i y n k l) = tt
  sums c (links d i y n hy k) = (length-goes-up d.0 n.fits.dir-small, links-go-up y.0 hy)
  sums c (renames d i y n f) = refl
  sums c (transfers d i e j y n k m a) = (length-goes-down d i y n, length-goes-up e.0 m.fits.dir-small)
  sums c (changes_bits y b hy k n l o a) = tt
  sums c (closes i u hi) = tt
  sums c (stores e at o hs l a) = let w = placed-well s h c e at o hs l in (w.offset-is, w.length-is)
  sums c (reads e n o l) = plus-is ((view s).open_files e OPEN_OFFSET) n (unfold tables_of in (omega (arith, l)))
  sums c (seeks e n o l) = tt
  sums c (duplicates i j e o hj g) = let w = held-open s h c.process i e o in (up_is e (omega (arith, w.small)), references-go-up e w.small)
  sums c (forks q u hq g) = λ i hi. share-sums c.process q (subject_of (view s).proc c.process) u.small hq i hi (repeat (effects.shared c.process q) 0 i s)
      (sharing-some c.process q (subject_of (view s).proc c.process) u.small hq s i 0 i s (omega arith) (omega arith)
      (sharing-start c.process q (subject_of (view s).proc c.process) u.small hq s h g (caller-ranged s h c u)))
  sums c (exits u) = tt
  sums c (executes l u hl) = tt

pub granted-sums : (K : Fixed) (s : Store) (c : Call) (n : ℕ) (o : Output) (e : Effect) → sound K s ≡ true → decide K (seen K.rom (view s)) c ≡ Granted n o e → PlainSums s c o e
unfolding Of
granted-sums K s c n o e t d = let w = (means-sound K s).holds t in sums s w.store c (subst (Of (Granting K s w.store c)) d (fit_of (decide-fit K s w c)))
