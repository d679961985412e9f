-- The effect of a granted call on a sound store leaves a sound store; so does every call, every borrowing read, and every list of both.
use mathlib.Core.Path.{◌≡◌, refl, ap}
use mathlib.Core.Bool.{true}
use mathlib.Core.List.{List}
use Prim.Native.Nat.{ℕ, ◌+◌, ◌≤◌, ◌<◌, max}
use native.Mathlib.Omega.{arith}
use lib.ListN.{length}
use Rattle.rules.specs.Layout.{SLOTS, BLOCK, PROCESSES, FILE_LENGTH, DESCRIPTORS, OPEN_SLOT, OPEN_OFFSET, OPEN_REFERENCES, PROCESS_USED}
use Rattle.rules.specs.Store.{Store, Fixed, view, slot, ofd_of, subject_of, apply_all, plus, up}
use Rattle.rules.specs.Sound.{sound}
use Rattle.rules.specs.Calls.{Call}
use Rattle.rules.specs.Decide.{placement}
use Rattle.rules.specs.Effects.{shared_all, duplicate_changes, fork_changes, carry_out}
use Rattle.rules.specs.Step.{store_after, outcome_of, into, act, step, handed, read_of, act_borrow, step_borrow, Action, Calls, Borrows, serve, final}
use Rattle.rules.specs.declared.ids.Pid.{Pid}
use Rattle.rules.specs.declared.ids.Fd.{Fd}
use Rattle.rules.specs.declared.decision.Output.{Output}
use Rattle.rules.specs.declared.decision.Effect.{Effect}
use Rattle.rules.specs.Decisions.{Decision}
use Rattle.rules.proofs.Passed.{Fit, granting, refusing, fit-map}
use Rattle.rules.proofs.Runs.{final-keeps}
use Rattle.preservation.proofs.OneWord.{Held}
use Rattle.preservation.proofs.Words.{plus-is}
use Rattle.preservation.proofs.StoreChanges.{tables_of}
use Rattle.preservation.proofs.SoundStore.{SoundStore, AllSound, means-sound}
use Rattle.preservation.proofs.OpenEffects.{Caller, Writes, Holds, Leaves, leaves-sound, open-leaves, truncate-leaves, move-leaves, duplicate-leaves, bits-leaves, execute-leaves, write-leaves}
use Rattle.preservation.proofs.NameEffects.{link-leaves, create-leaves, symlink-leaves, unlink-leaves, unnaming-is, remove-leaves}
use Rattle.preservation.proofs.RenameEffects.{rename-leaves, transfer-leaves}
use Rattle.preservation.proofs.CloseEffects.{close-leaves, releasing-is, exit-leaves}
use Rattle.preservation.proofs.Processes.{Ranged, shared}
use Rattle.preservation.proofs.ForkEffects.{Forks, fork-leaves}
use Rattle.preservation.proofs.Granted.{Granting, nothing, opens, truncates, creates, symlinks, unlinks, removes, links, renames, transfers, changes_bits, closes, stores, reads, seeks, duplicates, forks, exits, executes}
use Rattle.preservation.proofs.Decided.{decide-fit, borrow-fit}
use Rattle.preservation.proofs.Within.{effect-within}

-- what holds of the store, and of what the effect of a granted call leaves, holds of what the call leaves
pub stored-by : (P : Store → Type 0) (s : Store) (c : Call) {d : Decision} → P s → Fit (λ n o e. P (carry_out c e s)) d → P (store_after s c d)
unfolding store_after
stored-by P s c p (granting n o e g) = g
stored-by P s c p (refusing r k) = p

module _ (s : Store) (h : SoundStore s) (c : Call) where
  pub placed-well : (e at : ℕ) → Held (tables_of s) e → (view s).open_files e OPEN_SLOT < SLOTS → at + length c.«data» ≤ BLOCK → Writes (tables_of s) c.«data» (placement (view s).tree.file (ofd_of e) (slot ((view s).open_files e OPEN_SLOT)) at (length c.«data»))
  unfolding tables_of
  placed-well e at o hs l = record {
    ofd = o;
    on = refl;
    small = hs;
    end_is = refl;
    gap_is = refl;
    fits = l;
    length-is = ap (max ((view s).tree.file ((view s).open_files e OPEN_SLOT) FILE_LENGTH)) (plus-is at (length c.«data») (omega arith));
    version-is = refl;
    offset-is = plus-is at (length c.«data») (omega arith);
  }

  pub caller-ranged : Caller (tables_of s) c.process → Ranged (subject_of (view s).proc c.process)
  unfolding tables_of
  caller-ranged u = let w = h.tables.procs c.process.0 u.small in record { user-most = w.user-most; group-most = w.group-most; label-most = w.label-most }

  pub read_fits : (e n : ℕ) → (tables_of s).open_files e OPEN_OFFSET + n ≤ BLOCK → plus ((view s).open_files e OPEN_OFFSET) n ≤ BLOCK
  unfolding tables_of
  read_fits e n l = rw (plus-is ((view s).open_files e OPEN_OFFSET) n (omega (arith, l))) l

  pub forking : (q : Pid) (u : Caller (tables_of s) c.process) (hq : q.0 < PROCESSES) → (tables_of s).proc q.0 PROCESS_USED ≡ 0 → let who = subject_of (view s).proc c.process in
      Forks c.process q who u.small hq s (apply_all (fork_changes q who) (shared_all c.process q s))
  forking q u hq f = fork-leaves c.process q (subject_of (view s).proc c.process) u.small hq s h f (caller-ranged u)

  pub duplicating : (i j : Fd) (e : ℕ) → Holds (tables_of s) c.process i e → j.0 < DESCRIPTORS → (tables_of s).desc c.process.0 j.0 ≡ 0 →
      Leaves (apply_all (duplicate_changes c.process j (ofd_of e) (up ((view s).open_files e OPEN_REFERENCES))) s) (shared c.process.0 j.0 e (tables_of s))
  unfolding tables_of
  duplicating i j e o hj f = duplicate-leaves s h c.process i j e o hj f

  pub effect-keeps : {K : Fixed} {n : ℕ} {o : Output} {e : Effect} → Granting K s h c n o e → SoundStore (carry_out c e s)
  unfolding carry_out
  effect-keeps (nothing n o) = h
  effect-keeps (opens n o l) = leaves-sound (open-leaves s h c.process n o)
  effect-keeps (truncates n o hs a) = leaves-sound (truncate-leaves s h c.process n o hs)
  effect-keeps (creates d i y new o) = leaves-sound (create-leaves s h _ (subject_of (view s).proc c.process) d i (slot y) new o)
  effect-keeps (symlinks d i y o) = leaves-sound (symlink-leaves s h _ (subject_of (view s).proc c.process) d i (slot y) c.«data» o)
  effect-keeps (unlinks d i y n k) = leaves-sound (unlink-leaves s h d i y n k (unnaming-is s h y))
  effect-keeps (removes d i y n k l) = leaves-sound (remove-leaves s h d i y n k l)
  effect-keeps (links d i y n hy k) = leaves-sound (link-leaves s h _ d i y n hy k)
  effect-keeps (renames d i y n f) = leaves-sound (rename-leaves s h _ d i y n f)
  effect-keeps (transfers d i e j y n k m a) = leaves-sound (transfer-leaves s h _ d i e j y n k m a)
  effect-keeps (changes_bits y b hy k n l o a) = leaves-sound (bits-leaves s h y.0 b.0 hy k n l)
  effect-keeps (closes i u hi) = (close-leaves s h c.process i u.small hi u.used (releasing-is s h c.process i u.small hi)).sound
  effect-keeps (stores e at o hs l a) = leaves-sound (write-leaves s h c.«data» _ (placed-well e at o hs l))
  effect-keeps (reads e n o l) = leaves-sound (move-leaves s h e _ o (read_fits e n l))
  effect-keeps (seeks e n o l) = leaves-sound (move-leaves s h e n o l)
  effect-keeps (duplicates i j e o hj f) = leaves-sound (duplicating i j e o hj f)
  effect-keeps (forks q u hq f) = leaves-sound (forking q u hq f).leaves
  effect-keeps (exits u) = (exit-leaves s h c.process u.small u.used).sound
  effect-keeps (executes l u hl) = leaves-sound (execute-leaves s h c.process l u hl)

pub after-sound : (K : Fixed) (s : Store) (a : AllSound K s) (c : Call) {d : Decision} → Fit (Granting K s a.store c) d → AllSound K (store_after s c d)
after-sound K s a c f = stored-by (AllSound K) s c a (fit-map (λ n o e g. record {
  policy = a.policy;
  part = a.part;
  store = effect-keeps s a.store c g;
  within = effect-within K s a.store c g a.within;
}) f)

-- ---- a call, a borrowing read, and a list of both

outcome-sound : (K : Fixed) (s : Store) (a : AllSound K s) (c : Call) (put : List ℕ → List ℕ) {d : Decision} → Fit (Granting K s a.store c) d → sound K (outcome_of K.rom s c put d).store ≡ true
unfolding outcome_of
outcome-sound K s a c put {d} f = (means-sound K (store_after s c d)).tests (after-sound K s a c f)

pub step-sound : (K : Fixed) (s : Store) (c : Call) → sound K s ≡ true → sound K (step K s c).store ≡ true
unfolding step act
step-sound K s c e = let a = (means-sound K s).holds e in rw e (outcome-sound K s a c (into c.buffer) (decide-fit K s a c))

pub borrow-sound : (K : Fixed) (s : Store) (p : Pid) (i : Fd) (n : ℕ) → sound K s ≡ true → sound K (step_borrow K s p i n).store ≡ true
unfolding step_borrow act_borrow
borrow-sound K s p i n e = let a = (means-sound K s).holds e in rw e (outcome-sound K s a (read_of p i n) handed (borrow-fit K s a p i n))

pub serve-sound : (K : Fixed) (s : Store) (a : Action) → sound K s ≡ true → sound K (serve K s a).store ≡ true
unfolding serve
serve-sound K s (Calls c) e = step-sound K s c e
serve-sound K s (Borrows p i n) e = borrow-sound K s p i n e

pub final-sound : (K : Fixed) (s : Store) (xs : List Action) → sound K s ≡ true → sound K (final K s xs) ≡ true
final-sound K = final-keeps K (λ s. sound K s ≡ true) (serve-sound K)
