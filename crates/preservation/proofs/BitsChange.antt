-- A file's bits are changed by call 8 alone, by user 0 or the file's owner.
use mathlib.Core.Path.{◌≡◌, refl, ap}
use mathlib.Core.Bool.{true}
use mathlib.Core.Logic.{◌⊎◌, inl, inr}
use Prim.Native.Nat.{ℕ}
use lib.ListN.{length}
use native.Mathlib.Decide.{ℕ_discrete}
use Rattle.rules.specs.Layout.{FILE_KIND, FILE_OWNER, FILE_BITS, FREE, PLAIN, OPEN_SLOT, OPEN_OFFSET}
use Rattle.rules.specs.Store.{Store, Fixed, view, slot, ofd_of, subject_of}
use Rattle.rules.specs.Refusals.{GRANTED}
use Rattle.rules.specs.Rights.{owns}
use Rattle.rules.specs.Calls.{Call}
use Rattle.rules.specs.Decide.{placement}
use Rattle.rules.specs.Effects.{carry_out}
use Rattle.rules.specs.Step.{Outcome, reply_to, store_after, outcome_of, into, act, step}
use Rattle.rules.specs.declared.ids.Slot.{Slot}
use Rattle.rules.specs.declared.decision.Unnamed.{Unnamed}
use Rattle.rules.specs.declared.decision.Unnamed.TheVariants as unnamed
use Rattle.rules.specs.Checks as checks
use Rattle.rules.specs.declared.decision.NewOpen.{NewOpen}
use Rattle.rules.specs.declared.decision.Placement.{Placement}
use Rattle.rules.specs.declared.decision.Output.{Output}
use Rattle.rules.specs.declared.decision.Effect.{Effect}
use Rattle.rules.specs.Decisions.{Decision}
use Rattle.rules.proofs.Passed.{Fit, granting, refusing}
use Rattle.preservation.specs.Claims.{word, caller_user}
use Rattle.preservation.proofs.Tests.{split, means-or, means-eq}
use Rattle.preservation.proofs.Tables.{Tables, open_to}
use Rattle.preservation.proofs.Remake.{remade}
use Rattle.preservation.proofs.Plain.{wrote}
use Rattle.preservation.proofs.Open.{handed}
use Rattle.preservation.proofs.Processes.{shared}
use Rattle.preservation.proofs.StoreChanges.{tables_of}
use Rattle.preservation.proofs.SoundStore.{SoundStore, means-sound}
use Rattle.preservation.proofs.OpenEffects.{Leaves, with_open, open-leaves, truncate-leaves, move-leaves, bits-leaves, execute-leaves, write-leaves}
use Rattle.preservation.proofs.NameEffects.{link-leaves, create-leaves, symlink-leaves, unlinked_tables, Unnaming, keeps, frees, unlink-leaves, unnaming-is, remove-leaves}
use Rattle.preservation.proofs.RenameEffects.{rename-leaves, transfer-leaves}
use Rattle.preservation.proofs.CloseEffects.{Still, Steady, close-leaves, releasing-is, exit-leaves}
use Rattle.preservation.proofs.Granted.{Granting, nothing, opens, truncates, creates, symlinks, unlinks, removes, links, renames, transfers, changes_bits, closes, stores, reads, seeks, duplicates, forks, exits, executes}
use Rattle.preservation.proofs.Decided.{decide-fit}
use Rattle.preservation.proofs.Preserved.{placed-well, read_fits, forking, duplicating}
use Rattle.preservation.proofs.TestedOnce.{step_by}

module _ (s : Store) (h : SoundStore s) (c : Call) (f : ℕ) where
  -- the call is number 8, by user 0 or the owner of f
  abbrev ByOwner : Type 0
  ByOwner = (c.call ≡ 8) × ((caller_user s c ≡ 0) ⊎ (caller_user s c ≡ word s f FILE_OWNER))

  owner-or-0 : (y : ℕ) → owns (subject_of (view s).proc c.process) ((view s).tree.file y FILE_OWNER) ≡ true → (caller_user s c ≡ 0) ⊎ (caller_user s c ≡ word s y FILE_OWNER)
  unfolding owns
  owner-or-0 y t = by (ℕ_discrete (caller_user s c) 0)
    where
      by : Dec (caller_user s c ≡ 0) → (caller_user s c ≡ 0) ⊎ (caller_user s c ≡ (view s).tree.file y FILE_OWNER)
      by (yes e) = inl e
      by (no n) = inr ((means-or (means-eq (caller_user s c) 0) (means-eq (caller_user s c) ((view s).tree.file y FILE_OWNER))).holds t n)

  -- where f is in use before and in t, and its bits differ, its owner has asked for it
  abbrev Differ : Store → Type 0
  Differ t = ((tables_of s).file f FILE_KIND ≡ FREE → ⊥) → ((tables_of t).file f FILE_KIND ≡ FREE → ⊥) → ((tables_of t).file f FILE_BITS ≡ (tables_of s).file f FILE_BITS → ⊥) → ByOwner

  -- slot f is free, or its bits are what they were
  abbrev Left : Tables → Type 0
  Left m = (m.file f FILE_KIND ≡ FREE) ⊎ (m.file f FILE_BITS ≡ (tables_of s).file f FILE_BITS)

  left : (t : Store) → Left (tables_of t) → Differ t
  left t (inl q) a b n = absurd (b q)
  left t (inr q) a b n = absurd (n q)

  leaves : {t : Store} {m : Tables} → Leaves t m → Left m → Differ t
  leaves {t = t} {m = m} l y = left t (rw l.has.is y)

  leaves-bits : {t : Store} {m : Tables} → Leaves t m → m.file f FILE_BITS ≡ (tables_of s).file f FILE_BITS → Differ t
  leaves-bits l y = leaves l (inr y)

  steadily : (t : Store) → Steady (tables_of s) (tables_of t) → Differ t
  steadily t y = left t (by (y f))
    where
      by : (((tables_of s).file f FILE_KIND ≡ PLAIN) × ((tables_of t).file f FILE_KIND ≡ FREE)) ⊎ Still (tables_of s) (tables_of t) f → Left (tables_of t)
      by (inl e) = inl e.1
      by (inr e) = inr (ap (λ (r : ℕ → ℕ). r FILE_BITS) e.0)

  truncate-bits : (y : ℕ) (row : ℕ → ℕ) (m : Tables) → m.file f FILE_BITS ≡ (tables_of s).file f FILE_BITS → row FILE_BITS ≡ (tables_of s).file y FILE_BITS → (remade y row (λ _. 0) m).file f FILE_BITS ≡ (tables_of s).file f FILE_BITS
  unfolding remade
  truncate-bits y row m e r = split f y (λ q t. rw (t, q) r) (λ q t. rw t e)

  remove-left : (d : Slot) (i : ℕ) (y : Slot) → Left (unlinked_tables s h d i (unnamed.Freed y (checks.freed (view s).tree.file y)))
  unfolding unlinked_tables
  remove-left d i y = unfold remade in split f y.0 (λ q t. rw t (inl refl)) (λ q t. rw t (inr refl))

  unlink-left : (d : Slot) (i : ℕ) (y : Slot) {u : Unnamed} → Unnaming s h y u → Left (unlinked_tables s h d i u)
  unlink-left d i y (keeps a) = unfold unlinked_tables in inr refl
  unlink-left d i y (frees a b) = remove-left d i y

  opened-bits : (n : NewOpen) → (with_open c.process n (tables_of s)).file f FILE_BITS ≡ (tables_of s).file f FILE_BITS
  unfolding handed
  opened-bits n = refl

  shared-bits : (p j e : ℕ) → (shared p j e (tables_of s)).file f FILE_BITS ≡ (tables_of s).file f FILE_BITS
  unfolding shared handed
  shared-bits p j e = refl

  wrote-bits : (w : Placement) (g : ℕ → ℕ) → (open_to w.ofd.0 OPEN_OFFSET w.offset (wrote w.slot.0 g w.length w.version (tables_of s))).file f FILE_BITS ≡ (tables_of s).file f FILE_BITS
  unfolding wrote
  wrote-bits w g = refl

  -- each effect: all but a change of bits leave the bits of f, or free it; a create or a new link gives out a slot that was free
  changes-bits : {K : Fixed} {n : ℕ} {o : Output} {e : Effect} → Granting K s h c n o e → Differ (carry_out c e s)
  unfolding carry_out
  changes-bits (nothing n o) = λ a b x. absurd (x refl)
  changes-bits (opens n o l) = leaves-bits (open-leaves s h c.process n o) (opened-bits n)
  changes-bits (truncates n o hs a) = leaves-bits (truncate-leaves s h c.process n o hs) (truncate-bits n.slot.0 _ _ (opened-bits n) refl)
  changes-bits (creates d i y new o) = let w = create-leaves s h _ (subject_of (view s).proc c.process) d i (slot y) new o in
      split f y (λ q _ a. absurd (a (rw q o.free))) (λ q t. leaves-bits w (rw t))
  changes-bits (symlinks d i y o) = let w = symlink-leaves s h _ (subject_of (view s).proc c.process) d i (slot y) c.«data» o in
      split f y (λ q _ a. absurd (a (rw q o.free))) (λ q t. leaves-bits w (rw t))
  changes-bits (unlinks d i y n k) = leaves (unlink-leaves s h d i y n k (unnaming-is s h y)) (unlink-left d i y (unnaming-is s h y))
  changes-bits (removes d i y n k l) = leaves (remove-leaves s h d i y n k l) (remove-left d i y)
  changes-bits (links d i y n hy k) = leaves-bits (link-leaves s h _ d i y n hy k) refl
  changes-bits (renames d i y n g) = leaves-bits (rename-leaves s h _ d i y n g) refl
  changes-bits (transfers d i e j y n k m a) = leaves-bits (transfer-leaves s h _ d i e j y n k m a) refl
  changes-bits (changes_bits y b hy k n l o a) = split f y.0 (λ q _ _ _ _. (a, rw q (owner-or-0 y.0 o))) (λ q t. leaves-bits (bits-leaves s h y.0 b.0 hy k n l) (rw t))
  changes-bits (closes i u hi) = steadily _ (close-leaves s h c.process i u.small hi u.used (releasing-is s h c.process i u.small hi)).steady
  changes-bits (stores e at o hs l a) = leaves-bits (write-leaves s h c.«data» _ (placed-well s h c e at o hs l)) (wrote-bits (placement (view s).tree.file (ofd_of e) (slot ((view s).open_files e OPEN_SLOT)) at (length c.«data»)) _)
  changes-bits (reads e n o l) = leaves-bits (move-leaves s h e _ o (read_fits s h c e n l)) refl
  changes-bits (seeks e n o l) = leaves-bits (move-leaves s h e n o l) refl
  changes-bits (duplicates i j e o hj g) = leaves-bits (duplicating s h c i j e o hj g) (shared-bits c.process.0 j.0 e)
  changes-bits (forks q u hq g) = let w = forking s h c q u hq g in leaves-bits w.leaves (ap (λ (t : ℕ → ℕ → ℕ). t f FILE_BITS) w.files-same)
  changes-bits (exits u) = steadily _ (exit-leaves s h c.process u.small u.used).steady
  changes-bits (executes l u hl) = leaves-bits (execute-leaves s h c.process l u hl) refl

-- what is claimed of the call that ends in x
abbrev ByCall8 : Store → Call → ℕ → Outcome → Type 0
ByCall8 s c f x = (word s f FILE_KIND ≡ FREE → ⊥) → (word x.store f FILE_KIND ≡ FREE → ⊥) → (word x.store f FILE_BITS ≡ word s f FILE_BITS → ⊥) →
    (x.reply.refusal ≡ GRANTED) × ((c.call ≡ 8) × ((caller_user s c ≡ 0) ⊎ (caller_user s c ≡ word s f FILE_OWNER)))

decided : (K : Fixed) (s : Store) (h : SoundStore s) (c : Call) (f : ℕ) {d : Decision} → Fit (Granting K s h c) d → ByCall8 s c f (outcome_of K.rom s c (into c.buffer) d)
unfolding outcome_of reply_to store_after tables_of
decided K s h c f (granting n o e g) = λ a b x. (refl, changes-bits s h c f g a b x)
decided K s h c f (refusing r i) = λ a b x. absurd (x refl)

pub bits-by-call : (K : Fixed) (s : Store) (c : Call) (f : ℕ) → ByCall8 s c f (step K s c)
unfolding act
bits-by-call K s c f = step_by K s c (ByCall8 s c f) (λ e. let w = (means-sound K s).holds e in decided K s w.store c f (decide-fit K s w c)) (λ _ a b x. absurd (x refl))
