-- A file that is not freed keeps its bytes and its record, but for its link count and its bits, unless the call writes to it or truncates it.
use mathlib.Core.Path.{◌≡◌, refl, sym, subst, ap, ◌∙◌}
use mathlib.Core.Bool.{true}
use mathlib.Core.Logic.{◌⊎◌, inl, inr, ⊎_elim}
use mathlib.Core.List.{List, [], ◌∷◌}
use Prim.Native.Nat.{ℕ, ◌≤◌, ◌<◌}
use native.Mathlib.Omega.{arith}
use native.Mathlib.Decide.{dec_lt}
use lib.ListN.{length}
use Rattle.rules.specs.Layout.{SLOTS, OPEN_FILE_WIDTH, FILE_KIND, FILE_OWNER, FILE_BITS, FILE_LABEL, FILE_LENGTH, FILE_LINKS, FILE_VERSION, OPEN_SLOT, OPEN_OFFSET, FREE, PLAIN, DIRECTORY, FILE_GROUP}
use Rattle.rules.specs.Store.{Store, Fixed, view, slot, ofd_of, subject_of, tab, apply_all, is_open}
use Rattle.rules.specs.Refusals.{GRANTED}
use Rattle.rules.specs.Rom.{seen}
use Rattle.rules.specs.Paths.{Name}
use Rattle.rules.specs.Calls.{Call}
use Rattle.rules.specs.Decide.{placement, decide}
use Rattle.rules.specs.Effects.{name_changes, unname_changes, create_changes, symlink_changes, link_changes, unnamed_changes, unlink_changes, remove_changes, transfer_changes, carry_out}
use Rattle.rules.specs.Step.{Outcome, reply_to, store_after, outcome_of, into, act, step, Action, Calls, Borrows, serve, final}
use Rattle.rules.specs.declared.ids.Slot.{Slot}
use Rattle.rules.specs.declared.decision.Record.{Record}
use Rattle.rules.specs.declared.decision.DirChange.{DirChange}
use Rattle.rules.specs.declared.decision.Unnamed.{Unnamed}
use Rattle.rules.specs.declared.decision.Unnamed.TheVariants as unnamed
use Rattle.rules.specs.declared.decision.NewOpen.{NewOpen}
use Rattle.rules.specs.declared.decision.Placement.{Placement}
use Rattle.rules.specs.declared.decision.Output.{Output}
use Rattle.rules.specs.declared.decision.Effect.{Effect}
use Rattle.rules.specs.Decisions.{Decision, Granted}
use Rattle.rules.proofs.Passed.{Fit, granting, refusing}
use Rattle.preservation.specs.Claims.{word, IsOpen, OpenAfterEach, WritesTo, Truncates, Rewrites, Unwritten, SameFile}
use Rattle.preservation.proofs.Tests.{split}
use Rattle.preservation.proofs.Tables.{Tables, open_to}
use Rattle.preservation.proofs.Plain.{wrote}
use Rattle.preservation.proofs.Open.{handed}
use Rattle.preservation.proofs.Processes.{shared}
use Rattle.preservation.proofs.StoreChanges.{tables_of}
use Rattle.preservation.proofs.SoundStore.{SoundStore, AllSound, means-sound}
use Rattle.preservation.proofs.OpenEffects.{Leaves, with_open, open-leaves, truncate-leaves, move-leaves, bits-leaves, execute-leaves, write-leaves}
use Rattle.preservation.proofs.NameEffects.{link-leaves, create-leaves, symlink-leaves, unlink-leaves, unnaming-is, remove-leaves}
use Rattle.preservation.proofs.RenameEffects.{rename-leaves, transfer-leaves}
use Rattle.preservation.proofs.CloseEffects.{Still, Steady, close-leaves, releasing-is, exit-leaves}
use Rattle.preservation.proofs.Granted.{AsksWrite, AsksTruncation, Granting, nothing, opens, truncates, creates, symlinks, unlinks, removes, links, renames, transfers, changes_bits, closes, stores, reads, seeks, duplicates, forks, exits, executes, used-small}
use Rattle.preservation.proofs.Decided.{decide-fit}
use Rattle.preservation.proofs.Preserved.{placed-well, read_fits, forking, duplicating, effect-keeps, after-sound}
use Rattle.preservation.proofs.TestedOnce.{step_by}
use Rattle.preservation.proofs.Kept.{Kept, kept-both, kept_same, kept-written, kept-remade, kept_row, kept-bytes, kept-column, kept-remove, kept-unlink, kept_block, past_same, same-file, unchanged}
use Rattle.preservation.proofs.OpenStays.{open_plain}
use Rattle.preservation.proofs.Borrowed.{borrow-leaves}

-- ---- a change of names leaves the open files

module _ (s : Store) where
  create-open-files : (name : Name) (d : DirChange) (y : Slot) (r : Record) → (apply_all (create_changes name d y r) s).open_files ≡ s.open_files
  unfolding create_changes name_changes apply_all
  create-open-files name d y r = refl

  symlink-open-files : (name : Name) (text : List ℕ) (d : DirChange) (y : Slot) (r : Record) → (apply_all (symlink_changes name text d y r) s).open_files ≡ s.open_files
  unfolding symlink_changes name_changes apply_all
  symlink-open-files name text d y r = refl

  link-open-files : (name : Name) (d : DirChange) (y : Slot) (n : ℕ) → (apply_all (link_changes name d y n) s).open_files ≡ s.open_files
  unfolding link_changes name_changes apply_all
  link-open-files name d y n = refl

  unlink-open-files : (d : DirChange) (u : Unnamed) → (apply_all (unlink_changes d u) s).open_files ≡ s.open_files
  unfolding unlink_changes unname_changes unnamed_changes apply_all
  unlink-open-files d (unnamed.Kept y n) = refl
  unlink-open-files d (unnamed.Freed y r) = refl

  remove-open-files : (d : DirChange) (y : Slot) (r : Record) → (apply_all (remove_changes d y r) s).open_files ≡ s.open_files
  unfolding remove_changes unname_changes apply_all
  remove-open-files d y r = refl

  rename-open-files : (name : Name) (y : Slot) (d : DirChange) → (apply_all (name_changes name y d) s).open_files ≡ s.open_files
  unfolding name_changes apply_all
  rename-open-files name y d = refl

  transfer-open-files : (name : Name) (from to : DirChange) (y : Slot) → (apply_all (transfer_changes name from to y) s).open_files ≡ s.open_files
  unfolding transfer_changes unname_changes name_changes apply_all
  transfer-open-files name from to y = refl

-- ---- each effect

-- every column but two
abbrev NotLinksOrBits : ℕ → Type 0
NotLinksOrBits k = (k ≡ FILE_LINKS → ⊥) × (k ≡ FILE_BITS → ⊥)

module _ (K : Fixed) (s : Store) (h : SoundStore s) (c : Call) (f : ℕ) where
  -- the call writes to f or truncates it
  abbrev Rewriting : Type 0
  Rewriting = AsksWrite s c f ⊎ AsksTruncation K s c f

  -- in t, which a call leaves, f is not free; where the call leaves the open files as they were, f was plain
  record Stays (t : Store) : Type 0 where
    used : (tables_of t).file f FILE_KIND ≡ FREE → ⊥
    was : t.open_files ≡ s.open_files → (tables_of s).file f FILE_KIND ≡ PLAIN

  abbrev Left : Tables → Type 0
  Left m = Kept NotLinksOrBits f (tables_of s) m

  opened : (n : NewOpen) → Left (with_open c.process n (tables_of s))
  unfolding handed
  opened n = kept_same f (tables_of s) (with_open c.process n (tables_of s)) refl refl

  written : (w : Placement) (g : ℕ → ℕ) → (f ≡ w.slot.0 → ⊥) → Left (open_to w.ofd.0 OPEN_OFFSET w.offset (wrote w.slot.0 g w.length w.version (tables_of s)))
  unfolding wrote
  written w g n = kept-both f (kept-written f w.slot.0 g w.length w.version (tables_of s) n) (kept_same f _ _ refl refl)

  sharing : (p j e : ℕ) → Left (shared p j e (tables_of s))
  unfolding shared handed
  sharing p j e = kept_same f (tables_of s) (shared p j e (tables_of s)) refl refl

  leaves : {t : Store} {m : Tables} → Leaves t m → Left m → Left (tables_of t) ⊎ Rewriting
  leaves l y = inl (rw l.has.is y)

  steadily : (t : Store) → Stays t → Steady (tables_of s) (tables_of t) → Left (tables_of t) ⊎ Rewriting
  steadily t y z = by (z f)
    where
      by : (((tables_of s).file f FILE_KIND ≡ PLAIN) × ((tables_of t).file f FILE_KIND ≡ FREE)) ⊎ Still (tables_of s) (tables_of t) f → Left (tables_of t) ⊎ Rewriting
      by (inl q) = absurd (y.used q.1)
      by (inr q) = inl (record { words = λ k _. ap (λ (r : ℕ → ℕ). r k) q.0; bytes = q.1 })

  -- slot y is of another kind
  apart : (y k : ℕ) → (k ≡ PLAIN → ⊥) → (tables_of s).file f FILE_KIND ≡ PLAIN → (tables_of s).file y FILE_KIND ≡ k → f ≡ y → ⊥
  apart y k n a b q = n (sym b ∙ rw q at a)

  -- Each effect changes another slot, the link count or the bits, unless it rewrites f. A directory that gains or loses a name, a removed one and a slot given
  -- out are no plain file; a slot that unlink, close or exit frees is not f, which is not free afterwards.
  effect-leaves : {n : ℕ} {o : Output} {e : Effect} → Granting K s h c n o e → Stays (carry_out c e s) → Left (tables_of (carry_out c e s)) ⊎ Rewriting
  unfolding carry_out
  effect-leaves (nothing n o) y = inl (kept_same f (tables_of s) (tables_of s) refl refl)
  effect-leaves (opens n o l) y = leaves (open-leaves s h c.process n o) (opened n)
  effect-leaves (truncates n o hs a) y = split n.slot.0 f (λ q _. inr (inr (rw q at a)))
      (λ q _. leaves (truncate-leaves s h c.process n o hs) (kept-both f (opened n) (kept-remade f n.slot.0 _ _ _ (λ z. q (sym z)))))
  effect-leaves (creates d i y new o) z =
      let k = z.was (create-open-files s _ _ _ _) in
      leaves (create-leaves s h _ (subject_of (view s).proc c.process) d i (slot y) new o)
      (kept-both f (kept_row f y _ (tables_of s) (apart y FREE (λ a. omega arith) k o.free)) (kept-written f d.0 _ _ _ _ (apart d.0 DIRECTORY (λ a. omega arith) k o.naming.fits.dir-kind)))
  effect-leaves (symlinks d i y o) z =
      let k = z.was (symlink-open-files s _ _ _ _ _) in
      let q : f ≡ y → ⊥ = apart y FREE (λ a. omega arith) k o.free in
      leaves (symlink-leaves s h _ (subject_of (view s).proc c.process) d i (slot y) c.«data» o)
      (kept-both f (kept-both f (kept-bytes f y _ (tables_of s) q) (kept_row f y _ _ q)) (kept-written f d.0 _ _ _ _ (apart d.0 DIRECTORY (λ a. omega arith) k o.naming.fits.dir-kind)))
  effect-leaves (unlinks d i y n k) z =
      let w = unnaming-is s h y in
      let l = unlink-leaves s h d i y n k w in
      leaves l (kept-unlink f s h d i y (apart d.0 DIRECTORY (λ a. omega arith) (z.was (unlink-open-files s _ _)) n.dir-kind) (λ k u. u.0) w (λ q. z.used (ap (λ (x : Tables). x.file f FILE_KIND) l.has.is ∙ q)))
  effect-leaves (removes d i y n k l) z =
      let p = z.was (remove-open-files s _ _ _) in
      leaves (remove-leaves s h d i y n k l) (kept-remove f s h d i y _ (apart d.0 DIRECTORY (λ a. omega arith) p n.dir-kind) (apart y.0 DIRECTORY (λ a. omega arith) p k))
  effect-leaves (links d i y n hy k) z =
      leaves (link-leaves s h _ d i y n hy k)
      (kept-both f (kept-column f y.0 FILE_LINKS _ (tables_of s) (λ k u. u.0)) (kept-written f d.0 _ _ _ _ (apart d.0 DIRECTORY (λ a. omega arith) (z.was (link-open-files s _ _ _ _)) n.fits.dir-kind)))
  effect-leaves (renames d i y n g) z =
      leaves (rename-leaves s h _ d i y n g) (kept-written f d.0 _ _ _ (tables_of s) (apart d.0 DIRECTORY (λ a. omega arith) (z.was (rename-open-files s _ _ _)) n.dir-kind))
  effect-leaves (transfers d i e j y n k m a) z =
      let p = z.was (transfer-open-files s _ _ _ _) in
      leaves (transfer-leaves s h _ d i e j y n k m a)
      (kept-both f (kept-written f d.0 _ _ _ (tables_of s) (apart d.0 DIRECTORY (λ b. omega arith) p n.dir-kind)) (kept-written f e.0 _ _ _ _ (apart e.0 DIRECTORY (λ b. omega arith) p m.fits.dir-kind)))
  effect-leaves (changes_bits y b hy k n l o a) z = leaves (bits-leaves s h y.0 b.0 hy k n l) (kept-column f y.0 FILE_BITS _ (tables_of s) (λ k u. u.1))
  effect-leaves (closes i u hi) y = steadily _ y (close-leaves s h c.process i u.small hi u.used (releasing-is s h c.process i u.small hi)).steady
  effect-leaves (stores e at o hs l a) y = split ((view s).open_files e OPEN_SLOT) f (λ q _. inr (inl (rw q at a)))
      (λ q _. leaves (write-leaves s h c.«data» _ (placed-well s h c e at o hs l)) (written (placement (view s).tree.file (ofd_of e) (slot ((view s).open_files e OPEN_SLOT)) at (length c.«data»)) _ (λ z. q (sym z))))
  effect-leaves (reads e n o l) y = leaves (move-leaves s h e _ o (read_fits s h c e n l)) (kept_same f (tables_of s) _ refl refl)
  effect-leaves (seeks e n o l) y = leaves (move-leaves s h e n o l) (kept_same f (tables_of s) _ refl refl)
  effect-leaves (duplicates i j e o hj g) y = leaves (duplicating s h c i j e o hj g) (sharing c.process.0 j.0 e)
  effect-leaves (forks q u hq g) y = let w = forking s h c q u hq g in leaves w.leaves (kept_same f (tables_of s) _ w.files-same w.bytes_same)
  effect-leaves (exits u) y = steadily _ y (exit-leaves s h c.process u.small u.used).steady
  effect-leaves (executes l u hl) y = leaves (execute-leaves s h c.process l u hl) (kept_same f (tables_of s) _ refl refl)

  -- ---- of the store

  left-file : (t : Store) → SoundStore t → Stays t → Left (tables_of t) → SameFile s t f
  unfolding tables_of
  left-file t k y l = record {
    bytes = kept_block s t f h.sized k.sized (used-small t k f y.used) (unfold tables_of in l.bytes);
    kind = l.words FILE_KIND ((λ e. omega arith), (λ e. omega arith));
    owner = l.words FILE_OWNER ((λ e. omega arith), (λ e. omega arith));
    group = l.words FILE_GROUP ((λ e. omega arith), (λ e. omega arith));
    label = l.words FILE_LABEL ((λ e. omega arith), (λ e. omega arith));
    length = l.words FILE_LENGTH ((λ e. omega arith), (λ e. omega arith));
    version = l.words FILE_VERSION ((λ e. omega arith), (λ e. omega arith));
  }

-- ---- one call

-- what is claimed of the call that ends in x
abbrev Changed : Fixed → Store → Call → ℕ → Outcome → Type 0
Changed K s c f x = SameFile s x.store f ⊎ (((x.reply.refusal ≡ GRANTED) × AsksWrite s c f) ⊎ ((x.reply.refusal ≡ GRANTED) × AsksTruncation K s c f))

module _ (K : Fixed) (s : Store) (h : SoundStore s) (c : Call) (f : ℕ) where
  decided : {d : Decision} → Fit (Granting K s h c) d → Stays K s h c f (store_after s c d) → Changed K s c f (outcome_of K.rom s c (into c.buffer) d)
  unfolding outcome_of store_after reply_to
  decided (granting n o e g) y = by (effect-leaves K s h c f g y)
    where
      by : Kept NotLinksOrBits f (tables_of s) (tables_of (carry_out c e s)) ⊎ Rewriting K s h c f → Changed K s c f (outcome_of K.rom s c (into c.buffer) (Granted n o e))
      by (inl l) = inl (left-file K s h c f (carry_out c e s) (effect-keeps s h c g) y l)
      by (inr (inl a)) = inr (inl (refl, a))
      by (inr (inr a)) = inr (inr (refl, a))
  decided (refusing r i) y = inl (unchanged s f)

module _ (K : Fixed) (s : Store) (c : Call) (f : ℕ) where
  -- a call that leaves f as Stays says
  staying : (P : Store → Type 0) → ((h : SoundStore s) (t : Store) → SoundStore t → P t → Stays K s h c f t) → P (step K s c).store → Changed K s c f (step K s c)
  unfolding act outcome_of
  staying P y = step_by K s c (λ x. P x.store → Changed K s c f x)
      (λ e p. let w = (means-sound K s).holds e in
      let d = decide-fit K s w c in
      decided K s w.store c f d (y w.store (store_after s c (decide K (seen K.rom (view s)) c)) (after-sound K s w c d).store p))
      (λ _ _. inl (unchanged s f))

  pub changed-by-write : word s f FILE_KIND ≡ PLAIN → (word (step K s c).store f FILE_KIND ≡ FREE → ⊥) → SameFile s (step K s c).store f ⊎ (WritesTo K s c f ⊎ Truncates K s c f)
  unfolding tables_of
  changed-by-write k = staying (λ t. word t f FILE_KIND ≡ FREE → ⊥) (λ h t _ a. record { used = a; was = λ _. k })

  -- past the last slot nothing is stored: a prompt's number
  past-file : SLOTS ≤ f → SameFile s (step K s c).store f
  past-file l = step_by K s c (λ x. SameFile s x.store f) (λ e. unfold act outcome_of in by ((means-sound K s).holds e)) (λ _. unchanged s f)
    where
      by : AllSound K s → SameFile s (store_after s c (decide K (seen K.rom (view s)) c)) f
      by w = same-file s _ f (past_same s _ f w.store.sized (after-sound K s w c (decide-fit K s w c)).store.sized l)

  open-changed : IsOpen (step K s c).store f → SameFile s (step K s c).store f ⊎ (WritesTo K s c f ⊎ Truncates K s c f)
  open-changed o = by (dec_lt f SLOTS)
    where
      by : Dec (f < SLOTS) → SameFile s (step K s c).store f ⊎ (WritesTo K s c f ⊎ Truncates K s c f)
      by (yes l) = staying (λ t. IsOpen t f) (λ h t k o. record {
        used = λ z. omega (arith, z, open_plain t k f l o);
        was = λ q. open_plain s h f l (subst (λ (E : List ℕ). is_open (tab OPEN_FILE_WIDTH E) (slot f) ≡ true) q o);
      }) o
      by (no n) = inl (past-file (omega arith))

-- ---- a list of calls and borrowing reads

same-both : {s t u : Store} {f : ℕ} → SameFile s t f → SameFile t u f → SameFile s u f
same-both a b = record { bytes = b.bytes ∙ a.bytes; kind = b.kind ∙ a.kind; owner = b.owner ∙ a.owner; group = b.group ∙ a.group; label = b.label ∙ a.label; length = b.length ∙ a.length; version = b.version ∙ a.version }

open-same : (K : Fixed) (s : Store) (a : Action) (f : ℕ) → IsOpen (serve K s a).store f → (Rewrites K s a f → ⊥) → SameFile s (serve K s a).store f
unfolding serve Rewrites
open-same K s (Calls c) f o n = ⊎_elim (λ e. e) (λ w. absurd (n w)) (open-changed K s c f o)
open-same K s (Borrows p i m) f o n = borrow-leaves K s p i m f

pub open-unwritten : (K : Fixed) (s : Store) (f : ℕ) (xs : List Action) → OpenAfterEach K s f xs → Unwritten K s f xs → SameFile s (final K s xs) f
unfolding OpenAfterEach Unwritten final
open-unwritten K s f [] t u = unchanged s f
open-unwritten K s f (a ∷ xs) t u = same-both (open-same K s a f t.0 u.0) (open-unwritten K (serve K s a).store f xs t.1 u.1)
