-- What each effect of a call of user A leaves of foo, of bar and of the processes.
use mathlib.Core.Path.{◌≡◌, refl, sym, subst, ap, ◌∙◌}
use mathlib.Core.Bool.{true, false≢true}
use Prim.Native.Nat.{ℕ, ◌<◌}
use native.Mathlib.Omega.{arith}
use Rattle.rules.specs.Layout.{SLOTS, NAME, FILE_KIND, FILE_OWNER, FILE_BITS, FILE_LENGTH, FILE_VERSION, OPEN_SLOT, OPEN_OFFSET, PLAIN, DIRECTORY}
use Rattle.rules.specs.Rights.{WRITE, covers, owns}
use Rattle.rules.specs.Store.{Store, Fixed, view, slot, subject_of}
use Rattle.rules.specs.Calls.{Call}
use Rattle.rules.specs.Checks.{in_use}
use Rattle.rules.specs.Checks as checks
use Rattle.rules.specs.Effects.{carry_out}
use Rattle.rules.specs.declared.ids.Slot.{Slot}
use Rattle.rules.specs.declared.decision.Unnamed.{Unnamed}
use Rattle.rules.specs.declared.decision.Unnamed.TheVariants as unnamed
use Rattle.rules.specs.declared.decision.Output.{Output}
use Rattle.rules.specs.declared.decision.Effect.{Effect}
use Rattle.preservation.proofs.Tests.{means-or, means-eq}
use Rattle.preservation.proofs.Tables.{Tables, dirent_row, file_to, bytes_to, open_to}
use Rattle.preservation.proofs.Dirents.{used-at}
use Rattle.preservation.proofs.Unlink.{no_row}
use Rattle.preservation.proofs.Plain.{wrote}
use Rattle.preservation.proofs.Open.{handed}
use Rattle.preservation.proofs.Processes.{shared}
use Rattle.preservation.proofs.Remake.{remade}
use Rattle.preservation.proofs.StoreChanges.{tables_of}
use Rattle.preservation.proofs.Shown.{slot_row}
use Rattle.preservation.proofs.SoundStore.{SoundStore, agree}
use Rattle.preservation.proofs.OpenEffects.{Leaves, open-leaves, truncate-leaves, move-leaves, duplicate-leaves, bits-leaves, execute-leaves, write-leaves}
use Rattle.preservation.proofs.NameEffects.{link-leaves, create-leaves, symlink-leaves, unlinked_tables, Names, Unnaming, keeps, frees, unlink-leaves, unnaming-is, remove-leaves, named_small, without_name}
use Rattle.preservation.proofs.RenameEffects.{rename-leaves, transfer-leaves}
use Rattle.preservation.proofs.DirentRow.{row-slot}
use Rattle.preservation.proofs.CloseEffects.{Steady, steady-still, close-leaves, releasing-is, exit-leaves}
use Rattle.preservation.proofs.Granted.{Granting, nothing, opens, truncates, creates, symlinks, unlinks, removes, links, renames, transfers, changes_bits, closes, stores, reads, seeks, duplicates, forks, exits, executes, used-small}
use Rattle.preservation.proofs.Preserved.{placed-well, read_fits, forking}
use Rattle.ownership.specs.Directory.{user_of, rights_on, Situation}
use Rattle.ownership.proofs.Asked.{May, Asked}
use Rattle.ownership.proofs.Kept.{Kept, kept-all, kept-slots, kept-remade, kept_row, kept-bytes, kept_word, kept-dirent, kept-open, row_other}
use Rattle.ownership.proofs.Ancestors.{Ancestors, same-processes, relabelled, forked, exited}

-- ---- one call of user A on a sound store

module _ (K : Fixed) (A foo bar i : ℕ) (s : Store) (h : SoundStore s) (c : Call) (x : Situation A foo bar i s) (used : in_use (view s).proc c.process ≡ true) (mine : user_of s c.process ≡ A) where
  foo-kind : (tables_of s).file foo FILE_KIND ≡ DIRECTORY
  foo-kind = unfold tables_of in x.foo-directory

  bar-kind : (tables_of s).file bar FILE_KIND ≡ DIRECTORY
  bar-kind = unfold tables_of in x.bar-directory

  foo-small : foo < SLOTS
  foo-small = used-small s h foo (λ z. omega (arith, foo-kind, z))

  there : dirent_row (tables_of s).byte foo i NAME ≡ bar
  unfolding tables_of
  there = sym (slot_row ((view s).tree.shown foo) (dirent_row (tables_of s).byte foo) (agree s h.sized foo foo-small x.foo-directory) i) ∙ x.holds

  foo-some : (tables_of s).file foo FILE_LENGTH ≡ 0 → ⊥
  foo-some z = omega (arith, z, h.tables.tree.lengths foo foo-small foo-kind, used-at (dirent_row (tables_of s).byte foo) i x.entry (λ y. x.not_root (sym there ∙ y)))

  bar-some : (tables_of s).file bar FILE_LENGTH ≡ 0 → ⊥
  bar-some = unfold tables_of in x.not-empty

  -- a slot that is no directory is another
  not-foo : (y : ℕ) → ((tables_of s).file y FILE_KIND ≡ DIRECTORY → ⊥) → foo ≡ y → ⊥
  not-foo y n q = n (rw (← q) foo-kind)

  not-bar : (y : ℕ) → ((tables_of s).file y FILE_KIND ≡ DIRECTORY → ⊥) → bar ≡ y → ⊥
  not-bar y n q = n (rw (← q) bar-kind)

  not-zero : user_of s c.process ≡ 0 → ⊥
  not-zero z = x.user (sym mine ∙ z)

  -- A may not write bar
  denied : (d : Slot) → May K s c d → bar ≡ d.0 → ⊥
  denied d may q = false≢true (sym (x.no_write c.process used mine) ∙ ap (λ (f : ℕ). covers (rights_on s f c.process) WRITE) q ∙ may not-zero)

  not-owner : (y : Slot) → owns (subject_of (view s).proc c.process) ((view s).tree.file y.0 FILE_OWNER) ≡ true → bar ≡ y.0 → ⊥
  unfolding owns
  not-owner y t q = x.another (ap (λ (z : ℕ). (view s).tree.file z FILE_OWNER) q ∙ sym own ∙ mine)
    where
      own : user_of s c.process ≡ (view s).tree.file y.0 FILE_OWNER
      own = (means-or (means-eq (user_of s c.process) 0) (means-eq (user_of s c.process) ((view s).tree.file y.0 FILE_OWNER))).holds t not-zero

  -- ---- what the effect leaves

  abbrev Left : Tables → Type 0
  Left n = Kept foo bar i (tables_of s) n

  same : Left (tables_of s)
  same = kept-all foo bar i (tables_of s) (tables_of s) refl refl

  pub record After (n : Tables) : Type 0 where
    pub files : Left n
    pub processes : Ancestors (tables_of s).proc n.proc

  -- the processes stay
  quiet : {t : Store} {n : Tables} → Leaves t n → n.proc ≡ (tables_of s).proc → Left n → After (tables_of t)
  quiet {t} {n} l e w = rw l.has.is (record { files = w; processes = same-processes (tables_of s).proc n.proc e })

  steadily : (t : Store) → Steady (tables_of s) (tables_of t) → Ancestors (tables_of s).proc (tables_of t).proc → After (tables_of t)
  steadily t y w = record {
    files = kept-slots foo bar i (tables_of s) (tables_of t) (steady-still (tables_of s) (tables_of t) y foo (λ z. omega (arith, foo-kind, z))) (steady-still (tables_of s) (tables_of t) y bar (λ z. omega (arith, bar-kind, z)));
    processes = w;
  }

  -- an entry that names something else than bar may be put anew
  other-entry : (d : Slot) (j y x : ℕ) → dirent_row (tables_of s).byte d.0 j NAME ≡ y → (bar ≡ y → ⊥) → foo ≡ d.0 → i ≡ j → x ≡ dirent_row (tables_of s).byte foo i NAME
  other-entry d j y x e n q r = absurd (n (sym there ∙ rw (q, r) e))

  -- one that names y goes on naming it
  same-entry : (d : Slot) (j y x : ℕ) → dirent_row (tables_of s).byte d.0 j NAME ≡ y → x ≡ y → foo ≡ d.0 → i ≡ j → x ≡ dirent_row (tables_of s).byte foo i NAME
  same-entry d j y x e n q r = n ∙ sym (rw (q, r) e)

  -- directory d without its entry j, which names y
  unnamed-left : (d : Slot) (j : ℕ) (y : Slot) → May K s c d → Names s h d j y → (bar ≡ y.0 → ⊥) → Left (without_name s h d j)
  unnamed-left d j y may n b = kept-dirent foo bar i (tables_of s) (tables_of s) d.0 j no_row _ _ (λ _ _. refl) (denied d may) (other-entry d j y.0 _ n.there b) same

  unlinked : (d : Slot) (j : ℕ) (y : Slot) → May K s c d → Names s h d j y → (foo ≡ y.0 → ⊥) → (bar ≡ y.0 → ⊥) → {w : Unnamed} → Unnaming s h y w → Left (unlinked_tables s h d j w)
  unfolding unlinked_tables
  unlinked d j y may n f b (keeps a) = kept_word foo bar i (tables_of s) (without_name s h d j) y.0 _ _ f b (unnamed-left d j y may n b)
  unlinked d j y may n f b (frees a e) = kept-remade foo bar i (tables_of s) (without_name s h d j) y.0 _ _ f b (unnamed-left d j y may n b)

  removed : (d : Slot) (j : ℕ) (y : Slot) → May K s c d → Names s h d j y → (foo ≡ y.0 → ⊥) → (bar ≡ y.0 → ⊥) → Left (unlinked_tables s h d j (unnamed.Freed y (checks.freed (view s).tree.file y)))
  unfolding unlinked_tables
  removed d j y may n f b = kept-remade foo bar i (tables_of s) (without_name s h d j) y.0 _ _ f b (unnamed-left d j y may n b)

  unlink-proc : (d : Slot) (j : ℕ) {y : Slot} {w : Unnamed} → Unnaming s h y w → (unlinked_tables s h d j w).proc ≡ (tables_of s).proc
  unfolding unlinked_tables remade
  unlink-proc d j (keeps a) = refl
  unlink-proc d j (frees a e) = refl

  remove-proc : (d : Slot) (j : ℕ) (y : Slot) → (unlinked_tables s h d j (unnamed.Freed y (checks.freed (view s).tree.file y))).proc ≡ (tables_of s).proc
  unfolding unlinked_tables remade
  remove-proc d j y = refl

  stored : (y : ℕ) (g : ℕ → ℕ) (z t e v : ℕ) → (foo ≡ y → ⊥) → (bar ≡ y → ⊥) → Left (open_to e OPEN_OFFSET v (wrote y g z t (tables_of s)))
  unfolding wrote
  stored y g z t e v f b = kept-open foo bar i (tables_of s) (file_to y FILE_VERSION t (file_to y FILE_LENGTH z (bytes_to y g (tables_of s)))) e OPEN_OFFSET v
      (kept_word foo bar i (tables_of s) (file_to y FILE_LENGTH z (bytes_to y g (tables_of s))) y FILE_VERSION t f b (kept_word foo bar i (tables_of s) (bytes_to y g (tables_of s)) y FILE_LENGTH z f b (kept-bytes foo bar i (tables_of s) (tables_of s) y g f b same)))

  pub effect-leaves : {n : ℕ} {o : Output} {e : Effect} → Granting K s h c n o e → Asked K s c e → After (tables_of (carry_out c e s))
  unfolding carry_out Asked handed remade shared tables_of wrote
  effect-leaves (nothing n o) a = record { files = same; processes = same-processes (tables_of s).proc (tables_of s).proc refl }
  effect-leaves (opens n o l) a = quiet (open-leaves s h c.process n o) (refl) (kept-all foo bar i _ _ refl refl)
  effect-leaves (truncates n o hs b) a = quiet (truncate-leaves s h c.process n o hs) (refl)
      (kept-remade foo bar i _ _ n.slot.0 _ _ (not-foo n.slot.0 (λ z. omega (arith, o.plain hs, z))) (not-bar n.slot.0 (λ z. omega (arith, o.plain hs, z))) (kept-all foo bar i _ _ refl refl))
  effect-leaves (creates d j y new o) a = quiet (create-leaves s h _ (subject_of (view s).proc c.process) d j (slot y) new o) refl
      (kept-dirent foo bar i (tables_of s) _ d.0 j _ _ _ o.naming.fits.row-end (denied d a) (other-entry d j 0 _ o.naming.fits.dirent-empty x.not_root)
      (kept_row foo bar i (tables_of s) (tables_of s) y _ (not-foo y (λ z. omega (arith, o.free, z))) (not-bar y (λ z. omega (arith, o.free, z))) same))
  effect-leaves (symlinks d j y o) a =
      let f : foo ≡ y → ⊥ = not-foo y (λ z. omega (arith, o.free, z)) in
      let b : bar ≡ y → ⊥ = not-bar y (λ z. omega (arith, o.free, z)) in
      quiet (symlink-leaves s h _ (subject_of (view s).proc c.process) d j (slot y) c.«data» o) refl
      (kept-dirent foo bar i (tables_of s) _ d.0 j _ _ _ o.naming.fits.row-end (denied d a) (other-entry d j 0 _ o.naming.fits.dirent-empty x.not_root)
      (kept_row foo bar i (tables_of s) _ y _ f b (kept-bytes foo bar i (tables_of s) (tables_of s) y _ f b same)))
  effect-leaves (unlinks d j y n k) a = quiet (unlink-leaves s h d j y n k (unnaming-is s h y)) (unlink-proc d j (unnaming-is s h y)) (unlinked d j y a n (not-foo y.0 k) (not-bar y.0 k) (unnaming-is s h y))
  effect-leaves (removes d j y n k l) a = quiet (remove-leaves s h d j y n k l) (remove-proc d j y) (removed d j y a n (λ q. foo-some (rw q l)) (λ q. bar-some (rw q l)))
  effect-leaves (links d j y n hy k) a = quiet (link-leaves s h _ d j y n hy k) refl
      (kept-dirent foo bar i (tables_of s) _ d.0 j _ _ _ n.fits.row-end (denied d a) (other-entry d j 0 _ n.fits.dirent-empty x.not_root)
      (kept_word foo bar i (tables_of s) (tables_of s) y.0 _ _ (not-foo y.0 (λ z. omega (arith, k, z))) (not-bar y.0 (λ z. omega (arith, k, z))) same))
  effect-leaves (renames d j y n f) a = quiet (rename-leaves s h _ d j y n f) refl
      (kept-dirent foo bar i (tables_of s) (tables_of s) d.0 j _ _ _ f.row-end (denied d a) (same-entry d j y.0 _ n.there (row-slot _ y (omega (arith, named_small s h d j y n)))) same)
  effect-leaves (transfers d j e l y n k m b) a = quiet (transfer-leaves s h _ d j e l y n k m b) refl
      (kept-dirent foo bar i (tables_of s) (without_name s h d j) e.0 l _ _ _ m.fits.row-end (denied e a.1) (other-entry e l 0 _ m.fits.dirent-empty x.not_root) (unnamed-left d j y a.0 n (not-bar y.0 k)))
  effect-leaves (changes_bits y b hy k n l o q) a = quiet (bits-leaves s h y.0 b.0 hy k n l) refl (record {
    foo-kind = refl;
    foo-owner = refl;
    names = refl;
    bar-row = row_other (tables_of s).file y.0 FILE_BITS b.0 bar (not-owner y o);
    bar-bytes = refl;
  })
  effect-leaves (closes j u hj) a = let w = close-leaves s h c.process j u.small hj u.used (releasing-is s h c.process j u.small hj) in steadily _ w.steady (same-processes (tables_of s).proc _ w.proc-same)
  effect-leaves (stores e at o hs l b) a =
      let k : (tables_of s).file ((view s).open_files e OPEN_SLOT) FILE_KIND ≡ PLAIN = ((h.tables.opens.open-files e o.small).plain o.open-refs hs) in
      quiet (write-leaves s h c.«data» _ (placed-well s h c e at o hs l)) (refl)
      (stored ((view s).open_files e OPEN_SLOT) _ _ _ e _ (not-foo ((view s).open_files e OPEN_SLOT) (λ z. omega (arith, k, z))) (not-bar ((view s).open_files e OPEN_SLOT) (λ z. omega (arith, k, z))))
  effect-leaves (reads e n o l) a = quiet (move-leaves s h e _ o (read_fits s h c e n l)) refl (kept-all foo bar i _ _ refl refl)
  effect-leaves (seeks e n o l) a = quiet (move-leaves s h e n o l) refl (kept-all foo bar i _ _ refl refl)
  effect-leaves (duplicates j k e o hk g) a = quiet (duplicate-leaves s h c.process j k e o hk g) (refl) (kept-all foo bar i _ _ refl refl)
  effect-leaves (forks q u hq g) a = let w = forking s h c q u hq g in
      rw w.leaves.has.is (record {
        files = kept-all foo bar i _ _ w.files-same w.bytes_same;
        processes = subst (λ (f : ℕ → ℕ → ℕ). Ancestors (tables_of s).proc f) (sym w.proc-to) (forked (view s).proc c.process q used);
      })
  effect-leaves (exits u) a = let w = exit-leaves s h c.process u.small u.used in steadily _ w.steady (subst (λ (f : ℕ → ℕ → ℕ). Ancestors (tables_of s).proc f) (sym w.proc-to) (exited (tables_of s).proc c.process.0))
  effect-leaves (executes l u hl) a = rw (execute-leaves s h c.process l u hl).has.is (record { files = kept-all foo bar i _ _ refl refl; processes = relabelled (tables_of s).proc c.process.0 l })
