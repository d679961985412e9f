-- A user cannot get rid of his directory while it holds a non-empty one that he may not write.
use mathlib.Core.Path.{◌≡◌, refl, sym, subst, ap, ◌∙◌}
use mathlib.Core.Bool.{true}
use mathlib.Core.List.{List, [], ◌∷◌}
use Prim.Native.Nat.{ℕ, ◌*◌, ◌<◌}
use native.Mathlib.Omega.{arith}
use lib.ListN.{get_or}
use lib.Seq.{drop_at}
use borrow.Author.Tests.{ltb-true}
use Rattle.rules.specs.Layout.{SLOTS, DIRENT_WIDTH, DIRENTS, ROM, PROCESSES, NAME, FILE_KIND, FILE_OWNER, FILE_GROUP, FILE_BITS, FILE_LENGTH, DIRECTORY, PROCESS_USER, PROCESS_GROUP}
use Rattle.rules.specs.Rights.{WRITE, rights_in, covers}
use Rattle.rules.specs.Store.{Store, Fixed, Table, View, view, slot, pid_of, subject_of}
use Rattle.rules.specs.Refusals.{GRANTED}
use Rattle.rules.specs.Directories.{dirent_at, dirent_slot, padded, dirent}
use Rattle.rules.specs.Rom.{ROM_NAME, rom_words, seen_file, length_in, with_rom, seen_dirents, seen}
use Rattle.rules.specs.Calls.{Call, operation_of}
use Rattle.rules.specs.Checks.{in_use, free_pid}
use Rattle.rules.specs.Effects.{carry_out}
use Rattle.rules.specs.Step.{reply_to, store_after, outcome_of, into, act, Action, serve, final}
use Rattle.rules.specs.declared.ids.Pid.{Pid}
use Rattle.rules.specs.declared.request.Operation.TheVariants as op
use Rattle.rules.specs.declared.refusal.Refusal.TheVariants.{Unsound}
use Rattle.rules.specs.declared.decision.Output.{Output}
use Rattle.rules.specs.declared.decision.Effect.{Effect}
use Rattle.rules.specs.Decisions.{Decision}
use Rattle.rules.proofs.Lists.{length-padded}
use Rattle.rules.proofs.Passed.{Fit, granting, refusing, Makes, Passed, Permit, permitted}
use Rattle.rules.proofs.Passed as passed
use Rattle.preservation.proofs.Tests.{upd, upd_same}
use Rattle.preservation.proofs.Tables.{Tables, dirent_row}
use Rattle.preservation.proofs.Processes.{proc_row}
use Rattle.preservation.proofs.StoreChanges.{tables_of}
use Rattle.preservation.proofs.SoundStore.{SoundStore, AllSound, means-sound, agree}
use Rattle.preservation.proofs.Granted.{used-small, in_use_lem, pid-free}
use Rattle.preservation.proofs.Decided.{grants}
use Rattle.preservation.proofs.Preserved.{forking, effect-keeps}
use Rattle.preservation.proofs.TestedOnce.{step_by}
use Rattle.preservation.proofs.OpenStays.{refusal-some}
use Rattle.preservation.proofs.Kept.{kept_block}
use Rattle.ownership.specs.History.{FORK, as_call}
use Rattle.ownership.specs.Directory.{word, user_of, slot_at, rights_on, Situation, ActionsOf, Stays, DirectoryStays, RomStays, ChildSame, ChildrenSame}
use Rattle.ownership.proofs.Asked.{facts}
use Rattle.ownership.proofs.Served.{serve-by}
use Rattle.ownership.proofs.Kept.{Kept}
use Rattle.ownership.proofs.Ancestors.{Ancestors, child-used}
use Rattle.ownership.proofs.DirectoryEffects.{effect-leaves}

-- ---- from tables to what is claimed

directory-small : (s : Store) → SoundStore s → (f : ℕ) → word s f FILE_KIND ≡ DIRECTORY → f < SLOTS
unfolding tables_of
directory-small s h f e = used-small s h f (λ z. omega (arith, e, z))

module _ (foo bar i : ℕ) (hi : i < DIRENTS) where
  row_of : (u : Store) → SoundStore u → word u foo FILE_KIND ≡ DIRECTORY → get_or (dirent_at ((view u).tree.shown foo) i) NAME 0 ≡ dirent_row (tables_of u).byte foo i NAME
  unfolding tables_of
  row_of u v e = agree u v.sized foo (directory-small u v foo e) e i NAME (omega arith)

  module _ (s t : Store) (h : SoundStore s) (g : SoundStore t) (kf : word s foo FILE_KIND ≡ DIRECTORY) (kb : word s bar FILE_KIND ≡ DIRECTORY) (o : slot_at s foo i ≡ bar) (w : Kept foo bar i (tables_of s) (tables_of t)) where
    kind-after : word t foo FILE_KIND ≡ DIRECTORY
    unfolding tables_of
    kind-after = w.foo-kind ∙ kf

    slot-after : slot_at t foo i ≡ slot_at s foo i
    unfolding dirent_slot
    slot-after = row_of t g kind-after ∙ w.names ∙ sym (row_of s h kf)

    stays : Stays foo bar i s t
    unfolding tables_of
    stays = record {
      foo-stays = kind-after;
      foo-owner = w.foo-owner;
      still-holds = slot-after ∙ o;
      bar-record = λ column. ap (λ (r : ℕ → ℕ). r column) w.bar-row;
      bar-names = kept_block s t bar h.sized g.sized (directory-small s h bar kb) (unfold tables_of in w.bar-bytes);
    }

stays_same : (foo bar i : ℕ) (s : Store) → word s foo FILE_KIND ≡ DIRECTORY → slot_at s foo i ≡ bar → Stays foo bar i s s
stays_same foo bar i s e o = record { foo-stays = e; foo-owner = refl; still-holds = o; bar-record = λ _. refl; bar-names = refl }

stays-both : (foo bar i : ℕ) (a b c : Store) → Stays foo bar i a b → Stays foo bar i b c → Stays foo bar i a c
stays-both foo bar i a b c x y = record {
  foo-stays = y.foo-stays;
  foo-owner = y.foo-owner ∙ x.foo-owner;
  still-holds = y.still-holds;
  bar-record = λ column. y.bar-record column ∙ x.bar-record column;
  bar-names = y.bar-names ∙ x.bar-names;
}

-- what was supposed is so again: a process in use of user A has the user and the group of one that was denied
situation-after : (A foo bar i : ℕ) (s t : Store) → Situation A foo bar i s → Stays foo bar i s t → Ancestors (view s).proc (view t).proc → Situation A foo bar i t
situation-after A foo bar i s t x y w = record {
  user = x.user;
  foo-directory = y.foo-stays;
  entry = x.entry;
  holds = y.still-holds;
  not_root = x.not_root;
  bar-directory = y.bar-record FILE_KIND ∙ x.bar-directory;
  not-empty = λ z. x.not-empty (sym (y.bar-record FILE_LENGTH) ∙ z);
  another = λ z. x.another (sym (y.bar-record FILE_OWNER) ∙ z);
  no_write = λ q used his. let p = w q used in ap (λ r. covers r WRITE) (rights-same q p.process p.same-user p.same-group) ∙ x.no_write p.process p.used (sym p.same-user ∙ his);
}
  where
    rights-same : (q p : Pid) → user_of t q ≡ user_of s p → (view t).proc q.0 PROCESS_GROUP ≡ (view s).proc p.0 PROCESS_GROUP → rights_on t bar q ≡ rights_on s bar p
    rights-same q p a b = unfold rights_in in rw (y.bar-record FILE_OWNER, y.bar-record FILE_GROUP, y.bar-record FILE_BITS, a, b)

-- ---- a call or a borrowing read, and a list of them

record After (A foo bar i : ℕ) (s t : Store) : Type 0 where
  stays-so : Stays foo bar i s t
  again : Situation A foo bar i t

module _ (K : Fixed) (A foo bar i : ℕ) (s : Store) (x : Situation A foo bar i s) where
  unchanged : After A foo bar i s s
  unchanged = record { stays-so = stays_same foo bar i s x.foo-directory x.holds; again = x }

  decided : (c : Call) → user_of s c.process ≡ A → (put : List ℕ → List ℕ) (d : Decision) → AllSound K s → Fit (Permit K (seen K.rom (view s)) c) d → After A foo bar i s (outcome_of K.rom s c put d).store
  unfolding outcome_of store_after
  decided c mine put d a (granting n o e p) =
      let g = grants K s a c n o e p in
      let w = effect-leaves K A foo bar i s a.store c x p.used mine g (facts K s c p).asked in
      let y : Stays foo bar i s (carry_out c e s) = stays foo bar i x.entry s (carry_out c e s) a.store (effect-keeps s a.store c g) x.foo-directory x.bar-directory x.holds w.files in
      record { stays-so = y; again = situation-after A foo bar i s (carry_out c e s) x y (unfold tables_of in w.processes) }
  decided c mine put d a (refusing r k) = unchanged

  one : (a : Action) → user_of s (as_call a).process ≡ A → After A foo bar i s (serve K s a).store
  one a mine = serve-by K s a (λ o. After A foo bar i s o.store) (decided (as_call a) mine) (λ _. unchanged)

pub directory-stays : DirectoryStays
unfolding ActionsOf final
directory-stays K A foo bar i s x [] _ = stays_same foo bar i s x.foo-directory x.holds
directory-stays K A foo bar i s x (a ∷ xs) k =
    let w = one K A foo bar i s x a k.0 in
    stays-both foo bar i s (serve K s a).store (final K (serve K s a).store xs) w.stays-so (directory-stays K A foo bar i (serve K s a).store w.again xs k.1)

-- ---- /rom

pub rom-shown : RomStays
unfolding seen_dirents with_rom seen_file rom_words length_in
rom-shown K s = record {
  entry = drop_at (padded (DIRENTS * DIRENT_WIDTH) ((view s).tree.dirents 0)) (dirent ROM_NAME (slot ROM)) (DIRENTS * DIRENT_WIDTH) (length-padded (DIRENTS * DIRENT_WIDTH) ((view s).tree.dirents 0));
  fields = λ _. refl;
  count = refl;
  names = refl;
}

-- ---- children

module _ (K : Fixed) (s : Store) (c : Call) where
  abbrev v : View
  v = seen K.rom (view s)

  given : (t : Store) (q : Pid) → q.0 < PROCESSES → (view t).proc ≡ upd (view s).proc q.0 (proc_row (subject_of (view s).proc c.process)) → ChildSame s t c.process q
  given t q h e = record { used = ap (λ (f : Table). in_use f q) e ∙ child-used (view s).proc c.process q h; same-user = at PROCESS_USER; same-group = at PROCESS_GROUP }
    where
      at : (k : ℕ) → (view t).proc q.0 k ≡ proc_row (subject_of (view s).proc c.process) k
      at k = ap (λ (f : Table). f q.0 k) e ∙ ap (λ (r : ℕ → ℕ). r k) (upd_same (view s).proc q.0 (proc_row (subject_of (view s).proc c.process)))

  makes-no-process : (kind : ℕ) → Makes K v c op.Fork kind → ⊥
  makes-no-process kind = elim [ ]

  child : SoundStore s → in_use (view s).proc c.process ≡ true → {n : ℕ} {o : Output} {e : Effect} → Passed K v c op.Fork n o e → ChildSame s (carry_out c e s) c.process (pid_of n)
  unfolding carry_out tables_of
  child h u (passed.forks q) =
      let p = free_pid (view s).proc in
      let w = forking s h c p (in_use_lem s h c.process u) (ltb-true p.0 PROCESSES q) (pid-free s h q) in
      given _ p (ltb-true p.0 PROCESSES q) (ap (λ (m : Tables). m.proc) w.leaves.has.is ∙ w.proc-to)
  child h u (passed.creates _ kind at b i q m d t) = absurd (makes-no-process kind i)

  forks-child : c.call ≡ FORK → SoundStore s → {d : Decision} → Fit (Permit K v c) d → (reply_to K.rom s (into c.buffer) d).refusal ≡ GRANTED →
      ChildSame s (store_after s c d) c.process (pid_of (reply_to K.rom s (into c.buffer) d).value)
  unfolding store_after reply_to operation_of
  forks-child k h (granting n o e p) g = child h p.used (subst (λ (j : ℕ). Passed K v c (operation_of j) n o e) k p.passed)
  forks-child k h (refusing r j) g = absurd (refusal-some r g)

pub child-same : ChildrenSame
unfolding act outcome_of
child-same K s c k = step_by K s c (λ x. x.reply.refusal ≡ GRANTED → ChildSame s x.store c.process (pid_of x.reply.value))
    (λ e. forks-child K s c k ((means-sound K s).holds e).store (permitted K (seen K.rom (view s)) c)) (λ _ g. absurd (refusal-some Unsound g))
