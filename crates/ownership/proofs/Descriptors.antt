-- Descriptors held are those at the start and those given since, less those taken.
use mathlib.Core.Path.{◌≡◌, refl, sym, ap, ◌∙◌, fun_ext}
use mathlib.Core.Bool.{Bool, true, false, cond, false≢true}
use mathlib.Core.List.{List, [], ◌∷◌}
use Prim.Native.Nat.{ℕ, ◌+◌, ◌-◌, ◌<◌}
use native.Mathlib.Omega.{arith}
use lib.Dec.{eqb}
use borrow.Author.Tests.{eq-eqb, ne_eqb}
use Rattle.rules.specs.Choice.{every, some}
use Rattle.rules.specs.Layout.{PROCESSES, DESCRIPTORS, OPEN_REFERENCES, PROCESS_USED}
use Rattle.rules.specs.Store.{Store, Fixed, view, slot, ofd_of, subject_of, up, apply_all}
use Rattle.rules.specs.Refusals.{GRANTED, refusal_number}
use Rattle.rules.specs.Rom.{seen}
use Rattle.rules.specs.Calls.{Call}
use Rattle.rules.specs.Checks.{held}
use Rattle.rules.specs.Checks as checks
use Rattle.rules.specs.Effects.{duplicate_changes, carry_out}
use Rattle.rules.specs.Step.{Outcome, refused_reply, reply_to, store_after, outcome_of, Action, serve, final}
use Rattle.rules.specs.declared.ids.Slot.{Slot}
use Rattle.rules.specs.declared.ids.Pid.{Pid}
use Rattle.rules.specs.declared.ids.Fd.{Fd}
use Rattle.rules.specs.declared.refusal.Refusal.{Refusal}
use Rattle.rules.specs.declared.refusal.Refusal.TheVariants.{Unsound}
use Rattle.rules.specs.declared.decision.Unnamed.{Unnamed}
use Rattle.rules.specs.declared.decision.Unnamed.TheVariants as unnamed
use Rattle.rules.specs.declared.decision.Output.{Output}
use Rattle.rules.specs.declared.decision.Effect.{Effect}
use Rattle.rules.specs.declared.decision.Effect.TheVariants as effect
use Rattle.rules.specs.Decisions.{Decision}
use Rattle.rules.proofs.Passed.{Fit, granting, refusing, Permit}
use Rattle.preservation.proofs.Tests.{split, upd, upd_same, upd_other, upd_row, means-every, means-and, means-last, means-not, means-eq}
use Rattle.preservation.proofs.Tables.{Tables}
use Rattle.preservation.proofs.Sums.{sum, sum_same}
use Rattle.preservation.proofs.Remake.{remade}
use Rattle.preservation.proofs.Plain.{wrote}
use Rattle.preservation.proofs.Open.{handed}
use Rattle.preservation.proofs.Processes.{shared}
use Rattle.preservation.proofs.StoreChanges.{tables_of}
use Rattle.preservation.proofs.SoundStore.{SoundStore, AllSound}
use Rattle.preservation.proofs.OpenEffects.{Leaves, Caller, Holds, open-leaves, truncate-leaves, move-leaves, duplicate-leaves, bits-leaves, execute-leaves, write-leaves}
use Rattle.preservation.proofs.NameEffects.{link-leaves, create-leaves, symlink-leaves, unlinked_tables, Unnaming, keeps, frees, unlink-leaves, unnaming-is, remove-leaves}
use Rattle.preservation.proofs.RenameEffects.{rename-leaves, transfer-leaves}
use Rattle.preservation.proofs.CloseEffects.{close-leaves, releasing-is, exit-leaves}
use Rattle.preservation.proofs.Granted.{Granting, nothing, opens, truncates, creates, symlinks, unlinks, removes, links, renames, transfers, changes_bits, closes, stores, reads, seeks, duplicates, forks, exits, executes}
use Rattle.preservation.proofs.Decided.{grants}
use Rattle.preservation.proofs.Preserved.{placed-well, read_fits, forking}
use Rattle.preservation.proofs.OpenStays.{refusal-some}
use Rattle.ownership.specs.History.{OPEN, CLOSE, DUPLICATE, FORK, EXIT, as_call, is_granted, Event, event_of, history, after_own, after_event, ledger, made, had}
use Rattle.ownership.specs.Descriptors.{held_by, held_in, DescriptorsCounted}
use Rattle.ownership.proofs.Asked.{is_other, Asked, Numbered, facts}
use Rattle.ownership.proofs.Served.{serve-by}
use Rattle.ownership.proofs.Rows.{row_held, held-row, held-sum, row-none, row-gains, row-loses, all-change}

-- ---- what a granted call does to the rows of descriptors

-- in the words of the history: f is what each process holds before the call of number k by process p with value n, and g after it
pub record Counts (p k n : ℕ) (f g : ℕ → ℕ) : Type 0 where
  pub each : (q : ℕ) → g q ≡ after_event (record { process = p; call = k; value = n }) f q
  pub together : sum PROCESSES g + cond (eqb k CLOSE) 1 0 + cond (eqb k EXIT) (f p) 0 ≡ sum PROCESSES f + cond (eqb k OPEN) 1 0 + cond (eqb k DUPLICATE) 1 0 + cond (eqb k FORK) (f p) 0

cond_same : (b : Bool) (x : ℕ) → cond b x x ≡ x
cond_same true x = refl
cond_same false x = refl

-- another call: nothing changes
counts_same : (p k n : ℕ) (f g : ℕ → ℕ) → is_other k ≡ true → ((q : ℕ) → g q ≡ f q) → Counts p k n f g
unfolding is_other after_event after_own every some
counts_same p k n f g e same =
    let w = (means-every (means-and (means-not (means-eq k OPEN)) (means-and (means-not (means-eq k CLOSE)) (means-and (means-not (means-eq k DUPLICATE)) (means-and (means-not (means-eq k FORK)) (means-last (means-not (means-eq k EXIT)))))))).holds (unfold is_other in e) in
    let a = ne_eqb k OPEN w.0 in let b = ne_eqb k CLOSE w.1.0 in let c = ne_eqb k DUPLICATE w.1.1.0 in let d = ne_eqb k FORK w.1.1.1.0 in let x = ne_eqb k EXIT w.1.1.1.1 in
    record {
      each = λ q. rw (a, b, c, d, x) (same q ∙ sym (cond_same (eqb q p) (f q)));
      together = rw (a, b, c, d, x) (omega (arith, sum_same PROCESSES f g (λ q _. same q)));
    }

-- no other process than p has more or less
module _ (p n : ℕ) (f g : ℕ → ℕ) (l : p < PROCESSES) (others : (q : ℕ) → (q ≡ p → ⊥) → g q ≡ f q) where
  at_p : (h : ℕ → ℕ) → g p ≡ h p → (q : ℕ) → g q ≡ cond (eqb q p) (h q) (f q)
  at_p h e q = split q p (λ z t. rw (t, z) e) (λ z t. rw t (others q z))

  counts-open : g p ≡ f p + 1 → Counts p OPEN n f g
  unfolding after_event after_own every some
  counts-open e = record { each = at_p (λ q. f q + 1) e; together = omega (arith, all-change f g p l others) }

  counts-duplicate : g p ≡ f p + 1 → Counts p DUPLICATE n f g
  unfolding after_event after_own every some
  counts-duplicate e = record { each = at_p (λ q. f q + 1) e; together = omega (arith, all-change f g p l others) }

  counts-close : g p + 1 ≡ f p → Counts p CLOSE n f g
  unfolding after_event after_own every some
  counts-close e = record { each = at_p (λ q. f q - 1) (omega arith); together = omega (arith, all-change f g p l others) }

  counts-exit : g p ≡ 0 → Counts p EXIT n f g
  unfolding after_event after_own every some
  counts-exit e = record { each = at_p (λ q. 0) e; together = omega (arith, all-change f g p l others) }

-- process n, which has none, gets what process p has
counts-fork : (p n : ℕ) (f g : ℕ → ℕ) → n < PROCESSES → ((q : ℕ) → (q ≡ n → ⊥) → g q ≡ f q) → f n ≡ 0 → g n ≡ f p → Counts p FORK n f g
unfolding after_event after_own every some
counts-fork p n f g l others z e = record {
  each = λ q. split q n (λ y t. rw (t, y) e) (λ y t. rw t (others q y ∙ sym (cond_same (eqb q p) (f q))));
  together = omega (arith, all-change f g n l others);
}

-- ---- each effect

module _ (K : Fixed) (s : Store) (h : SoundStore s) (c : Call) where
  abbrev Done : (k n : ℕ) → Store → Type 0
  Done k n t = Counts c.process.0 k n (held_by s) (held_by t)

  desc-is : {t : Store} {m : Tables} → Leaves t m → (tables_of t).desc ≡ m.desc
  desc-is l = ap (λ (x : Tables). x.desc) l.has.is

  -- the row of process q
  row_is : (t : Store) (q : ℕ) (f : ℕ → ℕ → ℕ) → (tables_of t).desc ≡ f → held_by t q ≡ row_held (f q)
  row_is t q f e = held-row t q ∙ ap (λ (x : ℕ → ℕ → ℕ). row_held (x q)) e

  -- the rows of descriptors stay
  quiet : (n : ℕ) {t : Store} {m : Tables} → is_other c.call ≡ true → Leaves t m → m.desc ≡ (tables_of s).desc → Done c.call n t
  quiet n {t} {m} e l d = counts_same c.process.0 c.call n (held_by s) (held_by t) e (λ q. row_is t q (tables_of s).desc (desc-is l ∙ d) ∙ sym (held-row s q))

  -- one row changes
  module _ (t : Store) (p : ℕ) (row : ℕ → ℕ) (e : (tables_of t).desc ≡ upd (tables_of s).desc p row) where
    others-of : (q : ℕ) → (q ≡ p → ⊥) → held_by t q ≡ held_by s q
    others-of q n = row_is t q _ e ∙ ap row_held (upd_other (tables_of s).desc p row q n) ∙ sym (held-row s q)

    own_of : held_by t p ≡ row_held row
    own_of = row_is t p _ e ∙ ap row_held (upd_same (tables_of s).desc p row)

  gains-of : (t : Store) (j w : ℕ) → (tables_of t).desc ≡ upd_row (tables_of s).desc c.process.0 j (w + 1) → j < DESCRIPTORS → (tables_of s).desc c.process.0 j ≡ 0 → held_by t c.process.0 ≡ held_by s c.process.0 + 1
  gains-of t j w e l z = own_of t c.process.0 _ e ∙ row-gains ((tables_of s).desc c.process.0) j w l z ∙ ap (λ (x : ℕ). x + 1) (sym (held-row s c.process.0))

  something : (i : Fd) → held (view s).desc c.process i ≡ true → (tables_of s).desc c.process.0 i.0 ≡ 0 → ⊥
  unfolding held tables_of
  something i t z = false≢true (sym (rw (eq-eqb ((view s).desc c.process.0 i.0) 0 z)) ∙ t)

  opened : (t : Store) (n j w : ℕ) → Caller (tables_of s) c.process → (tables_of t).desc ≡ upd_row (tables_of s).desc c.process.0 j (w + 1) → j < DESCRIPTORS → (tables_of s).desc c.process.0 j ≡ 0 → Done OPEN n t
  opened t n j w u e l z = counts-open c.process.0 n (held_by s) (held_by t) u.small (others-of t c.process.0 _ e) (gains-of t j w e l z)

  duplicated : (t : Store) (n j w : ℕ) → Caller (tables_of s) c.process → (tables_of t).desc ≡ upd_row (tables_of s).desc c.process.0 j (w + 1) → j < DESCRIPTORS → (tables_of s).desc c.process.0 j ≡ 0 → Done DUPLICATE n t
  duplicated t n j w u e l z = counts-duplicate c.process.0 n (held_by s) (held_by t) u.small (others-of t c.process.0 _ e) (gains-of t j w e l z)

  closed : (t : Store) (n j : ℕ) → Caller (tables_of s) c.process → (tables_of t).desc ≡ upd_row (tables_of s).desc c.process.0 j 0 → j < DESCRIPTORS → ((tables_of s).desc c.process.0 j ≡ 0 → ⊥) → Done CLOSE n t
  closed t n j u e l z = counts-close c.process.0 n (held_by s) (held_by t) u.small (others-of t c.process.0 _ e)
      (ap (λ (x : ℕ). x + 1) (own_of t c.process.0 _ e) ∙ row-loses ((tables_of s).desc c.process.0) j l z ∙ sym (held-row s c.process.0))

  unlink-desc : (d : Slot) (j : ℕ) {y : Slot} {w : Unnamed} → Unnaming s h y w → (unlinked_tables s h d j w).desc ≡ (tables_of s).desc
  unfolding unlinked_tables remade
  unlink-desc d j (keeps a) = refl
  unlink-desc d j (frees a b) = refl

  remove-desc : (d : Slot) (j : ℕ) (y : Slot) → (unlinked_tables s h d j (unnamed.Freed y (checks.freed (view s).tree.file y))).desc ≡ (tables_of s).desc
  unfolding unlinked_tables remade
  remove-desc d j y = refl

  duplicate-desc : (j i : Fd) (e : ℕ) → Holds (tables_of s) c.process j e → i.0 < DESCRIPTORS → (tables_of s).desc c.process.0 i.0 ≡ 0 →
      (tables_of (apply_all (duplicate_changes c.process i (ofd_of e) (up ((view s).open_files e OPEN_REFERENCES))) s)).desc ≡ upd_row (tables_of s).desc c.process.0 i.0 (e + 1)
  duplicate-desc j i e o hi g =
      let l : Leaves (apply_all (duplicate_changes c.process i (ofd_of e) (up ((view s).open_files e OPEN_REFERENCES))) s) (shared c.process.0 i.0 e (tables_of s)) = unfold tables_of in duplicate-leaves s h c.process j i e o hi g in
      desc-is l ∙ (unfold shared handed in refl)

  apart : (p q : ℕ) → (tables_of s).proc p PROCESS_USED ≡ 1 → (tables_of s).proc q PROCESS_USED ≡ 0 → p ≡ q → ⊥
  apart p q a b z = omega (arith, a, rw (← z) at b)

  forked : (q : Pid) → Caller (tables_of s) c.process → q.0 < PROCESSES → (tables_of s).proc q.0 PROCESS_USED ≡ 0 → Done FORK q.0 (carry_out c (effect.Forked q (subject_of (view s).proc c.process)) s)
  unfolding carry_out
  forked q u hq g =
      let w = forking s h c q u hq g in
      let e = desc-is w.leaves ∙ w.desc-to (apart c.process.0 q.0 u.used g) in
      counts-fork c.process.0 q.0 (held_by s) _ hq (others-of _ q.0 _ e)
      (held-row s q.0 ∙ row-none _ ((h.tables.procs q.0 hq).desc-zero g)) (own_of _ q.0 _ e ∙ sym (held-row s c.process.0))

  exited : Caller (tables_of s) c.process → Done EXIT 0 (carry_out c effect.Exited s)
  unfolding carry_out
  exited u =
      let w = exit-leaves s h c.process u.small u.used in
      counts-exit c.process.0 0 (held_by s) _ u.small (others-of _ c.process.0 _ w.desc-to) (own_of _ c.process.0 _ w.desc-to ∙ row-none (λ _. 0) (λ _ _. refl))

  effect-counts : {n : ℕ} {o : Output} {e : Effect} → Granting K s h c n o e → Asked K s c e → Numbered K s c e → Done c.call n (carry_out c e s)
  unfolding carry_out Asked Numbered handed remade wrote
  effect-counts (nothing n o) a k = counts_same c.process.0 c.call n (held_by s) (held_by s) k (λ q. refl)
  effect-counts (opens n o l) a k = rw k (opened _ _ n.fd.0 n.ofd.0 o.caller (desc-is (open-leaves s h c.process n o) ∙ (refl)) o.fd-small o.fd-free)
  effect-counts (truncates n o hs b) a k = rw k (opened _ _ n.fd.0 n.ofd.0 o.caller (desc-is (truncate-leaves s h c.process n o hs) ∙ (refl)) o.fd-small o.fd-free)
  effect-counts (creates d j y new o) a k = quiet _ k (create-leaves s h _ (subject_of (view s).proc c.process) d j (slot y) new o) refl
  effect-counts (symlinks d j y o) a k = quiet _ k (symlink-leaves s h _ (subject_of (view s).proc c.process) d j (slot y) c.«data» o) refl
  effect-counts (unlinks d j y n r) a k = quiet _ k (unlink-leaves s h d j y n r (unnaming-is s h y)) (unlink-desc d j (unnaming-is s h y))
  effect-counts (removes d j y n r l) a k = quiet _ k (remove-leaves s h d j y n r l) (remove-desc d j y)
  effect-counts (links d j y n hy r) a k = quiet _ k (link-leaves s h _ d j y n hy r) refl
  effect-counts (renames d j y n f) a k = quiet _ k (rename-leaves s h _ d j y n f) refl
  effect-counts (transfers d j e l y n r m b) a k = quiet _ k (transfer-leaves s h _ d j e l y n r m b) refl
  effect-counts (changes_bits y b hy r n l o q) a k = quiet _ k (bits-leaves s h y.0 b.0 hy r n l) refl
  effect-counts (closes j u hj) a k = rw k (closed _ _ j.0 u (close-leaves s h c.process j u.small hj u.used (releasing-is s h c.process j u.small hj)).desc-to hj (something j a))
  effect-counts (stores e at o hs l b) a k = quiet _ k (write-leaves s h c.«data» _ (placed-well s h c e at o hs l)) (refl)
  effect-counts (reads e n o l) a k = quiet _ k (move-leaves s h e _ o (read_fits s h c e n l)) refl
  effect-counts (seeks e n o l) a k = quiet _ k (move-leaves s h e n o l) refl
  effect-counts (duplicates j i e o hi g) a k = rw k (duplicated _ i.0 i.0 e o.caller (duplicate-desc j i e o hi g) hi g)
  effect-counts (forks q u hq g) a k = rw k (forked q u hq g)
  effect-counts (exits u) a k = rw k (exited u)
  effect-counts (executes l u hl) a k = quiet _ k (execute-leaves s h c.process l u hl) refl

-- ---- a call or a borrowing read, and a list of them

-- an action as the history has it: its event, or nothing
data Recorded (s : Store) (c : Call) (o : Outcome) : Type 0 where
  granted : is_granted o.reply ≡ true → Counts c.process.0 c.call o.reply.value (held_by s) (held_by o.store) → Recorded s c o
  refused : is_granted o.reply ≡ false → o.store ≡ s → Recorded s c o

not-granted : (r : Refusal) (k : ℕ) (buffer : List ℕ) → is_granted (refused_reply r k buffer) ≡ false
unfolding is_granted
not-granted r k buffer = ne_eqb (refusal_number r) GRANTED (refusal-some r)

module _ (K : Fixed) (s : Store) where
  decided : (c : Call) (put : List ℕ → List ℕ) (d : Decision) → AllSound K s → Fit (Permit K (seen K.rom (view s)) c) d → Recorded s c (outcome_of K.rom s c put d)
  unfolding outcome_of reply_to store_after
  decided c put d a (granting n o e p) = let f = facts K s c p in granted (unfold is_granted in refl) (effect-counts K s a.store c (grants K s a c n o e p) f.asked f.numbered)
  decided c put d a (refusing r k) = refused (not-granted r k (put [])) refl

  recorded : (a : Action) → Recorded s (as_call a) (serve K s a)
  recorded a = serve-by K s a (Recorded s (as_call a)) (decided (as_call a)) (λ buffer. refused (not-granted Unsound 0 buffer) refl)

-- from one event to the list
record Sums (f g : ℕ → ℕ) (a b : ℕ) (h : List Event) : Type 0 where
  each : (p : ℕ) → g p ≡ ledger f h p
  together : b + made CLOSE h + had EXIT f h ≡ a + made OPEN h + made DUPLICATE h + had FORK f h

sums-nothing : (f : ℕ → ℕ) (a : ℕ) → Sums f f a a []
unfolding ledger made had
sums-nothing f a = record { each = λ _. refl; together = omega arith }

sums-event : (p k n : ℕ) (f g i : ℕ → ℕ) (a b d : ℕ) (h : List Event) → Counts p k n f g → sum PROCESSES f ≡ a → sum PROCESSES g ≡ b → Sums g i b d h → Sums f i a d (record { process = p; call = k; value = n } ∷ h)
unfolding ledger made had
sums-event p k n f g i a b d h c x y z =
    let e : after_event (record { process = p; call = k; value = n }) f ≡ g = fun_ext (λ q. sym (c.each q)) in
    record { each = λ q. rw e (z.each q); together = rw e (omega (arith, c.together, z.together)) }

sums-list : (K : Fixed) (s : Store) (xs : List Action) → Sums (held_by s) (held_by (final K s xs)) (held_in s) (held_in (final K s xs)) (history K s xs)
unfolding history final
sums-list K s [] = sums-nothing (held_by s) (held_in s)
sums-list K s (a ∷ xs) = by (recorded K s a) (sums-list K (serve K s a).store xs)
  where
    by : Recorded s (as_call a) (serve K s a) → Sums (held_by (serve K s a).store) (held_by (final K (serve K s a).store xs)) (held_in (serve K s a).store) (held_in (final K (serve K s a).store xs)) (history K (serve K s a).store xs) →
        Sums (held_by s) (held_by (final K (serve K s a).store xs)) (held_in s) (held_in (final K (serve K s a).store xs)) (cond (is_granted (serve K s a).reply) (event_of a (serve K s a).reply ∷ history K (serve K s a).store xs) (history K (serve K s a).store xs))
    by (granted e w) z = rw e (sums-event _ _ _ _ _ _ _ _ _ _ w (sym (held-sum s)) (sym (held-sum (serve K s a).store)) z)
    by (refused n e) z = rw (n, ap held_by (sym e), ap held_in (sym e)) z

pub descriptors-counted : DescriptorsCounted
descriptors-counted K s xs = let w = sums-list K s xs in record { each = w.each; together = w.together }
