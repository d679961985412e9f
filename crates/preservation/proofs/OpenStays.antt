-- A file that stays open stays plain, is not given out as new, and keeps its record and its bytes when it loses its last name.
use mathlib.Core.Path.{◌≡◌, refl, subst, ap, ◌∙◌}
use mathlib.Core.Bool.{true}
use mathlib.Core.Logic.{◌⊎◌, inl, inr}
use mathlib.Core.List.{List, [], ◌∷◌}
use Prim.Native.Nat.{ℕ, ◌<◌}
use native.Mathlib.Omega.{arith}
use native.Mathlib.Decide.{dec_lt}
use Rattle.rules.specs.Layout.{SLOTS, OPEN_FILES, FILE_KIND, FILE_LINKS, OPEN_SLOT, OPEN_REFERENCES, PLAIN}
use Rattle.rules.specs.Store.{Store, Fixed, View, view, slot, ofd_of, apply_all, block, open_but, is_on}
use Rattle.rules.specs.Refusals.{GRANTED, refusal_number}
use Rattle.rules.specs.Rom.{seen}
use Rattle.rules.specs.Sound.{sound}
use Rattle.rules.specs.Calls.{Call, operation_of, operation}
use Rattle.rules.specs.Effects.{create_changes, symlink_changes, name_changes, carry_out}
use Rattle.rules.specs.Step.{reply_to, store_after, outcome_of, into, act, step, Action, Calls, Borrows, serve}
use Rattle.rules.specs.declared.refusal.Refusal.{Refusal}
use Rattle.rules.specs.declared.refusal.Refusal.TheVariants.{Unsound, NoProcess, Malformed, NotHeld, WrongDirection, NameMissing, NotADirectory, WrongKind, BitsForbid, LabelForbids, NameThere, NotEmpty, TableFull, TooLong, TooDeep}
use Rattle.rules.specs.declared.request.Operation.{Operation}
use Rattle.rules.specs.declared.request.Operation.TheVariants as op
use Rattle.rules.specs.declared.decision.DirChange.{DirChange}
use Rattle.rules.specs.declared.decision.Unnamed.{Unnamed}
use Rattle.rules.specs.declared.decision.Output.{Output}
use Rattle.rules.specs.declared.decision.Effect.{Effect}
use Rattle.rules.specs.declared.decision.Effect.TheVariants as effect
use Rattle.rules.specs.Decisions.{Decision}
use Rattle.rules.proofs.Passed.{Fit, granting, refusing, fit-map, Makes, Passed, Permit, permitted}
use Rattle.rules.proofs.Passed as passed
use Rattle.preservation.specs.Claims.{word, IsOpen, OpenAfterEach, GivesOut, PlainAfterEach}
use Rattle.preservation.proofs.Tables.{Tables}
use Rattle.preservation.proofs.Scans.{any_found}
use Rattle.preservation.proofs.Sound.{Sound}
use Rattle.preservation.proofs.StoreChanges.{tables_of}
use Rattle.preservation.proofs.Counted.{means-on}
use Rattle.preservation.proofs.SoundStore.{SoundStore, means-sound}
use Rattle.preservation.proofs.OpenEffects.{Leaves}
use Rattle.preservation.proofs.NameEffects.{unlink-leaves, unnaming-is}
use Rattle.preservation.proofs.Granted.{Granting, unlinks, slot-free}
use Rattle.preservation.proofs.Decided.{grants}
use Rattle.preservation.proofs.Preserved.{serve-sound, stored-by}
use Rattle.preservation.proofs.TestedOnce.{step_by}
use Rattle.preservation.proofs.Kept.{Kept, unlinked-open-files, kept-unlink, kept_block, past_same}

-- ---- an open file is on a plain file, where it is on a slot

pub record OnFile (open_files : ℕ → ℕ → ℕ) (f : ℕ) : Type 0 where
  pub ofd : ℕ
  pub small : ofd < OPEN_FILES
  pub used : open_files ofd OPEN_REFERENCES ≡ 0 → ⊥
  pub on : open_files ofd OPEN_SLOT ≡ f

on-file : (s : Store) (f : ℕ) → IsOpen s f → OnFile (tables_of s).open_files f
unfolding open_but tables_of
on-file s f t =
    let a = any_found (is_on (view s).open_files (ofd_of OPEN_FILES) (slot f)) OPEN_FILES t in
    let w = (means-on (view s).open_files OPEN_FILES f a.at).holds a.passes in
    record { ofd = a.at; small = a.small; used = w.1.0; on = w.1.1 }

on-plain : (m : Tables) → Sound m → (f : ℕ) → f < SLOTS → OnFile m.open_files f → m.file f FILE_KIND ≡ PLAIN
on-plain m h f l o = rw o.on at ((h.opens.open-files o.ofd o.small).plain o.used (rw o.on l))

pub open_plain : (s : Store) → SoundStore s → (f : ℕ) → f < SLOTS → IsOpen s f → (tables_of s).file f FILE_KIND ≡ PLAIN
open_plain s h f l t = on-plain (tables_of s) h.tables f l (on-file s f t)

-- ---- what a call gives out was free

module _ (K : Fixed) (s : Store) (h : SoundStore s) (c : Call) (f : ℕ) (l : f < SLOTS) where
  abbrev v : View
  v = seen K.rom (view s)

  -- a create changes no open file, so f was open and plain before; what it gives out was free
  not_made : {o : Operation} {kind n : ℕ} {out : Output} {e : Effect} → Makes K v c o kind → Passed K v c o n out e → IsOpen (carry_out c e s) f → n ≡ f → ⊥
  unfolding carry_out create_changes name_changes apply_all
  not_made passed.plain (passed.creates _ k at b i q m d t) o z = omega (arith, open_plain s h f l o, rw z at (slot-free s h t))
  not_made passed.directory (passed.creates _ k at b i q m d t) o z = omega (arith, open_plain s h f l o, rw z at (slot-free s h t))

  makes-no-link : (kind : ℕ) → Makes K v c op.Symlink kind → ⊥
  makes-no-link kind = elim [ ]

  not-linked : {n : ℕ} {out : Output} {e : Effect} → Passed K v c op.Symlink n out e → IsOpen (carry_out c e s) f → n ≡ f → ⊥
  unfolding carry_out symlink_changes name_changes apply_all
  not-linked (passed.symlinks at m t) o z = omega (arith, open_plain s h f l o, rw z at (slot-free s h t))
  not-linked (passed.creates _ kind at b i q m d t) o z = absurd (makes-no-link kind i)

  not-created : {n : ℕ} {out : Output} {e : Effect} → (c.call ≡ 2) ⊎ ((c.call ≡ 3) ⊎ (c.call ≡ 18)) → Passed K v c (operation c) n out e → IsOpen (carry_out c e s) f → n ≡ f → ⊥
  unfolding operation_of
  not-created {n} {out} {e} (inl q) p = not_made passed.plain (subst (λ (k : ℕ). Passed K v c (operation_of k) n out e) q p)
  not-created {n} {out} {e} (inr (inl q)) p = not_made passed.directory (subst (λ (k : ℕ). Passed K v c (operation_of k) n out e) q p)
  not-created {n} {out} {e} (inr (inr q)) p = not-linked (subst (λ (k : ℕ). Passed K v c (operation_of k) n out e) q p)

pub refusal-some : (r : Refusal) → refusal_number r ≡ GRANTED → ⊥
unfolding refusal_number
refusal-some Unsound e = omega arith
refusal-some NoProcess e = omega arith
refusal-some Malformed e = omega arith
refusal-some NotHeld e = omega arith
refusal-some WrongDirection e = omega arith
refusal-some NameMissing e = omega arith
refusal-some NotADirectory e = omega arith
refusal-some WrongKind e = omega arith
refusal-some BitsForbid e = omega arith
refusal-some LabelForbids e = omega arith
refusal-some NameThere e = omega arith
refusal-some NotEmpty e = omega arith
refusal-some TableFull e = omega arith
refusal-some TooLong e = omega arith
refusal-some TooDeep e = omega arith

not-given : (K : Fixed) (s : Store) → SoundStore s → (c : Call) (f : ℕ) → f < SLOTS → (c.call ≡ 2) ⊎ ((c.call ≡ 3) ⊎ (c.call ≡ 18)) → {d : Decision} → Fit (Permit K (seen K.rom (view s)) c) d →
    IsOpen (store_after s c d) f → (reply_to K.rom s (into c.buffer) d).refusal ≡ GRANTED → (reply_to K.rom s (into c.buffer) d).value ≡ f → ⊥
unfolding store_after reply_to
not-given K s h c f l k (granting n o e p) t g q = not-created K s h c f l k p.passed t q
not-given K s h c f l k (refusing r j) t g q = refusal-some r g

given : (K : Fixed) (s : Store) (a : Action) (f : ℕ) → f < SLOTS → IsOpen (serve K s a).store f → GivesOut K s a f → ⊥
unfolding serve GivesOut act outcome_of
given K s (Calls c) f l t g = step_by K s c (λ x. IsOpen x.store f → x.reply.refusal ≡ GRANTED → x.reply.value ≡ f → ⊥)
    (λ e. not-given K s ((means-sound K s).holds e).store c f l g.0 (permitted K (seen K.rom (view s)) c))
    (λ _ _ r _. refusal-some Unsound r) t g.1.0 g.1.1
given K s (Borrows p i n) f l t g = g

-- ---- a list of calls and borrowing reads

pub open_stays : (K : Fixed) (s : Store) (f : ℕ) (xs : List Action) → sound K s ≡ true → f < SLOTS → OpenAfterEach K s f xs → PlainAfterEach K s f xs
unfolding OpenAfterEach PlainAfterEach
open_stays K s f [] e l t = tt
open_stays K s f (a ∷ xs) e l t = (plain, (given K s a f l t.0, open_stays K (serve K s a).store f xs (serve-sound K s a e) l t.1))
  where
    plain : word (serve K s a).store f FILE_KIND ≡ PLAIN
    plain = unfold tables_of in open_plain (serve K s a).store ((means-sound K (serve K s a).store).holds (serve-sound K s a e)).store f l t.0

-- ---- unlink

-- the slot of an open file is left as it was, but for its link count
pub record Unlinked (s t : Store) (f : ℕ) : Type 0 where
  pub words : (k : ℕ) → (k ≡ FILE_LINKS → ⊥) → word t f k ≡ word s f k
  pub bytes : block t.contents f ≡ block s.contents f

untouched : (s : Store) (f : ℕ) → Unlinked s s f
untouched s f = record { words = λ k _. refl; bytes = refl }

module _ (K : Fixed) (s : Store) (h : SoundStore s) (c : Call) (f : ℕ) (o : IsOpen s f) where
  unlinked-leaves : (t : Store) (m : Tables) → Leaves t m → (f < SLOTS → Kept (λ k. k ≡ FILE_LINKS → ⊥) f (tables_of s) m) → Unlinked s t f
  unlinked-leaves t m l e = by (dec_lt f SLOTS)
    where
      by : Dec (f < SLOTS) → Unlinked s t f
      by (yes hs) = unfold tables_of in (record {
        words = λ k n. ap (λ (x : Tables). x.file f k) l.has.is ∙ (e hs).words k n;
        bytes = kept_block s t f h.sized l.has.sized hs (unfold tables_of in (ap (λ (x : Tables). x.byte f) l.has.is ∙ (e hs).bytes));
      })
      by (no n) = let p = past_same s t f h.sized l.has.sized (omega arith) in record { words = λ k _. p.0 k; bytes = p.1 }

  unlink-same : {n : ℕ} {out : Output} (x : DirChange) (u : Unnamed) → Granting K s h c n out (effect.Unlinked x u) → Unlinked s (carry_out c (effect.Unlinked x u) s) f
  unfolding carry_out
  unlink-same x u (unlinks d i y a b) =
      let w = unnaming-is s h y in
      let l = unlink-leaves s h d i y a b w in
      unlinked-leaves _ _ l (λ hs. let k = open_plain s h f hs o in
      kept-unlink f s h d i y (λ q. omega (arith, k, rw (← q) at a.dir-kind)) (λ k u. u) w (λ z. omega (arith, z, on-plain _ l.sound f hs (rw (unlinked-open-files s h d i w) (on-file s f o)))))

  abbrev seen-view : View
  seen-view = seen K.rom (view s)

  makes-not : (kind : ℕ) → Makes K seen-view c op.Unlink kind → ⊥
  makes-not kind = elim [ ]

  unlink-passed : {n : ℕ} {out : Output} {e : Effect} → Passed K seen-view c op.Unlink n out e → Granting K s h c n out e → Unlinked s (carry_out c e s) f
  unlink-passed (passed.unlinks at w p r y) g = unlink-same _ _ g
  unlink-passed (passed.creates _ kind at b i q m d t) g = absurd (makes-not kind i)

  unlink-call : {n : ℕ} {out : Output} {e : Effect} → c.call ≡ 4 → Passed K seen-view c (operation c) n out e → Granting K s h c n out e → Unlinked s (carry_out c e s) f
  unfolding operation_of
  unlink-call {n} {out} {e} q p g = unlink-passed (subst (λ (k : ℕ). Passed K seen-view c (operation_of k) n out e) q p) g

pub unlink-keeps-open : (K : Fixed) (s : Store) (c : Call) (f : ℕ) → c.call ≡ 4 → IsOpen s f → Unlinked s (step K s c).store f
unfolding act outcome_of
unlink-keeps-open K s c f q t = step_by K s c (λ x. Unlinked s x.store f)
    (λ e. let w = (means-sound K s).holds e in
    stored-by (λ x. Unlinked s x f) s c (untouched s f) (fit-map (λ n o e p. unlink-call K s w.store c f t q p.passed (grants K s w c n o e p)) (permitted K (seen K.rom (view s)) c)))
    (λ _. untouched s f)
